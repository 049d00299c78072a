use Rattle.std.proofs.Common.{◌≡◌, ◌∙◌, [], ap, false, refl, rules, subst, sym}
use Rattle.node_text.specs.Worlds.{definitions, has_like}
use Rattle.node_text.proofs.WorldTables.{none_are, table_read}
use Rattle.node_text.proofs.worlds.WorldScript.read_table.Goals as goal

pub returns : goal.returns
returns c =
    let others = c.args.self.now.tables.items in
    let unlike : has_like c.in_ok-table.table (definitions others) ≡ false
    = ap (λ ts. has_like c.in_ok-table.table (definitions ts)) (sym c.as_slice.ensures.value) ∙ sym c.has_like.ensures ∙ c.if-has_like.false in
    let none : c.args.self.now.lines.items ≡ [] = none_are c.args.self.now c.is_empty.result c.is_empty.ensures (search rules) in
    table_read c.args.self.now _ c.new.result c.push_within.result refl c.push_within.ensures.pushed c.push_within.ensures.stays c.new.ensures.table
    (subst (λ d. has_like d (definitions others) ≡ false) (sym c.new.ensures.definition) unlike) none
