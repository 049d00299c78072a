use Rattle.std.proofs.Common.{ap, sym, ◌∙◌}
use Rattle.std.specs.Ordering.{is_eq}
use Rattle.table_types.specs.declared.key.Key.TheVariants as keys
use Rattle.node_commands.proofs.CountLaws.{found_here, found_later}
use Rattle.node_commands.proofs.rounds.table.count_at.Goals as goal

pub returns-then-is_eq : goal.returns-then-is_eq
returns-then-is_eq c = λ some.
    let e = c.loop-key-item.result in
    let same = ap is_eq (sym c.cmp.ensures) ∙ sym c.is_eq.ensures ∙ c.if-is_eq.true in
    (e.1, found_here (keys.Int c.args.number) c.args.rows.now c.loop-key.key-index e c.loop-key-test.true c.loop-key-item.is same c.loop-key.invariant, c.count_of.ensures some)

pub loop-key-preserved : goal.loop-key-preserved
loop-key-preserved c =
    let e = c.loop-key-item.result in
    let other = ap is_eq (sym c.cmp.ensures) ∙ sym c.is_eq.ensures ∙ c.if-is_eq.false in
    found_later (keys.Int c.args.number) c.args.rows.now c.loop-key.key-index e c.loop-key-test.true c.loop-key-item.is other c.loop-key.invariant
