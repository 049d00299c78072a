use Rattle.std.proofs.Common.{◌≡◌, [], refl, rules}
use Rattle.node_text.proofs.WorldTables.{none_are, table_set}
use Rattle.node_text.proofs.worlds.WorldScript.read_setting.Goals as goal

pub returns : goal.returns
returns c =
    let none : c.args.self.now.lines.items ≡ [] = none_are c.args.self.now c.is_empty.result c.is_empty.ensures (search rules) in
    table_set c.args.self.now _ c.in_ok-index.index c.index_mut.result.now c.read_setting.new.self refl refl c.index_mut.ensures.value
    c.read_setting.ensures.definition c.read_setting.ensures.table none
