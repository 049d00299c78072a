use Rattle.std.proofs.Common.{◌≡◌, drop}
use Rattle.table_types.specs.Rosters.{has_id}
use Rattle.node_text.specs.Worlds.{definitions}
use Rattle.node_text.proofs.worlds.WorldScript.table.Given as goal

abbrev pub invariant-loop-table : goal.invariant-loop-table
invariant-loop-table l = has_id l.id (definitions (drop l.table-index l.self.tables.items)) ≡ has_id l.id (definitions l.self.tables.items)
