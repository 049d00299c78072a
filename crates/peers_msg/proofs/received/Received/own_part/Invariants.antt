use Rattle.std.proofs.Common.{◌≡◌, ◌++◌}
use Rattle.std.specs.Prelude.{filter}
use Rattle.std.specs.Map.{values_of}
use Rattle.peers_msg.specs.OwnTables.{is_own}
use Rattle.peers_msg.proofs.received.Received.own_part.Given as goal

abbrev pub invariant-loop-table : goal.invariant-loop-table
invariant-loop-table l = l.part.tables ++ filter (is_own l.roster) (values_of l.table-iterator) ≡ filter (is_own l.roster) l.self.tables
