use Rattle.std.proofs.Common.{◌≡◌, ◌++◌}
use Rattle.std.specs.Map.{values_of}
use Rattle.peers_msg.proofs.received.Received.copy.Given as goal

abbrev pub invariant-loop-table : goal.invariant-loop-table
invariant-loop-table l = l.copy.tables ++ values_of l.table-iterator ≡ l.self.tables
