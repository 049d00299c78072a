use Rattle.std.proofs.Common.{◌≡◌, drop}
use Rattle.std.specs.List.{list_all}
use Rattle.staying_node.specs.Acknowledgements.{is_acknowledged}
use Rattle.staying_node.proofs.acknowledged.are_acknowledged.Given as goal

-- whether all are acknowledged is whether those not yet looked at are
abbrev pub invariant-loop-table : goal.invariant-loop-table
invariant-loop-table l = list_all is_acknowledged (drop l.table-index l.tables) ≡ list_all is_acknowledged l.tables
