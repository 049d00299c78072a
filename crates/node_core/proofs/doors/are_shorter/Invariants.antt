use Rattle.std.proofs.Common.{◌≡◌, drop}
use Rattle.std.specs.List.{list_all}
use Rattle.node_core.specs.Doors.{is_shorter}
use Rattle.node_core.proofs.doors.are_shorter.Given as goal

-- whether all doors are such is whether those not yet looked at are
abbrev pub invariant-loop-since : goal.invariant-loop-since
invariant-loop-since l = list_all (is_shorter l.own) (drop l.since-index l.silent) ≡ list_all (is_shorter l.own) l.silent
