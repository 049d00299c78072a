use Rattle.std.proofs.Common.{◌≡◌, drop}
use Rattle.std.specs.List.{list_any}
use Rattle.session_core.specs.Standing.{is_send}
use Rattle.session_core.proofs.stay.any_send.Given as goal

abbrev pub invariant-loop-action : goal.invariant-loop-action
invariant-loop-action l = list_any is_send (drop l.action-index l.actions) ≡ list_any is_send l.actions
