use Rattle.std.proofs.Common.{◌≡◌, drop}
use Rattle.session_core.specs.Actions.{confirms}
use Rattle.session_core.proofs.action.confirms.Given as goal

abbrev pub invariant-loop-action : goal.invariant-loop-action
invariant-loop-action l = confirms (drop l.action-index l.actions) ≡ confirms l.actions
