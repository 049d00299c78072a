use Rattle.std.proofs.Common.{◌≡◌, drop}
use Rattle.session_core.specs.Paces.{noted}
use Rattle.session_core.proofs.progress.note_actions.Given as goal

abbrev pub invariant-loop-action : goal.invariant-loop-action
invariant-loop-action l = noted (drop l.action-index l.actions) l.progress.items ≡ noted l.actions l.fn.progress.items
