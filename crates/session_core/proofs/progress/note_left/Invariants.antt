use Rattle.std.proofs.Common.{◌≡◌, ◌++◌, take, drop}
use Rattle.session_core.specs.Paces.{left_in}
use Rattle.session_core.proofs.progress.note_left.Given as goal

abbrev pub invariant-loop-entry : goal.invariant-loop-entry
invariant-loop-entry l = take l.entry-index l.progress ++ left_in l.left (drop l.entry-index l.progress) ≡ left_in l.left l.fn.progress
