use Rattle.std.proofs.Common.{◌≡◌, ◌++◌, take, drop}
use Rattle.session_core.specs.Paces.{copied_in}
use Rattle.session_core.proofs.progress.note_copy.Given as goal

abbrev pub invariant-loop-entry : goal.invariant-loop-entry
invariant-loop-entry l =
    take l.entry-index l.progress ++ copied_in l.table l.number l.now (drop l.entry-index l.progress) ≡ copied_in l.table l.number l.now l.fn.progress
