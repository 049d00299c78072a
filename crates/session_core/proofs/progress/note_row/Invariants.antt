use Rattle.std.proofs.Common.{◌≡◌, ◌++◌, take, drop}
use Rattle.session_core.specs.Paces.{received_in}
use Rattle.session_core.proofs.progress.note_row.Given as goal

abbrev pub invariant-loop-entry : goal.invariant-loop-entry
invariant-loop-entry l =
    take l.entry-index l.progress ++ received_in l.table l.number (drop l.entry-index l.progress) ≡ received_in l.table l.number l.fn.progress
