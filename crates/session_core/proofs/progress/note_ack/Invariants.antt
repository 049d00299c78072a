use Rattle.std.proofs.Common.{◌≡◌, ◌++◌, take, drop}
use Rattle.session_core.specs.Paces.{acknowledged_in}
use Rattle.session_core.proofs.progress.note_ack.Given as goal

abbrev pub invariant-loop-entry : goal.invariant-loop-entry
invariant-loop-entry l =
    take l.entry-index l.progress ++ acknowledged_in l.table l.number (drop l.entry-index l.progress) ≡ acknowledged_in l.table l.number l.fn.progress
