use Rattle.std.proofs.Common.{◌≡◌, drop}
use Rattle.tolerant_intake.specs.Loose.{values_after}
use Rattle.tolerant_intake.proofs.loose_update.values_after.Given as goal

abbrev pub invariant-loop-entry : goal.invariant-loop-entry
invariant-loop-entry l = values_after (drop l.entry-index l.types) l.rest ≡ values_after l.types l.bytes
