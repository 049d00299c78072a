use Rattle.std.proofs.Common.{◌≡◌, drop}
use Rattle.tolerant_intake.specs.Loose.{has_name_type}
use Rattle.tolerant_intake.proofs.loose_update.has_name_type.Given as goal

abbrev pub invariant-loop-entry : goal.invariant-loop-entry
invariant-loop-entry l = has_name_type (drop l.entry-index l.types) ≡ has_name_type l.types
