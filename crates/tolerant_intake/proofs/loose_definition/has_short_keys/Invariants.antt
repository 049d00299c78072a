use Rattle.std.proofs.Common.{◌≡◌, drop}
use Rattle.tolerant_intake.specs.StandIns.{has_short_keys}
use Rattle.tolerant_intake.proofs.loose_definition.has_short_keys.Given as goal

abbrev pub invariant-loop-table : goal.invariant-loop-table
invariant-loop-table l = has_short_keys (drop l.table-index l.roster) l.name ≡ has_short_keys l.roster l.name
