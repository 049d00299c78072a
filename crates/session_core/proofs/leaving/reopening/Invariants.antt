use Rattle.std.proofs.Common.{◌≡◌, ◌++◌, drop}
use Rattle.session_core.specs.Standing.{reopening}
use Rattle.session_core.proofs.leaving.reopening.Given as goal

abbrev pub invariant-loop-table : goal.invariant-loop-table
invariant-loop-table l = l.actions.items ++ reopening (drop l.table-index l.tables) ≡ reopening l.tables
