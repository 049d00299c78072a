use Rattle.std.proofs.Common.{◌≡◌, drop}
use Rattle.session_core.specs.Paces.{stores_names}
use Rattle.session_core.proofs.progress.stores_names.Given as goal

abbrev pub invariant-loop-entry : goal.invariant-loop-entry
invariant-loop-entry l = stores_names l.table (drop l.entry-index l.progress) ≡ stores_names l.table l.progress
