use Rattle.std.proofs.Common.{◌≡◌, ◌∷◌, [], drop}
use Rattle.table_types.specs.Batches.{faults_from}
use Rattle.table_types.proofs.batch.fault_of_table.Given as goal

abbrev pub invariant-loop-index : goal.invariant-loop-index
invariant-loop-index l = faults_from l.index (l.table ∷ []) (drop l.index l.updates) ≡ faults_from 0 (l.table ∷ []) l.updates
