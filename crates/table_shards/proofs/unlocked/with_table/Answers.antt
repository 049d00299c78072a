use Rattle.std.proofs.Common.{ℕ, ◌∷◌, ◌++◌, [], Option, sym, subst}
use Rattle.table_shards.specs.Audits.{Faults}
use Rattle.table_shards.proofs.FaultLaws.{fault_found, fault_stays}
use Rattle.table_shards.proofs.unlocked.with_table.Goals as goal

pub returns-in-None : goal.returns-in-None
returns-in-None c = λ before faults. fault_stays c.args.seats.now before c.args.table.now c.args.least faults c.in-None.ensures

pub returns-in-Some : goal.returns-in-Some
returns-in-Some c = λ before faults.
    subst (λ (o : Option (ℕ × ℕ)). Faults c.args.seats.now (before ++ c.args.table.now ∷ []) o) (sym c.lesser_fault.ensures)
    (fault_found c.args.seats.now before c.args.table.now c.args.least c.in-Some.seat faults c.in-Some.ensures)
