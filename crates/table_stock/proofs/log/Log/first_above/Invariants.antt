use Rattle.std.proofs.Common.{◌≡◌, ◌≤◌, ◌-◌, ℕ, [], drop, length, take}
use Rattle.std.specs.Prelude.{filter, nat_lt}
use Rattle.table_stock.specs.Shelves.{LogRises}
use Rattle.table_stock.proofs.log.Log.first_above.Given as goal

abbrev pub invariant-loop-low : goal.invariant-loop-low
invariant-loop-low l = record {
  ordered : l.low ≤ l.high;
  within : l.high ≤ length l.self.entries;
  none : (least next : ℕ) → LogRises least next l.self.entries → filter (λ entry. nat_lt l.number entry.0) (take l.low l.self.entries) ≡ [];
  all : (least next : ℕ) → LogRises least next l.self.entries → filter (λ entry. nat_lt l.number entry.0) (drop l.high l.self.entries) ≡ drop l.high l.self.entries;
}

abbrev pub decreases-loop-low : goal.decreases-loop-low
decreases-loop-low l = l.high - l.low
