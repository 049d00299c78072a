-- What a renewal of numbers leaves.
use Rattle.std.proofs.Common.{◌≡◌, ℕ, true, false, inr, subst}
use Rattle.std.specs.Prelude.{Err, Ok, Result}
use Rattle.table_cell.specs.Histories.{CellState}
use Rattle.table_cell.specs.Renumbering.{Renumbers}
use Rattle.table_cell.specs.declared.errors.RenumberError.{RenumberError}
use Rattle.table_cell.specs.declared.errors.RenumberError.TheVariants as unrenumbered
use Rattle.table_shards.specs.Holding.{Looks}
use Rattle.table_shards.specs.Receipts.{SeatState}
use Rattle.table_shards.specs.declared.errors.ShardError.{ShardError}
use Rattle.table_shards.specs.declared.errors.ShardError.TheVariants as errors
use Rattle.staying_node.specs.Renewals.{Renews, is_spent}

-- a call that is refused leaves the table as it was
refused_stays : (table : ℕ) (c e : CellState) (s t : SeatState) (error : ShardError RenumberError) → Looks (λ d r x. Renumbers d r x) table c s (Err error) e t → e ≡ c
refused_stays table c e s t errors.Memory looks = absurd looks
refused_stays table c e s t errors.NoTable (other, same, seat) = same
refused_stays table c e s t (errors.SeatAhead seen found) (own, ahead, same, seat) = same
refused_stays table c e s t (errors.Cell unrenumbered.SessionOpen) (may, (sessions, same), seat) = same
refused_stays table c e s t (errors.Cell unrenumbered.Memory) (may, (sessions, same), seat) = same

pub waits : (table : ℕ) (c e : CellState) (s t : SeatState) (r : Result (Unit {0}) (ShardError RenumberError)) (error : ShardError RenumberError) → is_spent c ≡ true → r ≡ Err error
    → Looks (λ d r x. Renumbers d r x) table c s r e t → Renews c true e
waits table c e s t r error spent is looks =
    (spent, refused_stays table c e s t error (subst (λ (x : Result (Unit {0}) (ShardError RenumberError)). Looks (λ d r y. Renumbers d r y) table c s x e t) is looks))

pub renews : (table : ℕ) (c e : CellState) (s t : SeatState) (r : Result (Unit {0}) (ShardError RenumberError)) (done : Unit {0}) → is_spent c ≡ true → r ≡ Ok done
    → Looks (λ d r x. Renumbers d r x) table c s r e t → Renews c false e
renews table c e s t r done spent is looks =
    let there = subst (λ (x : Result (Unit {0}) (ShardError RenumberError)). Looks (λ d r y. Renumbers d r y) table c s x e t) is looks in
    inr (spent, there.1.0, there.1.1)
