-- Whether all seats of a round are present (profile).
use Rattle.std.specs.Prelude.{◌≡◌, ℕ, ◌≤◌, ◌==◌, ◌&&◌, Bool, List, nat_le, if◌then◌else◌}
use Rattle.std.specs.List.{count_by}
use Rattle.table_shards.specs.Receipts.{SeatState}

abbrev pub has_number : ℕ → SeatState → Bool
has_number number s = s.number == number

-- the seats 1 to `most`, each once, in any order
abbrev pub AreSeats : ℕ → List SeatState → Type 0
AreSeats most seats = (number : ℕ) → count_by (has_number number) seats ≡ (if nat_le 1 number && nat_le number most then 1 else 0)

-- a seat with one of these numbers
abbrev pub IsSeatOf : ℕ → SeatState → Type 0
IsSeatOf most s = (1 ≤ s.number) × (s.number ≤ most)
