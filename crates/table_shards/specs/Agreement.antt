-- Agreement (profile): the seats' receipts of a table are the table's events, one for one.
use Rattle.std.specs.Prelude.{◌≡◌, ℕ, ◌<◌, ◌≤◌, ◌⊎◌, List, [], ◌∷◌, Option, Some, None, nat_lt, if◌then◌else◌}
use Rattle.std.specs.List.{AllByRecursion}
use Rattle.table_cell.specs.Histories.{CellState, events_of, event_in}
use Rattle.table_shards.specs.Receipts.{ReceiptState, SeatState, all_receipts, receipts_of, seen_of, times, PlacesRise}

-- some element has the property
abbrev pub OneOf : {A : Type 0} → (A → Type 0) → List A → Type 0
OneOf P [] = ⊥
OneOf P (x ∷ xs) = P x ⊎ OneOf P xs

-- the id of a table
abbrev pub id_of : CellState → ℕ
id_of c = c.state.definition.id

-- the receipt is the table's event at its place, with its reply
abbrev pub IsEntry : CellState → ReceiptState → Type 0
IsEntry c r = event_in c r.place ≡ Some (r.event, r.reply)

-- Each event of the table after the first `began` is the receipt of exactly one seat, exactly once; each receipt of the
-- table is one of these events, at its place and with its reply; and the places of each seat ascend.
pub record Agree (c : CellState) (began : ℕ) (seats : List SeatState) : Type 0 where
  pub once : (place : ℕ) → began < place → place ≤ events_of c → times place (all_receipts (id_of c) seats) ≡ 1
  pub own : AllByRecursion (λ r. (began < r.place) × IsEntry c r) (all_receipts (id_of c) seats)
  pub rise : AllByRecursion (λ s. PlacesRise 0 (receipts_of (id_of c) s) (seen_of (id_of c) s)) seats

-- each of the seat's receipts of the table is the table's event at its place
abbrev pub AreEntries : CellState → SeatState → Type 0
AreEntries c s = AllByRecursion (IsEntry c) (receipts_of (id_of c) s)

-- `number` is the least number of a seat with a receipt that isn't the table's event at its place
abbrev pub IsLeastStray : CellState → List SeatState → ℕ → Type 0
IsLeastStray c seats number =
    OneOf (λ s. (s.number ≡ number) × (AreEntries c s → ⊥)) seats
    × AllByRecursion (λ s. (AreEntries c s → ⊥) → number ≤ s.number) seats

-- what comparing a table with seats returns: `None` if they agree, and otherwise the least seat with a receipt that
-- isn't the table's event at its place, or 0 if there is none
abbrev pub Compares : CellState → ℕ → List SeatState → Option ℕ → Type 0
Compares c began seats None = Agree c began seats
Compares c began seats (Some number) =
    (Agree c began seats → ⊥)
    × (IsLeastStray c seats number ⊎ (AllByRecursion (AreEntries c) seats × (number ≡ 0)))

-- the lesser of two numbers, or the latter if there is no former
abbrev pub lesser : Option ℕ → ℕ → ℕ
lesser None number = number
lesser (Some least) number = if nat_lt least number then least else number

-- the least number of a seat with a receipt that isn't the table's event at its place, if there is one
abbrev pub Strays : CellState → List SeatState → Option ℕ → Type 0
Strays c seats None = AllByRecursion (AreEntries c) seats
Strays c seats (Some number) = IsLeastStray c seats number
