-- An audit (profile): whether the receipts of all seats agree with the histories of all tables.
use Rattle.std.specs.Prelude.{◌≡◌, ℕ, ◌+◌, ◌<◌, ◌==◌, ◌&&◌, ◌⊎◌, Bool, true, false, nat_le, List, Option, Some, None, map, if◌then◌else◌}
use Rattle.std.specs.List.{AllByRecursion}
use Rattle.table_cell.specs.Histories.{CellState, IsSoundCell, Kept}
use Rattle.table_shards.specs.declared.unlocked.UnlockedTable.{UnlockedTable}
use Rattle.table_shards.specs.declared.errors.AuditError.{AuditError}
use Rattle.table_shards.specs.declared.errors.AuditError.TheVariants as errors
use Rattle.table_shards.specs.Receipts.{SeatState}
use Rattle.table_shards.specs.Roll.{AreSeats}
use Rattle.table_shards.specs.Rounds.{RoundState}
use Rattle.table_shards.specs.Agreement.{Agree, Compares, OneOf, id_of}

-- tables taken out of their locks: how many seats were made with them, and for each table its id, how many events it
-- had and how often its rows had got new numbers when the round began, and its cell
pub record UnlockedState : Type 0 where
  pub seats : ℕ
  pub tables : List UnlockedTable

-- audited tables and seats
pub record AuditState : Type 0 where
  pub unlocked : UnlockedState
  pub seats : List SeatState

-- the cell is the table's own, it still has all events of the round, which neither a checkpoint nor a slide has dropped, and its
-- rows got no new numbers in the round
abbrev pub is_intact : UnlockedTable → Bool
is_intact t = id_of t.cell == t.table && nat_le (t.cell.dropped + t.cell.slid) t.began && t.cell.renewals == t.renewals

-- the state is the replay of the history, and each kept batch is what was unacknowledged at its place
abbrev pub IsLegal : CellState → Type 0
IsLegal c = IsSoundCell c × Kept c

-- the cell is the table's and legal, and the receipts of the seats are its events of the round
abbrev pub IsRight : List SeatState → UnlockedTable → Type 0
IsRight seats t = (is_intact t ≡ true) × IsLegal t.cell × Agree t.cell t.began seats

-- what is wrong with a table: nothing; or a seat, which is 0 if the cell isn't the table's, has dropped events of the
-- round or got new numbers in it, and otherwise what the comparison returns
abbrev pub Finds : List SeatState → UnlockedTable → Option ℕ → Type 0
Finds seats t None = IsRight seats t
Finds seats t (Some seat) = ((is_intact t ≡ false) × (seat ≡ 0)) ⊎ ((is_intact t ≡ true) × Compares t.cell t.began seats (Some seat))

-- what an audit returns; of the tables with a fault it names the one with the least id
abbrev pub Audits : UnlockedState → List SeatState → Option AuditError → Type 0
Audits u seats None = AreSeats u.seats seats × AllByRecursion (IsRight seats) u.tables
Audits u seats (Some errors.MissingSeat) = AreSeats u.seats seats → ⊥
Audits u seats (Some (errors.Mismatch table seat)) =
    AreSeats u.seats seats
    × OneOf (λ t. (t.table ≡ table) × Finds seats t (Some seat)) u.tables
    × AllByRecursion (λ t. t.table < table → IsRight seats t) u.tables

-- the least id of a table with a fault, and what is wrong with it
abbrev pub Faults : List SeatState → List UnlockedTable → Option (ℕ × ℕ) → Type 0
Faults seats ts None = AllByRecursion (IsRight seats) ts
Faults seats ts (Some fault) =
    OneOf (λ t. (t.table ≡ fault.0) × Finds seats t (Some fault.1)) ts × AllByRecursion (λ t. t.table < fault.0 → IsRight seats t) ts

-- the id of each table, and how many events it had and how often its rows had got new numbers when the round began
abbrev pub table_rounds : List UnlockedTable → List (ℕ × ℕ × ℕ)
table_rounds ts = map (λ t. (t.table, t.began, t.renewals)) ts

-- the round of these tables
abbrev pub round_of_unlocked : UnlockedState → RoundState
round_of_unlocked u = record { seats = u.seats; tables = table_rounds u.tables }

-- of two faults, the one with the lesser table id, or the former if the ids are equal
abbrev pub lesser_fault : Option (ℕ × ℕ) → ℕ × ℕ → Option (ℕ × ℕ)
lesser_fault None fault = Some fault
lesser_fault (Some least) fault = if nat_le least.0 fault.0 then Some least else Some fault
