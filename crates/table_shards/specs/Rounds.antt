-- A round (profile): tables under their locks, and the seats from which threads change them.
use Rattle.std.specs.Prelude.{ℕ, zero, suc, ◌+◌, List, [], ◌∷◌, map}
use Rattle.table_cell.specs.Histories.{CellState, events_of}
use Rattle.table_shards.specs.Receipts.{SeatState, fresh_seat}
use Rattle.table_shards.specs.Agreement.{id_of}

-- how many seats were made with the tables, and each table as it was when it was put under its lock
pub record ShardsState : Type 0 where
  pub seats : ℕ
  pub cells : List CellState

-- how many seats a round has, and for each of its tables the id, and how many events the table had and how often its rows had
-- got new numbers when the round began
pub record RoundState : Type 0 where
  pub seats : ℕ
  pub tables : List (ℕ × ℕ × ℕ)

-- a table's id, and how many events it has and how often its rows got new numbers when a round begins
abbrev pub begun : CellState → ℕ × ℕ × ℕ
begun c = (id_of c, events_of c, c.renewals)

-- the round that begins with these tables
abbrev pub round_of_shards : ShardsState → RoundState
round_of_shards s = record { seats = s.seats; tables = map begun s.cells }

-- `count` seats that have seen nothing yet, numbered from `first`
abbrev pub fresh_from : ℕ → ℕ → List SeatState
fresh_from first zero = []
fresh_from first (suc count) = fresh_seat first ∷ fresh_from (first + 1) count

abbrev pub fresh_seats : ℕ → List SeatState
fresh_seats count = fresh_from 1 count
