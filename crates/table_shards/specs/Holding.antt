-- What the calls of the module `held` do (profile), under the lock of one table and for one seat.
use Rattle.std.specs.Prelude.{◌≡◌, ◌≢◌, ℕ, ◌+◌, ◌≤◌, List, Some, Result, Ok, Err}
use Rattle.table_types.specs.declared.update.Update.{Update}
use Rattle.table_cell.specs.Histories.{CellState, IsLatestBatch, Slides, events_of}
use Rattle.table_cell.specs.declared.errors.StrangeBatch.{StrangeBatch}
use Rattle.table_cell.specs.declared.events.CellEvent.{CellEvent}
use Rattle.table_cell.specs.declared.events.CellReply.{CellReply}
use Rattle.table_shards.specs.declared.errors.ShardError.{ShardError}
use Rattle.table_shards.specs.declared.errors.ShardError.TheVariants as errors
use Rattle.table_shards.specs.Receipts.{SeatState, ahead_of, seen_of, with_receipt}
use Rattle.table_shards.specs.Agreement.{id_of}

-- the cell is the table's, and the seat has seen no more events than it has
abbrev pub MayCall : ℕ → CellState → SeatState → Type 0
MayCall table c s = (id_of c ≡ table) × (seen_of table s ≤ events_of c)

-- the seat with a receipt of the next event: the table, the event, its place and its reply
abbrev pub receipted : ℕ → CellState → SeatState → CellEvent → CellReply → SeatState
receipted table c s event reply = with_receipt s table (record { place = events_of c + 1; event = event; reply = reply })

-- What a call of `held` does, given what the cell's own call does (`call`: from which cell, with which result, to which
-- cell). If the cell's call succeeds, the result and the cell are those of that call, and the seat is as `left` says.
-- The call isn't made, and nothing has changed, if the cell is another table's, if the seat has seen more events than
-- the cell has, or if memory for the receipt runs out. If the cell refuses the call, the seat stays as it was.
abbrev pub Holds : {A E : Type 0} → (CellState → Result A E → CellState → Type 0) → (A → SeatState) → ℕ → CellState → SeatState → Result A (ShardError E) → CellState → SeatState → Type 0
Holds call left table c s (Ok a) c' s' = MayCall table c s × call c (Ok a) c' × (s' ≡ left a)
Holds call left table c s (Err errors.NoTable) c' s' = (id_of c ≢ table) × (c' ≡ c) × (s' ≡ s)
Holds call left table c s (Err (errors.SeatAhead seen found)) c' s' =
    (id_of c ≡ table) × (ahead_of s table (events_of c) ≡ Some (seen, found)) × (c' ≡ c) × (s' ≡ s)
Holds call left table c s (Err errors.Memory) c' s' = MayCall table c s × (c' ≡ c) × (s' ≡ s)
Holds call left table c s (Err (errors.Cell error)) c' s' = MayCall table c s × call c (Err error) c' × (s' ≡ s)

-- The same for a call that makes this event and returns nothing but that it was made: the cell's call gave some answer,
-- and the receipt at the seat has the reply of that answer.
abbrev pub Leaves : {A E : Type 0} → (CellState → Result A E → CellState → Type 0) → CellEvent → (A → CellReply) → ℕ → CellState → SeatState → Result (Unit {0}) (ShardError E) → CellState → SeatState → Type 0
Leaves {A} call event reply table c s (Ok done) c' s' =
    (answer : A) × Holds call (λ a. receipted table c s event (reply a)) table c s (Ok answer) c' s'
Leaves call event reply table c s (Err error) c' s' = Holds call (λ a. receipted table c s event (reply a)) table c s (Err error) c' s'

-- The same for a call that makes no event: it needs no memory for a receipt, and the seat stays as it was.
abbrev pub Looks : {A E : Type 0} → (CellState → Result A E → CellState → Type 0) → ℕ → CellState → SeatState → Result A (ShardError E) → CellState → SeatState → Type 0
Looks call table c s (Err errors.Memory) c' s' = ⊥
Looks call table c s r c' s' = Holds call (λ done. s) table c s r c' s'

-- whether the call may be made, apart from memory, and why not
abbrev pub Allows : {E : Type 0} → ℕ → CellState → SeatState → Result (Unit {0}) (ShardError E) → Type 0
Allows table c s (Ok done) = MayCall table c s
Allows table c s (Err errors.NoTable) = id_of c ≢ table
Allows table c s (Err (errors.SeatAhead seen found)) = (id_of c ≡ table) × (ahead_of s table (events_of c) ≡ Some (seen, found))
Allows table c s (Err error) = ⊥

-- why the call isn't made
abbrev pub Refuses : {E : Type 0} → ℕ → CellState → SeatState → ShardError E → Type 0
Refuses table c s errors.Memory = MayCall table c s
Refuses table c s errors.NoTable = id_of c ≢ table
Refuses table c s (errors.SeatAhead seen found) = (id_of c ≡ table) × (ahead_of s table (events_of c) ≡ Some (seen, found))
Refuses table c s (errors.Cell error) = ⊥

-- whether the batch is the latest one of the session; nothing changes
abbrev pub Settles : CellState → ℕ → List Update → Result (Unit {0}) StrangeBatch → CellState → Type 0
Settles c session us (Ok done) e = IsLatestBatch c session us × (e ≡ c)
Settles c session us (Err strange) e = (IsLatestBatch c session us → ⊥) × (e ≡ c)

-- the cell's history slides, which is never refused
abbrev pub SlidesAlways : {E : Type 0} → CellState → Result (List (CellEvent × CellReply)) E → CellState → Type 0
SlidesAlways c (Ok hs) e = Slides c hs e
SlidesAlways c (Err error) e = ⊥
