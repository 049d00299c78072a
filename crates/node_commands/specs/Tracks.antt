-- What a thread of a round does to the table (profile).
use Rattle.std.specs.Prelude.{◌≡◌, ℕ, ◌<◌, ◌≤◌, ◌==◌, Bool, true, false, List, ◌++◌, length}
use Rattle.std.specs.List.{AllByRecursion}
use Rattle.table_types.specs.declared.change.Change.TheVariants as changes
use Rattle.table_types.specs.declared.data_type.DataType.TheVariants as types
use Rattle.table_types.specs.declared.key.Key.TheVariants as keys
use Rattle.table_types.specs.declared.version.Version.TheVariants as versions
use Rattle.table_cell.specs.declared.events.CellEvent.{CellEvent}
use Rattle.table_cell.specs.declared.events.CellEvent.TheVariants as events
use Rattle.table_shards.specs.Receipts.{ReceiptState, SeatState, receipts_of}

-- the receipt is of a track by the seat, which adds 1 to gpc0 of the key at the least moment
abbrev pub IsTrack : ℕ → ℕ → ReceiptState → Type 0
IsTrack seat key r = r.event ≡ events.Track seat (keys.Int key) (changes.Add types.Gpc0 1) 4294967296

-- the seat has exactly `tracks` receipts of table 1, and each is of a track of the key that is the seat's number
abbrev pub HasTracked : ℕ → SeatState → Type 0
HasTracked tracks s = (length (receipts_of 1 s) ≡ tracks) × AllByRecursion (IsTrack s.number s.number) (receipts_of 1 s)

-- the event is one of the worker: it opens session 1 with version 2.1, copies for it, or acknowledges for it; so it changes no row
abbrev pub is_work : CellEvent → Bool
is_work (events.Copy session kind limit now) = session == 1
is_work (events.Ack session number) = session == 1
is_work (events.Open session versions.V21) = session == 1
is_work event = false

-- the seat of a thread has tracked as often as the thread was asked to, and any other seat has done the worker's work alone
abbrev pub HasDoneItsPart : ℕ → ℕ → SeatState → Type 0
HasDoneItsPart threads tracks s =
    (s.number ≤ threads → HasTracked tracks s) × (threads < s.number → AllByRecursion (λ r. is_work r.event ≡ true) (receipts_of 1 s))

-- the seat has exactly `tracks` more receipts of table 1, and each of these is of a track of the key
abbrev pub GainsTracks : ℕ → ℕ → SeatState → SeatState → Type 0
GainsTracks key tracks s s' =
    (s'.number ≡ s.number) × (made : List ReceiptState) × (receipts_of 1 s' ≡ receipts_of 1 s ++ made) × (length made ≡ tracks)
    × AllByRecursion (IsTrack s.number key) made

-- the seat has more receipts of table 1, and each of these is of an event of the worker
abbrev pub GainsWork : SeatState → SeatState → Type 0
GainsWork s s' =
    (s'.number ≡ s.number) × (made : List ReceiptState) × (receipts_of 1 s' ≡ receipts_of 1 s ++ made) × AllByRecursion (λ r. is_work r.event ≡ true) made
