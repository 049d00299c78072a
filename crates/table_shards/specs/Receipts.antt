-- Receipts (profile): what a seat keeps of each event that its thread made, and of its calls that made none.
use Rattle.std.specs.Prelude.{ℕ, ◌+◌, ◌%◌, ◌^◌, ◌<◌, ◌≤◌, ◌==◌, List, [], ◌∷◌, ◌++◌, map, Option, Some, None, if◌then◌else◌, nat_lt}
use Rattle.std.specs.List.{count_by, flat_map}
use Rattle.table_cell.specs.declared.events.CellEvent.{CellEvent}
use Rattle.table_cell.specs.declared.events.CellReply.{CellReply}
use Rattle.table_shards.specs.declared.answers.Answered.{Answered}

-- an event's place among all events of its table, from 1, the event, and the table's reply
pub record ReceiptState : Type 0 where
  pub place : ℕ
  pub event : CellEvent
  pub reply : CellReply

-- what a seat has of one table: the place up to which it has seen the table's events, and its receipts of them
pub record PageState : Type 0 where
  pub table : ℕ
  pub seen : ℕ
  pub receipts : List ReceiptState

-- a seat's number, what it has of each table for which it made an event, how many of its calls got an answer without an
-- event, and the latest of these answers
pub record SeatState : Type 0 where
  pub number : ℕ
  pub pages : List PageState
  pub answers : ℕ
  pub latest : Option Answered

-- a seat that has seen nothing yet
abbrev pub fresh_seat : ℕ → SeatState
fresh_seat number = record { number = number; pages = []; answers = 0; latest = None }

abbrev pub page_at : ℕ → List PageState → Option PageState
page_at table [] = None
page_at table (p ∷ ps) = if p.table == table then Some p else page_at table ps

abbrev pub seen_on : Option PageState → ℕ
seen_on None = 0
seen_on (Some p) = p.seen

abbrev pub receipts_on : Option PageState → List ReceiptState
receipts_on None = []
receipts_on (Some p) = p.receipts

-- the place up to which the seat has seen the table's events, and 0 if it has seen none
abbrev pub seen_of : ℕ → SeatState → ℕ
seen_of table s = seen_on (page_at table s.pages)

-- the seat's receipts of the table, in the order in which they were added
abbrev pub receipts_of : ℕ → SeatState → List ReceiptState
receipts_of table s = receipts_on (page_at table s.pages)

-- each receipt is of a later place than the one before, and none is of a place beyond what the seat has seen
abbrev pub PlacesRise : ℕ → List ReceiptState → ℕ → Type 0
PlacesRise before [] seen = before ≤ seen
PlacesRise before (r ∷ rs) seen = (before < r.place) × PlacesRise r.place rs seen

-- one more receipt of the table, whose place is then seen
abbrev pub page_with : PageState → ReceiptState → PageState
page_with p r = record { table = p.table; seen = r.place; receipts = p.receipts ++ r ∷ [] }

abbrev pub pages_with : ℕ → ReceiptState → List PageState → List PageState
pages_with table r [] = page_with (record { table = table; seen = 0; receipts = [] }) r ∷ []
pages_with table r (p ∷ ps) = if p.table == table then page_with p r ∷ ps else p ∷ pages_with table r ps

abbrev pub with_receipt : SeatState → ℕ → ReceiptState → SeatState
with_receipt s table r = record s { pages = pages_with table r s.pages }

-- the page without its receipts; what was seen of its table stays
abbrev pub emptied : PageState → PageState
emptied p = record p { receipts = [] }

-- the page, emptied if it is the table's
abbrev pub forgotten_page : ℕ → PageState → PageState
forgotten_page table p = if p.table == table then emptied p else p

-- the seat without its receipts of the table
abbrev pub forgotten : ℕ → SeatState → SeatState
forgotten table s = record s { pages = map (forgotten_page table) s.pages }

-- the seat with one more answer; the count starts again after 2^64 - 1
abbrev pub with_answer : SeatState → Answered → SeatState
with_answer s a = record s { answers = (s.answers + 1) % 2 ^ 64; latest = Some a }

-- if a seat has seen more events than the table has: how many it has seen, and how many there are
abbrev pub ahead_of : SeatState → ℕ → ℕ → Option (ℕ × ℕ)
ahead_of s table events = if nat_lt events (seen_of table s) then Some (seen_of table s, events) else None

-- the seats' receipts of a table, seat by seat
abbrev pub all_receipts : ℕ → List SeatState → List ReceiptState
all_receipts table seats = flat_map (receipts_of table) seats

-- how many of the receipts are of `place`
abbrev pub times : ℕ → List ReceiptState → ℕ
times place rs = count_by (λ r. r.place == place) rs
