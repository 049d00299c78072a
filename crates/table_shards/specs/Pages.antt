-- How a seat keeps its receipts: a page for each table.
use Rattle.std.specs.Prelude.{◌≡◌, ℕ, ◌<◌, ◌≤◌, ◌^◌, true, List, [], ◌∷◌, length, take, map, Option, None, option_map, HoldsAt}
use Rattle.std.specs.Vec.{vec_len, vec_capacity}
use Rattle.std.specs.declared.alloc.Global.{Global}
use Rattle.std.specs.declared.vec.Vec.{Vec}
use Rattle.std.specs.Borrow.{Bor}
use Rattle.std.specs.List.{AllByRecursion}
use Rattle.table_shards.specs.declared.book.Book.{Book}
use Rattle.table_shards.specs.declared.pages.Page.{Page}
use Rattle.table_shards.specs.declared.pages.Room.{Room}
use Rattle.table_shards.specs.declared.pages.Room.TheVariants as rooms
use Rattle.table_shards.specs.Receipts.{PageState, ReceiptState, SeatState, page_at, receipts_on, PlacesRise}

abbrev pub page_state : Page → PageState
page_state p = record { table = p.table; seen = p.seen; receipts = p.receipts.items }

abbrev pub page_states : List Page → List PageState
page_states ps = map page_state ps

-- no two pages are of the same table
abbrev pub TablesDiffer : List PageState → Type 0
TablesDiffer [] = Unit {0}
TablesDiffer (p ∷ ps) = (page_at p.table ps ≡ None) × TablesDiffer ps

-- the pages of a seat
pub record ArePages (ps : List PageState) : Type 0 where
  pub differ : TablesDiffer ps
  pub rise : AllByRecursion (λ p. PlacesRise 0 p.receipts p.seen) ps

-- the first page of the table stands at `index`
pub record IsPageAt (table : ℕ) (ps : List Page) (index : ℕ) : Type 0 where
  pub below : index < length ps
  pub table_is : HoldsAt (λ p. p.table ≡ table) ps index
  pub first : page_at table (page_states (take index ps)) ≡ None

-- a page has room for one more receipt
abbrev pub HasRoom : Page → Type 0
HasRoom p = p.receipts.has_room ≡ true

-- there is room for one more receipt of the table: on its page, or on a new one, for which the pages have room
abbrev pub HasRoomIn : ℕ → Vec Page Global → Room → Type 0
HasRoomIn table ps (rooms.OnPage index) = IsPageAt table ps.items index × HoldsAt HasRoom ps.items index
HasRoomIn table ps (rooms.OnNewPage receipts) =
    (page_at table (page_states ps.items) ≡ None)
    × (receipts.items ≡ [])
    × (receipts.has_room ≡ true)
    × (vec_len ps < vec_capacity ps)

-- the seat of a book
abbrev pub seat_of : Book → SeatState
seat_of b = record { number = b.number; pages = page_states b.pages.items; answers = b.answers; latest = b.latest }

-- the receipts of a page that is lent, if there is one
abbrev pub lent_receipts : Option (Bor Page) → List ReceiptState
lent_receipts page = receipts_on (option_map (λ p. page_state p.now) page)

-- of receipts, of which there are `end`, those from `next` on are left
pub record AreFrom (next end : ℕ) (rs : List ReceiptState) : Type 0 where
  pub begun : next ≤ end
  pub whole : end ≡ length rs
  pub most : end < 2 ^ 64
