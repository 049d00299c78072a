-- The pages of a seat with which another round begins.
use Rattle.std.specs.Prelude.{ℕ, List, [], ◌∷◌, ◌++◌, fold, is_some, None, if◌then◌else◌}
use Rattle.table_cell.specs.Histories.{events_of}
use Rattle.table_shards.specs.declared.unlocked.UnlockedTable.{UnlockedTable}
use Rattle.table_shards.specs.Receipts.{PageState, SeatState, page_at}

-- a page without receipts, on which the table's events are seen up to place `seen`
abbrev pub page_seeing : ℕ → ℕ → PageState
page_seeing table seen = record { table = table; seen = seen; receipts = [] }

-- one more such page, unless there is one of the table
abbrev pub pages_seeing : ℕ → ℕ → List PageState → List PageState
pages_seeing table seen ps = if is_some (page_at table ps) then ps else ps ++ page_seeing table seen ∷ []

-- a page for each of the tables, with all its events seen
abbrev pub pages_anew : List UnlockedTable → List PageState
pages_anew ts = fold (λ ps t. pages_seeing t.table (events_of t.cell) ps) [] ts

abbrev pub seat_anew : List UnlockedTable → ℕ → SeatState
seat_anew ts number = record { number = number; pages = pages_anew ts; answers = 0; latest = None }
