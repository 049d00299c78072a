-- How a stock keeps its rows: each in a slot, with the slot of each key, a log of the numbers with their slots, and the ends.
use Rattle.std.specs.Prelude.{◌≡◌, ◌≢◌, ◌⊎◌, ◌≤◌, ◌<◌, ◌^◌, ℕ, ◌+◌, ◌==◌, Bool, true, false, List, [], ◌∷◌, ◌++◌, ◌||◌, cond, drop, filter_map, length, nat_lt, slice_index_or, take, Option, Some, None, IfSome}
use Rattle.std.specs.List.{AllByRecursion, list_any}
use Rattle.std.specs.Map.{lookup}
use Rattle.std.specs.BTreeMap.{is_at}
use Rattle.std.specs.Ordering.{is_eq}
use Rattle.table_types.specs.declared.key.Key.{Key}
use Rattle.table_types.specs.Keys.{key_cmp}
use Rattle.table_types.specs.Rows.{StoredRow}
use Rattle.table_rows.specs.declared.row_end.RowEnd.{RowEnd}
use Rattle.table_rows.specs.Endings.{are_same, ending_of, is_among}
use Rattle.table_rows.specs.Rows.{AreLive, IsFirstToEnd, row_at}
use Rattle.table_stock.specs.Blocks.{ListInBlocks}
use Rattle.table_stock.specs.Stock.{IsStock, stocked}

-- the row in a slot, with its key
abbrev pub row_in : List (Option (Key × StoredRow)) → ℕ → Option (Key × StoredRow)
row_in slots slot = slice_index_or slots slot None

-- a slot has this row now, or none, and the others have what they had
pub record UpdatesSlot (slots slots_after : List (Option (Key × StoredRow))) (slot : ℕ) (row : Option (Key × StoredRow)) : Type 0 where
  pub changed : row_in slots_after slot ≡ row
  pub others : (other : ℕ) → other ≢ slot → row_in slots_after other ≡ row_in slots other

-- the slot of a key
abbrev pub slot_of : Key → List (Key × ℕ) → Option ℕ
slot_of key keys = lookup (is_at (key_cmp key)) keys

-- a row, if there is one and it has this number
abbrev pub if_numbered : ℕ → Option (Key × StoredRow) → Option (Key × StoredRow)
if_numbered number None = None
if_numbered number (Some e) = cond (e.1.number == number) (Some e) None

-- the row of an entry of the log, a number with a slot; the entry is stale, and has none, if its slot has no row with that
-- number
abbrev pub current : (ℕ → Option (Key × StoredRow)) → ℕ × ℕ → Option (Key × StoredRow)
current at entry = if_numbered entry.0 (at entry.1)

-- the rows of a log, in its order
abbrev pub rows_in : (ℕ → Option (Key × StoredRow)) → List (ℕ × ℕ) → List (Key × StoredRow)
rows_in at log = filter_map (current at) log

-- the numbers of a log ascend from `least`, below `next`
abbrev pub LogRises : ℕ → ℕ → List (ℕ × ℕ) → Type 0
LogRises least next [] = least ≤ next
LogRises least next (entry ∷ log) = (least ≤ entry.0) × LogRises (entry.0 + 1) next log

-- a log without some of its stale entries: it has the same rows, and its numbers ascend if they did
pub record IsSwept (at : ℕ → Option (Key × StoredRow)) (old new : List (ℕ × ℕ)) : Type 0 where
  pub rows : rows_in at new ≡ rows_in at old
  pub rising : (least next : ℕ) → LogRises least next old → LogRises least next new

-- a log, and whether there is room for one more entry
pub record ListInLog : Type 0 where
  pub entries : List (ℕ × ℕ)
  pub has_room : Bool

-- the entries that a sweep has kept, and those that it hasn't looked at
abbrev pub logged_in : List (ℕ × ℕ) → ℕ → ℕ → List (ℕ × ℕ)
logged_in entries kept unswept = take kept entries ++ drop unswept entries

-- there is an old entry to write over after the last one, or room for one more
abbrev pub has_room_at : ListInBlocks (ℕ × ℕ) → ℕ → Bool
has_room_at entries end = nat_lt end (length entries.items) || entries.has_room

-- one of the rows has this end and this number
abbrev pub has_end : List (Key × StoredRow) → RowEnd → Bool
has_end rows end = list_any (λ e. are_same (ending_of e.1) end) rows

-- whether an end is among others that `among` tells, without that of a row, if one is given
abbrev pub is_among_without : Option StoredRow → (RowEnd → Bool) → RowEnd → Bool
is_among_without None among end = among end
is_among_without (Some row) among end = cond (are_same (ending_of row) end) false (among end)

-- the ends after that of a row was added, and then that of an older row, if there is one, removed
abbrev pub PutsEnd : Option StoredRow → StoredRow → List RowEnd → List RowEnd → Type 0
PutsEnd older row old new = (end : RowEnd) → is_among new end ≡ is_among_without older (λ q. cond (are_same (ending_of row) q) true (is_among old q)) end

-- a row in a slot without its key
abbrev pub row_alone : Option (Key × StoredRow) → Option StoredRow
row_alone None = None
row_alone (Some e) = Some e.1

-- a row was put with its key into the key's slot, or into a vacant one, which is the key's now
pub record PutsRow (key : Key) (row : StoredRow) (slot : ℕ) (keys keys_after : List (Key × ℕ)) (slots slots_after : List (Option (Key × StoredRow))) : Type 0 where
  pub named : (k : Key) → slot_of k keys_after ≡ cond (is_eq (key_cmp key k)) (Some slot) (slot_of k keys)
  pub free : (slot_of key keys ≡ Some slot) ⊎ ((slot_of key keys ≡ None) × (row_in slots slot ≡ None))
  pub put : UpdatesSlot slots slots_after slot (Some (key, row))

-- the row of a key was taken out of its slot
pub record TakesRow (key : Key) (keys keys_after : List (Key × ℕ)) (slots slots_after : List (Option (Key × StoredRow))) : Type 0 where
  pub named : (k : Key) → slot_of k keys_after ≡ cond (is_eq (key_cmp key k)) None (slot_of k keys)
  pub taken : (slot : ℕ) → slot_of key keys ≡ Some slot → UpdatesSlot slots slots_after slot None

-- the ends are those of the rows, each with its row's number, and no others; and each is below the value for no end
pub record AreEnds (rows : List (Key × StoredRow)) (ends : List RowEnd) : Type 0 where
  pub exactly : (end : RowEnd) → is_among ends end ≡ has_end rows end
  pub within : AllByRecursion (λ e. IfSome e.1.ends (λ end. end < 2 ^ 63)) rows

-- The rows of the log make a stock. The map by key and the slots name each other, each row in a slot is one of the log's, and
-- the ends are those of the rows. A log may have stale entries anywhere.
pub record AreShelved (keys : List (Key × ℕ)) (at : ℕ → Option (Key × StoredRow)) (log : List (ℕ × ℕ)) (next : ℕ) (endings : List RowEnd) : Type 0 where
  pub sound : IsStock (stocked next (rows_in at log))
  pub rising : LogRises 1 next log
  pub keyed : (slot : ℕ) (e : Key × StoredRow) → at slot ≡ Some e → slot_of e.0 keys ≡ Some slot
  pub found : (key : Key) (slot : ℕ) → slot_of key keys ≡ Some slot → (row : StoredRow) × (at slot ≡ Some (key, row))
  pub logged : (slot : ℕ) (e : Key × StoredRow) → at slot ≡ Some e → row_at e.0 (rows_in at log) ≡ Some e.1
  pub ends : AreEnds (rows_in at log) endings

-- the row of this end is the first to end: it is the key's, and each row is live before that end
pub record EndsFirst (rows : List (Key × StoredRow)) (end : RowEnd) : Type 0 where
  pub key : Key
  pub row : StoredRow
  pub there : row_at key rows ≡ Some row
  pub is : end ≡ ending_of row
  pub first : IsFirstToEnd rows key
  pub later : (now : ℕ) → now < end.end → AreLive now rows

-- the rows in the slots of these keys
abbrev pub listed : (ℕ → Option (Key × StoredRow)) → List (Key × ℕ) → List (Key × StoredRow)
listed at keys = filter_map (λ e. at e.1) keys
