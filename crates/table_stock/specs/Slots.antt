-- How rows lie in slots.
use Rattle.std.specs.Prelude.{◌^◌, ◌||◌, ◌&&◌, ℕ, Bool, cond, is_some, length, nat_lt, slice_get, List, Option, Some, None}
use Rattle.table_types.specs.declared.key.Key.{Key}
use Rattle.table_types.specs.Rows.{StoredRow}
use Rattle.table_stock.specs.Blocks.{ListInBlocks}
use Rattle.table_stock.specs.declared.slots.Slot.{Slot}
use Rattle.table_stock.specs.declared.slots.Slot.TheVariants.{Taken, Vacant}

-- the rows in slots, each with its key; the slot of the next row; and whether there is room for it
pub record RowsInSlots : Type 0 where
  pub rows : List (Option (Key × StoredRow))
  pub vacant : ℕ
  pub has_room : Bool

-- the row in a slot, with its key
abbrev pub row_of : Slot → Option (Key × StoredRow)
row_of (Vacant link) = None
row_of (Taken e) = Some e

-- the slot that was vacated before this one, if it is a vacant one
abbrev pub link_from : Option Slot → Option ℕ
link_from None = None
link_from (Some (Vacant link)) = Some link
link_from (Some (Taken e)) = None

abbrev pub link_in : List Slot → ℕ → Option ℕ
link_in slots slot = link_from (slice_get slots slot)

-- the slot of the next row is the one that was vacated last, if it is vacant still, and otherwise a new one
abbrev pub vacant_in : List Slot → ℕ → ℕ
vacant_in slots vacated = cond (is_some (link_in slots vacated)) vacated (length slots)

-- there is room for one more row, and its slot is below 2^32
abbrev pub has_room_in : ListInBlocks Slot → ℕ → Bool
has_room_in slots vacated = is_some (link_in slots.items vacated) || (slots.has_room && nat_lt (length slots.items) (2 ^ 32))
