-- The rows that a session hasn't acknowledged, counted in parts (profile).
use Rattle.std.specs.Prelude.{◌≡◌, ℕ, Bool, List, [], ◌∷◌, ◌++◌, filter, length, nat_lt, Option, None, Some}
use Rattle.std.specs.List.{list_any}
use Rattle.table_types.specs.declared.key.Key.{Key}
use Rattle.table_types.specs.declared.copies.CopyKind.{CopyKind}
use Rattle.table_types.specs.Rows.{StoredRow}
use Rattle.table_cell.specs.Machine.{in_reach, is_unacked}
use Rattle.table_cell.specs.declared.pending.Pending.{Pending}

-- the rows above a number that a copy of `kind` at a moment includes, for a session with this bound
abbrev pub pending : CopyKind → ℕ → ℕ → ℕ → List (Key × StoredRow) → List (Key × StoredRow)
pending kind bound number now rows = filter (is_unacked kind number now) (in_reach kind bound rows)

-- those that are left when a count is to go on above a number, or has come to the end
abbrev pub left_above : CopyKind → ℕ → Option ℕ → ℕ → List (Key × StoredRow) → List (Key × StoredRow)
left_above kind bound None now rows = []
left_above kind bound (Some number) now rows = pending kind bound number now rows

abbrev pub first_number : List (Key × StoredRow) → Option ℕ
first_number [] = None
first_number (e ∷ es) = Some e.1.number

-- the rows that are counted are the first of those above `number`, up to the number at which the count is to go on
abbrev pub Counts : CopyKind → ℕ → ℕ → ℕ → List (Key × StoredRow) → Pending → Type 0
Counts kind bound number now rows p =
    (counted : List (Key × StoredRow)) × (counted ++ left_above kind bound p.next now rows ≡ pending kind bound number now rows)
    × (p.count ≡ length counted) × (p.first ≡ first_number counted)

-- whether one of the rows has a greater number
abbrev pub is_any_above : ℕ → List (Key × StoredRow) → Bool
is_any_above number rows = list_any (λ e. nat_lt number e.1.number) rows
