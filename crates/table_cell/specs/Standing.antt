-- What a standing resync has still to copy (profile).
use Rattle.std.specs.Prelude.{◌≡◌, ◌⊎◌, ℕ, Bool, false, ◌==◌, List, [], ◌∷◌, filter, length}
use Rattle.std.specs.List.{AllByRecursion}
use Rattle.table_types.specs.declared.key.Key.{Key}
use Rattle.table_types.specs.declared.copies.CopyKind.TheVariants as kinds
use Rattle.table_types.specs.Rows.{StoredRow}
use Rattle.table_cell.specs.declared.events.CellEvent.{CellEvent}
use Rattle.table_cell.specs.declared.events.CellEvent.TheVariants as events
use Rattle.table_cell.specs.declared.events.CellReply.{CellReply}
use Rattle.table_cell.specs.Machine.{TableState, acknowledged_by, bound_by, in_reach, is_unacked, progress_of}

-- the rows that standing resyncs for `session` at `now` have still to copy
abbrev pub left_standing : ℕ → ℕ → TableState → List (Key × StoredRow)
left_standing session now s =
    filter (is_unacked kinds.Standing (acknowledged_by (progress_of session s)) now) (in_reach kinds.Standing (bound_by (progress_of session s)) s.rows)

-- a row is one of these rows
abbrev pub IsAmong : List (Key × StoredRow) → Key × StoredRow → Type 0
IsAmong [] e = ⊥
IsAmong (x ∷ xs) e = (e ≡ x) ⊎ IsAmong xs e

-- each of the rows is one of the former
abbrev pub AreAmong : List (Key × StoredRow) → List (Key × StoredRow) → Type 0
AreAmong former rows = AllByRecursion (IsAmong former) rows

-- whether an event closes `session`
abbrev pub is_close_of : ℕ → CellEvent → Bool
is_close_of session (events.Close id) = id == session
is_close_of session event = false

-- whether an event is a standing resync for `session`
abbrev pub is_standing_of : ℕ → CellEvent → Bool
is_standing_of session (events.Copy id kinds.Standing limit now) = id == session
is_standing_of session event = false

-- the number of batches of standing resyncs for `session`
abbrev pub standing_batches : ℕ → List (CellEvent × CellReply) → ℕ
standing_batches session hs = length (filter (λ h. is_standing_of session h.0) hs)
