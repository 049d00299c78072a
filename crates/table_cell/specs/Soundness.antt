-- The invariant of a table (profile).
use Rattle.std.specs.Prelude.{◌≡◌, ◌≢◌, ◌≤◌, ◌<◌, ℕ, ◌+◌, ◌^◌, ◌==◌, true, List, [], ◌∷◌, length, Option, Some, None}
use Rattle.std.specs.List.{AllByRecursion}
use Rattle.std.specs.Map.{lookup}
use Rattle.table_types.specs.declared.key.Key.{Key}
use Rattle.table_types.specs.declared.data_type.DataType.{DataType}
use Rattle.table_types.specs.declared.data_type.Shape.{Shape}
use Rattle.table_types.specs.declared.data_type.Shape.TheVariants as shapes
use Rattle.table_types.specs.declared.row.Cell.{Cell}
use Rattle.table_types.specs.declared.row.Cell.TheVariants as cells
use Rattle.table_types.specs.Keys.{key_fits}
use Rattle.table_types.specs.DataTypes.{shape_of}
use Rattle.table_types.specs.Tables.{Definition, is_definition}
use Rattle.table_types.specs.Updates.{may_be_named}
use Rattle.table_types.specs.Rows.{StoredRow}
use Rattle.table_types.specs.Changes.{cell_types}
pub use Rattle.table_stock.specs.NumberedRows.{NumbersRise, KeysDiffer}
use Rattle.table_cell.specs.declared.progress.Progress.{Progress}
use Rattle.table_cell.specs.declared.events.CellEvent.{CellEvent}
use Rattle.table_cell.specs.declared.events.CellEvent.TheVariants as events
use Rattle.table_cell.specs.declared.events.CellReply.{CellReply}
use Rattle.table_cell.specs.Machine.{TableState}

-- a cell fits its shape, and no rate's period begins after the latest moment
abbrev pub CellFits : ℕ → Shape → Cell → Type 0
CellFits latest shapes.Count (cells.Count count) = count < 2 ^ 32
CellFits latest shapes.LongCount (cells.Count count) = count < 2 ^ 64
CellFits latest shapes.Rate (cells.Rate start current previous) = (start ≤ latest) × (current < 2 ^ 32) × (previous < 2 ^ 32)
CellFits latest shape cell = ⊥

-- one cell for each of these types
abbrev pub CellsFit : ℕ → List (DataType × Option ℕ) → List Cell → Type 0
CellsFit latest [] [] = Unit {0}
CellsFit latest (t ∷ ts) (c ∷ cs) = CellFits latest (shape_of t.0) c × CellsFit latest ts cs
CellsFit latest ts cs = ⊥

-- a row ends no later than a row changed at the latest moment would, and has no end only if rows never expire
abbrev pub EndFits : ℕ → ℕ → Option ℕ → Type 0
EndFits latest expire None = expire ≡ 0
EndFits latest expire (Some end) = (expire ≢ 0) × (end ≤ latest + expire)

-- a row of the table
abbrev pub EntryFits : Definition → ℕ → Key × StoredRow → Type 0
EntryFits d latest e =
    (key_fits d.kind d.key_length e.0 ≡ true)
    × CellsFit latest (cell_types d.types) e.1.cells
    × (may_be_named d e.1.name ≡ true)
    × EndFits latest d.expire e.1.ends

-- no session occurs twice
abbrev pub SessionsDiffer : List (ℕ × Progress) → Type 0
SessionsDiffer [] = Unit {0}
SessionsDiffer (e ∷ es) = (lookup (λ id. id == e.0) es ≡ None) × SessionsDiffer es

-- a session has acknowledged no more than it was taught, and the number that it was taught was already assigned
abbrev pub IsProgressBelow : ℕ → ℕ × Progress → Type 0
IsProgressBelow next entry = (entry.1.acknowledged ≤ entry.1.taught) × (entry.1.taught < next)

-- a session's bound is a number that was already assigned
abbrev pub IsBoundBelow : ℕ → ℕ × Progress → Type 0
IsBoundBelow next entry = entry.1.bound < next

pub record IsSound (s : TableState) : Type 0 where
  pub definition : is_definition s.definition ≡ true
  pub some : 1 ≤ s.size
  pub numbers : NumbersRise 1 s.next s.rows
  pub keys : KeysDiffer s.rows
  pub entries : AllByRecursion (EntryFits s.definition s.latest) s.rows
  pub within : length s.rows ≤ s.size
  pub last : s.next ≤ 2 ^ 32
  pub least : 2 ^ 32 ≤ s.latest
  pub most : s.latest < 2 ^ 63
  pub progress : AllByRecursion (IsProgressBelow s.next) s.sessions
  pub bounds : AllByRecursion (IsBoundBelow s.next) s.sessions
  pub sessions : SessionsDiffer s.sessions
  pub few : length s.sessions ≤ 16

-- the event has no moment, or one below 2^63, as every moment of the program is
abbrev pub IsTimely : CellEvent → Type 0
IsTimely (events.Track seat key change now) = now < 2 ^ 63
IsTimely (events.Learn session u now) = now < 2 ^ 63
IsTimely (events.Copy session kind limit now) = now < 2 ^ 63
IsTimely (events.Purge now) = now < 2 ^ 63
IsTimely event = Unit {0}

abbrev pub AreTimely : List (CellEvent × CellReply) → Type 0
AreTimely hs = AllByRecursion (λ h. IsTimely h.0) hs
