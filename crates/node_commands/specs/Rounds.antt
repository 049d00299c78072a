-- What rounds audit and print (profile): one round after another, over one table.
use Rattle.std.specs.Prelude.{◌≡◌, ℕ, ◌+◌, ◌*◌, ◌<◌, ◌≤◌, false, List, [], ◌∷◌, ◌++◌, Option, Some, None, codes, length, take}
use Rattle.std.specs.List.{AllByRecursion, repeat}
use Rattle.std.specs.Io.KnownBytes.{Appends}
use Rattle.table_types.specs.declared.data_type.DataType.TheVariants as types
use Rattle.table_types.specs.declared.key.Key.{Key}
use Rattle.table_types.specs.declared.key.Key.TheVariants as keys
use Rattle.table_types.specs.declared.key.KeyKind.TheVariants as kinds
use Rattle.table_types.specs.declared.row.Cell.TheVariants as cells
use Rattle.table_types.specs.Rows.{StoredRow}
use Rattle.table_types.specs.Tables.{Definition}
use Rattle.table_rows.specs.Rows.{row_at}
use Rattle.table_cell.specs.Machine.{new_table}
use Rattle.table_cell.specs.Histories.{CellState}
use Rattle.table_shards.specs.declared.unlocked.UnlockedTable.{UnlockedTable}
use Rattle.table_shards.specs.Audits.{AuditState, Audits, round_of_unlocked}
use Rattle.table_shards.specs.NextRounds.{has_batch_out, round_anew}
use Rattle.table_shards.specs.Rounds.{round_of_shards}
use Rattle.node_commands.specs.Tracks.{HasDoneItsPart}
use Rattle.node_commands.specs.Printing.{AreRowsOf}

-- the definition of a round's table: `t1`, with integer keys, gpc0, and rows that never expire
abbrev pub round_table : Definition
round_table = record { id = 1; name = codes "t1"; kind = kinds.Integer; key_length = 4; expire = 0; types = (types.Gpc0, None) ∷ [] }

-- The cell is of a table with that definition. Its history begins with the new table, which has room for 1,000,000 rows and
-- whose next number is 1.
abbrev pub IsRoundTable : CellState → Type 0
IsRoundTable c = (c.state.definition ≡ round_table) × (c.base ≡ new_table round_table 1000000 false 1)

-- there is a row at the integer key `key`, and gpc0 of that row is `count`
abbrev pub HasCountAmong : ℕ → ℕ → List (Key × StoredRow) → Type 0
HasCountAmong key count rows = (row : StoredRow) × (row_at (keys.Int key) rows ≡ Some row) × (row.cells ≡ cells.Count count ∷ [])

-- the cell has such a row
abbrev pub HasCount : ℕ → ℕ → CellState → Type 0
HasCount key count c = HasCountAmong key count c.state.rows

-- The cell is of a table with that definition. If `count` is at least 1, it is what the key of each of `threads` threads counts.
pub record IsCountingTable (threads count : ℕ) (c : CellState) : Type 0 where
  pub definition : c.state.definition ≡ round_table
  pub counts : 1 ≤ count → (key : ℕ) → 1 ≤ key → key ≤ threads → HasCount key count c

-- the audit of a round found nothing wrong, and each seat has done its part
abbrev pub IsAudited : ℕ → ℕ → AuditState → Type 0
IsAudited threads tracks a = Audits a.unlocked a.seats None × AllByRecursion (HasDoneItsPart threads tracks) a.seats

-- The round is the first. It has a seat for each thread, one for the worker and one more. Its only table has the id 1 and is
-- the new table of a round, and the round made all events of the table.
abbrev pub IsFirst : ℕ → AuditState → Type 0
IsFirst threads a =
    (round_of_unlocked a.unlocked ≡ record { seats = threads + 2; tables = (1, 0, 0) ∷ [] }) × AllByRecursion (λ t. IsRoundTable t.cell) a.unlocked.tables

-- The round comes after the one with the audit `last`, in which no batch was out. It has as many seats, and tables with the
-- ids and the numbers of events and renewals that a checkpoint leaves: it made all events of each table but those that the table had
-- by then.
-- After it, the key of each thread counts `count`.
abbrev pub GoesOn : ℕ → ℕ → AuditState → AuditState → Type 0
GoesOn threads count last a =
    (has_batch_out last.unlocked.tables ≡ false)
    × (round_of_unlocked a.unlocked ≡ round_of_shards (round_anew last.unlocked))
    × AllByRecursion (λ t. IsCountingTable threads count t.cell) a.unlocked.tables

-- the audits of rounds, one after another, with the latest first
abbrev pub AreRounds : ℕ → ℕ → List AuditState → Type 0
AreRounds threads tracks [] = ⊥
AreRounds threads tracks (a ∷ []) = IsAudited threads tracks a × IsFirst threads a
AreRounds threads tracks (a ∷ last ∷ earlier) =
    IsAudited threads tracks a
    × GoesOn threads (length (a ∷ last ∷ earlier) * tracks) last a
    × AreRounds threads tracks (last ∷ earlier)

-- There is one table. The text is the line `audit ok` for each round, then the table's rows in ascending order of the keys.
abbrev pub IsPrinted : ℕ → AuditState → List ℕ → Type 0
IsPrinted rounds a text =
    (t : UnlockedTable) × (rows : List ℕ) × (a.unlocked.tables ≡ t ∷ []) × AreRowsOf t.cell rows × (text ≡ repeat rounds (codes "audit ok\n") ++ rows)

-- the text of `rounds` rounds that were so audited
abbrev pub IsTextOf : ℕ → ℕ → ℕ → List ℕ → Type 0
IsTextOf threads tracks rounds text =
    (a : AuditState) × (earlier : List AuditState) × (length (a ∷ earlier) ≡ rounds) × AreRounds threads tracks (a ∷ earlier) × IsPrinted rounds a text

-- the beginning of the text of such rounds is appended, but not all of it
abbrev pub IsCutShort : ℕ → ℕ → ℕ → Option (List ℕ) → Option (List ℕ) → Type 0
IsCutShort threads tracks rounds old new =
    (text : List ℕ) × (sent : ℕ) × IsTextOf threads tracks rounds text × (sent < length text) × Appends old new (take sent text)
