-- What a node prints once its session is over (profile).
use Rattle.std.specs.Prelude.{◌≡◌, ◌++◌, ℕ, List, [], ◌∷◌, codes, flat_map}
use Rattle.std.specs.Fmt.{decimal}
use Rattle.table_types.specs.declared.key.Key.{Key}
use Rattle.table_types.specs.Rows.{StoredRow}
use Rattle.table_cell.specs.Stock.{AreInRisingKey}
use Rattle.table_cell.specs.Histories.{CellState}
use Rattle.table_shards.specs.declared.unlocked.UnlockedTable.{UnlockedTable}
use Rattle.node_text.specs.Rows.{row_line}

-- the line that says how many turns the session made
abbrev pub turns_line : ℕ → List ℕ
turns_line turns = codes "turns " ++ (decimal turns ++ codes "\n")

-- the lines of the rows of a table, in ascending order of the keys
abbrev pub AreRowsOf : CellState → List ℕ → Type 0
AreRowsOf c text = (rows : List (Key × StoredRow)) × AreInRisingKey c.state.rows rows × (text ≡ flat_map (row_line c.state.definition) rows)

-- the lines of the rows of each table, in the order of the tables
abbrev pub AreRowsOfAll : List UnlockedTable → List ℕ → Type 0
AreRowsOfAll [] text = text ≡ []
AreRowsOfAll (t ∷ ts) text = (one : List ℕ) × (rest : List ℕ) × AreRowsOf t.cell one × AreRowsOfAll ts rest × (text ≡ one ++ rest)

-- what a node prints after a session of `turns` turns
abbrev pub IsText : ℕ → List UnlockedTable → List ℕ → Type 0
IsText turns tables text = (rows : List ℕ) × AreRowsOfAll tables rows × (text ≡ turns_line turns ++ rows)

-- what a node prints after several sessions, which made `turns` turns together
abbrev pub IsSharedText : ℕ → List UnlockedTable → List ℕ → Type 0
IsSharedText turns tables text = (rows : List ℕ) × AreRowsOfAll tables rows × (text ≡ turns_line turns ++ (codes "audit ok\n" ++ rows))
