-- Tables whose rows get new numbers (profile).
use Rattle.std.specs.Prelude.{◌≡◌, ◌≢◌, ℕ, ◌+◌, ◌%◌, ◌^◌, List, [], ◌∷◌, length, Result, Ok, Err}
use Rattle.table_types.specs.declared.key.Key.{Key}
use Rattle.table_types.specs.Rows.{StoredRow}
use Rattle.table_cell.specs.declared.errors.RenumberError.{RenumberError}
use Rattle.table_cell.specs.declared.errors.RenumberError.TheVariants as unrenumbered
pub use Rattle.table_stock.specs.NumberedRows.{numbered_from}
use Rattle.table_cell.specs.Machine.{TableState}
use Rattle.table_cell.specs.Histories.{CellState, begun_anew}

-- the table whose rows have the numbers from 1 on, and everything else as before
abbrev pub renumbered : TableState → TableState
renumbered s = record s { rows = numbered_from 1 s.rows; next = length s.rows + 1 }

-- the table with its history, renewed once more; the count starts again after 2^64 - 1
abbrev pub renewed : CellState → CellState
renewed c = record c { state = renumbered c.state; renewals = (c.renewals + 1) % 2 ^ 64 }

-- What renumbering does: it is refused exactly if a session is open, and then, and if memory runs out, nothing has changed.
-- Otherwise the rows have new numbers, the table counts one more renewal, and the history begins anew; the number of events so
-- far stays.
abbrev pub Renumbers : CellState → Result (Unit {0}) RenumberError → CellState → Type 0
Renumbers c (Ok done) e = (c.state.sessions ≡ []) × (e ≡ begun_anew (renewed c))
Renumbers c (Err unrenumbered.SessionOpen) e = (c.state.sessions ≢ []) × (e ≡ c)
Renumbers c (Err unrenumbered.Memory) e = (c.state.sessions ≡ []) × (e ≡ c)
