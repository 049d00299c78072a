use Rattle.std.proofs.Common.{◌≡◌, ◌++◌, take, drop}
use Rattle.admin_text.specs.TableSettings.{with_rows}
use Rattle.admin_text.proofs.table_settings.set_rows.Given as goal

abbrev pub invariant-loop-table : goal.invariant-loop-table
invariant-loop-table l = take l.table-index l.tables ++ with_rows l.id l.rows (drop l.table-index l.tables) ≡ with_rows l.id l.rows l.fn.tables
