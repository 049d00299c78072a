use Rattle.std.proofs.Common.{◌≡◌, ◌++◌, take, drop}
use Rattle.admin_text.specs.TableSettings.{kept_in}
use Rattle.admin_text.proofs.table_settings.set_nopurge.Given as goal

abbrev pub invariant-loop-table : goal.invariant-loop-table
invariant-loop-table l = take l.table-index l.tables ++ kept_in l.id (drop l.table-index l.tables) ≡ kept_in l.id l.fn.tables
