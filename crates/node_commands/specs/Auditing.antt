-- The audit of a node's tables, once its sessions are over (profile).
use Rattle.std.specs.Prelude.{◌≡◌, false, None, List, [], ◌∷◌}
use Rattle.table_types.specs.Tables.{Definition}
use Rattle.table_cell.specs.Machine.{new_table}
use Rattle.table_cell.specs.Histories.{CellState}
use Rattle.table_shards.specs.Receipts.{SeatState}
use Rattle.table_shards.specs.declared.unlocked.UnlockedTable.{UnlockedTable}
use Rattle.table_shards.specs.Audits.{AuditState, Audits, round_of_unlocked}
use Rattle.table_shards.specs.Rounds.{round_of_shards}
use Rattle.node_commands.specs.declared.node.loading.NodeTables.{NodeTables}

-- The table has the definition. Its history begins with the new table, which keeps at most a million rows, makes room by purging
-- the row that expires first, and numbers its updates from 1.
abbrev pub IsTableOf : Definition → CellState → Type 0
IsTableOf d c = (c.state.definition ≡ d) × (c.base ≡ new_table d 1000000 false 1)

-- a table of each definition, in order
abbrev pub AreTablesOf : List Definition → List UnlockedTable → Type 0
AreTablesOf [] [] = Unit {0}
AreTablesOf (d ∷ ds) (t ∷ ts) = IsTableOf d t.cell × AreTablesOf ds ts
AreTablesOf ds ts = ⊥

-- The audit of the node's round found nothing wrong: the events of each table are the receipts of the seat from which it was loaded
-- and of the sessions' seats, one for one, and its rows are the replay of these events on the new table of its definition.
abbrev pub IsAuditOf : NodeTables → List SeatState → AuditState → Type 0
IsAuditOf t seats a =
    Audits a.unlocked a.seats None × (a.seats ≡ t.loader ∷ seats) × (round_of_unlocked a.unlocked ≡ round_of_shards t.shards) × AreTablesOf t.roster a.unlocked.tables
