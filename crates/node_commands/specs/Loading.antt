-- How the tables of a node are loaded before its sessions begin (profile).
use Rattle.std.specs.Prelude.{◌≡◌, ◌^◌, ◌+◌, ℕ, zero, suc, ◌==◌, false, List, [], ◌∷◌, ◌++◌, flat_map, if◌then◌else◌, map}
use Rattle.table_types.specs.Tables.{Definition}
use Rattle.table_types.specs.declared.update.Update.{Update}
use Rattle.table_types.specs.declared.version.Version.TheVariants as versions
use Rattle.table_cell.specs.Histories.{CellState, new_cell}
use Rattle.table_cell.specs.declared.events.CellEvent.{CellEvent}
use Rattle.table_cell.specs.declared.events.CellEvent.TheVariants as events
use Rattle.table_cell.specs.declared.events.CellReply.{CellReply}
use Rattle.table_shards.specs.Receipts.{SeatState, fresh_seat, with_receipt}
use Rattle.node_commands.specs.declared.node.loading.NodeTables.{NodeTables}

-- the moment at which the rows are loaded: the least one
abbrev pub loaded_at : ℕ
loaded_at = 2 ^ 32

-- The seat gains a receipt of each of these events, in order, each of the table beside it, and no other. Their places and replies
-- may be any: an audit compares them with the history.
abbrev pub Gains : List (ℕ × CellEvent) → SeatState → SeatState → Type 0
Gains [] s e = e ≡ s
Gains (call ∷ calls) s e =
    (place : ℕ) × (reply : CellReply) × Gains calls (with_receipt s call.0 (record { place = place; event = call.1; reply = reply })) e

-- `count` sessions of version 2.1 are opened in the table, in order, from session `first` on
abbrev pub opens_of : ℕ → ℕ → ℕ → List (ℕ × CellEvent)
opens_of table first zero = []
opens_of table first (suc count) = (table, events.Open first versions.V21) ∷ opens_of table (first + 1) count

-- the table learns the update in session 1, if it is the table's own
abbrev pub learn_of : ℕ → Update → List (ℕ × CellEvent)
learn_of table u = if u.table == table then (table, events.Learn 1 u loaded_at) ∷ [] else []

-- sessions are opened in the table, which then learns its own updates among those given, in order
abbrev pub load_of : ℕ → List Update → Definition → List (ℕ × CellEvent)
load_of sessions us d = opens_of d.id 1 sessions ++ flat_map (learn_of d.id) us

-- the same of each table, in order
abbrev pub loads_of : ℕ → List Definition → List Update → List (ℕ × CellEvent)
loads_of sessions ds us = flat_map (load_of sessions us) ds

-- A new table of the definition. It keeps at most a million rows, makes room by purging the row that expires first, and numbers its
-- updates from 1.
abbrev pub new_of : Definition → CellState
new_of d = new_cell d 1000000 false 1

-- The new tables of the definitions were put under locks, and a seat made for each session and one more. The
-- first seat opened the sessions in each and made it learn its updates, and has made no other event.
abbrev pub AreOpened : ℕ → List Definition → List Update → NodeTables → Type 0
AreOpened sessions ds us t =
    (t.roster ≡ ds)
    × (t.shards ≡ record { seats = sessions + 1; cells = map new_of ds })
    × Gains (loads_of sessions ds us) (fresh_seat 1) t.loader
