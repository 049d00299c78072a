-- Which of the received tables a learner keeps (profile).
use Rattle.std.specs.Prelude.{ℕ, List, [], ◌∷◌, filter_map, Option, Some, None, option_and_then, option_map, if◌then◌else◌}
use Rattle.table_types.specs.declared.update.Update.{Update}
use Rattle.table_types.specs.Tables.{Definition}
use Rattle.table_types.specs.Rosters.{table_at}
use Rattle.peers_msg.specs.Received.{Received, selected_table}
use Rattle.table_types.specs.Shapes.{is_shape_of}

-- the local table of a received table: the one of the same shape
abbrev pub local_table : List Definition → Definition → Option Definition
local_table [] received = None
local_table (d ∷ ds) received = if is_shape_of d received then Some d else local_table ds received

-- the id of the local table for which a received id stands
abbrev pub local_id : List Definition → Received → ℕ → Option ℕ
local_id roster received id = option_map (λ d. d.id) (option_and_then (local_table roster) (table_at received.tables id))

-- an update under the local table's id
abbrev pub local_update : List Definition → Received → Update → Option Update
local_update roster received u = option_map (λ id. record { table = id; number = u.number; life = u.life; key = u.key; values = u.values; name = u.name }) (local_id roster received u.table)

-- the updates of local tables, each under the local table's id
abbrev pub local_updates : List Definition → Received → List Update → List Update
local_updates roster received us = filter_map (local_update roster received) us

-- the id of the local table of the selected table
abbrev pub selected_local : List Definition → Received → Option ℕ
selected_local roster received = option_map (λ d. d.id) (option_and_then (local_table roster) (selected_table received))
