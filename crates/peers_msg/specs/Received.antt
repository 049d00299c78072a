-- The definitions received on a stream: the definition of each id, and the selected id (HAProxy, doc/peers-v2.0.txt,
-- "Table Definition Message" and "Table Switch Message"; which tables a definition with a known id or name replaces is
-- the profile's choice).
use Rattle.std.specs.Prelude.{◌≢◌, ◌<◌, ℕ, Bool, not, ◌&&◌, ◌==◌, nat_lt, List, [], ◌∷◌, filter, fold, Option, Some, None, option_and_then, if◌then◌else◌}
use Rattle.std.specs.List.{AllByRecursion}
use Rattle.table_types.specs.Tables.{Definition}
use Rattle.table_types.specs.Rosters.{is_same_name, table_at}
use Rattle.peers_msg.specs.declared.message.Message.{Message}
use Rattle.peers_msg.specs.declared.message.Message.TheVariants as messages

pub record Received : Type 0 where
  pub tables : List Definition
  pub selected : Option ℕ

-- a table has a lower id than another, and a different name
abbrev pub IsBelow : Definition → Definition → Type 0
IsBelow d other = (d.id < other.id) × (d.name ≢ other.name)

-- the tables are in ascending order of id, with distinct ids and distinct names
abbrev pub AreDistinct : List Definition → Type 0
AreDistinct [] = Unit {0}
AreDistinct (d ∷ ds) = AllByRecursion (IsBelow d) ds × AreDistinct ds

-- nothing was received yet
abbrev pub nothing_received : Received
nothing_received = record { tables = []; selected = None }

-- inserts a table among tables in ascending order of id
abbrev pub insert_table : Definition → List Definition → List Definition
insert_table new [] = new ∷ []
insert_table new (d ∷ ds) = if nat_lt new.id d.id then new ∷ (d ∷ ds) else d ∷ insert_table new ds

-- a definition keeps the tables that have neither its id nor its name
abbrev pub outlives : Definition → Definition → Bool
outlives new d = not (d.id == new.id) && not (is_same_name d.name new.name)

-- a definition replaces the tables with its id or its name
abbrev pub defined : Definition → List Definition → List Definition
defined new ds = insert_table new (filter (outlives new) ds)

-- a definition also selects its table, a switch selects a table, and no other message changes what was received
abbrev pub received_after : Received → Message → Received
received_after h (messages.Define d) = record { tables = defined d h.tables; selected = Some d.id }
received_after h (messages.Switch id) = record { tables = h.tables; selected = Some id }
received_after h m = h

-- the table with a name
abbrev pub table_named : List Definition → List ℕ → Option Definition
table_named [] name = None
table_named (d ∷ ds) name = if is_same_name d.name name then Some d else table_named ds name

-- the first of the tables, in ascending order of id, with an id above this one
abbrev pub table_above : List Definition → ℕ → Option Definition
table_above [] id = None
table_above (d ∷ ds) id = if nat_lt id d.id then Some d else table_above ds id

-- the selected table
abbrev pub selected_table : Received → Option Definition
selected_table h = option_and_then (table_at h.tables) h.selected

-- the tables received after the roster's own definition of an id
abbrev pub with_own : List Definition → List Definition → ℕ → List Definition
with_own roster ds id = with_found (table_at roster id) ds
  where
    with_found : Option Definition → List Definition → List Definition
    with_found None ds = ds
    with_found (Some d) ds = defined d ds

-- what was received after the roster's tables with these ids were defined, in this order, and `selected` was selected
-- last
abbrev pub resumed : List Definition → List ℕ → Option ℕ → Received
resumed roster ids selected = record { tables = fold (with_own roster) [] ids; selected = selected }
