-- The tables received in a map by id, beside an index of their names.
use Rattle.std.specs.Prelude.{◌≡◌, ◌==◌, ℕ, Bool, false, List, map, Option, Some, None, option_map}
use Rattle.std.specs.Map.{values_of}
use Rattle.table_types.specs.Tables.{Definition}
use Rattle.table_types.specs.Rosters.{is_same_name}
use Rattle.peers_msg.specs.Received.{AreDistinct, table_named}

-- tables by id
abbrev pub by_ids : List Definition → List (ℕ × Definition)
by_ids ds = map (λ d. (d.id, d)) ds

-- there is an id, and it is this one
abbrev pub is_id : Option ℕ → ℕ → Bool
is_id None id = false
is_id (Some other) id = id == other

-- there is a table, and it has this name
abbrev pub has_that_name : Option Definition → List ℕ → Bool
has_that_name None name = false
has_that_name (Some d) name = is_same_name d.name name

-- the id of the table with a name
abbrev pub id_named : List Definition → List ℕ → Option ℕ
id_named ds name = option_map (λ d. d.id) (table_named ds name)

-- the map has each table at its id, with distinct ids and names, and the index has the id of the table of each name
pub record AreIndexed (entries : List (ℕ × Definition)) (index : List ℕ → Option ℕ) : Type 0 where
  pub by_id : entries ≡ by_ids (values_of entries)
  pub distinct : AreDistinct (values_of entries)
  pub by_name : (name : List ℕ) → index name ≡ id_named (values_of entries) name
