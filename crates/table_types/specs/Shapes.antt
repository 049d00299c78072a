-- When two definitions are the same, and when they have the same shape (profile).
use Rattle.std.specs.Prelude.{ℕ, Bool, true, false, ◌&&◌, ◌==◌, List, [], ◌∷◌, Option, Some, None}
use Rattle.table_types.specs.declared.data_type.DataType.{DataType}
use Rattle.table_types.specs.Keys.{number_of}
use Rattle.table_types.specs.DataTypes.{is_same_type}
use Rattle.table_types.specs.Tables.{Definition}
use Rattle.table_types.specs.Rosters.{is_same_name}

abbrev pub is_same_period : Option ℕ → Option ℕ → Bool
is_same_period (Some a) (Some b) = a == b
is_same_period None None = true
is_same_period a b = false

-- the same data types with the same periods
abbrev pub are_same_types : List (DataType × Option ℕ) → List (DataType × Option ℕ) → Bool
are_same_types [] [] = true
are_same_types (t ∷ ts) (h ∷ hs) = is_same_type t.0 h.0 && is_same_period t.1 h.1 && are_same_types ts hs
are_same_types ts hs = false

-- two tables of the same shape: they have the same name, kind of keys, key length, data types and periods; id and
-- expire may differ
abbrev pub is_shape_of : Definition → Definition → Bool
is_shape_of own received =
    is_same_name own.name received.name
    && number_of own.kind == number_of received.kind
    && own.key_length == received.key_length
    && are_same_types own.types received.types

-- the same definition, part for part
abbrev pub is_same_definition : Definition → Definition → Bool
is_same_definition own received = own.id == received.id && own.expire == received.expire && is_shape_of own received
