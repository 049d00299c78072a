-- Updates, and which of them fit a table (HAProxy, doc/peers-v2.0.txt, "Update Messages"; the ranges of the values and
-- of the life are the profile's choices).
use Rattle.std.specs.Prelude.{ℕ, ◌^◌, Bool, true, false, ◌&&◌, ◌==◌, nat_lt, nat_le, List, [], ◌∷◌, Option, Some, None, if◌then◌else◌}
use Rattle.std.specs.List.{list_any}
use Rattle.table_types.specs.declared.data_type.DataType.{DataType}
use Rattle.table_types.specs.declared.data_type.Shape.{Shape}
use Rattle.table_types.specs.declared.data_type.Shape.TheVariants as shapes
use Rattle.table_types.specs.declared.update.Value.{Value}
use Rattle.table_types.specs.declared.update.Value.TheVariants as values
use Rattle.table_types.specs.declared.update.Update.{Update}
use Rattle.table_types.specs.declared.key.Key.{Key}
use Rattle.table_types.specs.Names.{is_name}
use Rattle.table_types.specs.Keys.{key_fits}
use Rattle.table_types.specs.DataTypes.{shape_of}
use Rattle.table_types.specs.Tables.{Definition}

-- below 2^32
abbrev pub is_word : ℕ → Bool
is_word n = nat_lt n (2 ^ 32)

abbrev pub is_optional_word : Option ℕ → Bool
is_optional_word None = true
is_optional_word (Some n) = is_word n

-- the values of each shape; a name is not a value but goes into the update's name field
abbrev pub value_fits : Shape → Value → Bool
value_fits shapes.Count (values.Count n) = is_word n
value_fits shapes.LongCount (values.Count n) = nat_lt n (2 ^ 64)
value_fits shapes.Rate (values.Rate elapsed current previous) = is_word elapsed && is_word current && is_word previous
value_fits shape value = false

abbrev pub is_name_shape : Shape → Bool
is_name_shape shapes.Name = true
is_name_shape _ = false

abbrev pub is_name_type : DataType → Bool
is_name_type t = is_name_shape (shape_of t)

-- one value for each type except the server's name, in ascending order of id
abbrev pub values_fit : List (DataType × Option ℕ) → List Value → Bool
values_fit [] [] = true
values_fit [] (v ∷ vs) = false
values_fit (t ∷ ts) [] = is_name_type t.0 && values_fit ts []
values_fit (t ∷ ts) (v ∷ vs) = if is_name_type t.0 then values_fit ts (v ∷ vs) else value_fits (shape_of t.0) v && values_fit ts vs

-- whether a table stores the server's name
abbrev pub stores_name : Definition → Bool
stores_name d = list_any (λ t. is_name_type t.0) d.types

-- only rows of a table that stores the server's name have one
abbrev pub may_be_named : Definition → Option (List ℕ) → Bool
may_be_named d None = true
may_be_named d (Some name) = stores_name d && is_name name

-- key and values have the table's shape and ranges
abbrev pub row_fits : Definition → Key → List Value → Bool
row_fits d key values = key_fits d.kind d.key_length key && values_fit d.types values

-- the remaining life, if given: 0 in a table whose rows live forever, otherwise 1 to expire
abbrev pub life_fits : Definition → Option ℕ → Bool
life_fits d None = true
life_fits d (Some life) = if d.expire == 0 then life == 0 else nat_le 1 life && nat_le life d.expire

-- an update fits a table if its key, its values, its name and its life do
abbrev pub fits : Definition → Update → Bool
fits d u = row_fits d u.key u.values && may_be_named d u.name && life_fits d u.life
