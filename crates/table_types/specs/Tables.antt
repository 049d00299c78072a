-- Definitions of tables (HAProxy, doc/peers-v2.0.txt, "Table Definition Message", and the Configuration Manual,
-- stick-table; the bounds of ids, names, lengths and periods are the profile's choices).
use Rattle.std.specs.Prelude.{ℕ, ◌+◌, ◌^◌, Bool, true, false, not, ◌&&◌, ◌||◌, nat_lt, nat_le, List, [], ◌∷◌, Option, Some, None, if◌then◌else◌, filter_map}
use Rattle.std.specs.List.{list_all, list_any}
use Rattle.table_types.specs.declared.key.KeyKind.{KeyKind}
use Rattle.table_types.specs.declared.data_type.DataType.{DataType}
use Rattle.table_types.specs.declared.table_def.DefError.{DefError}
use Rattle.table_types.specs.declared.table_def.DefError.TheVariants as errors
use Rattle.table_types.specs.Names.{is_name}
use Rattle.table_types.specs.Keys.{fits_length}
use Rattle.table_types.specs.DataTypes.{id_of, all_types, is_rate, is_same_type}

-- the definition of a table: the id that its definer gives it, its name, its keys, how long a row lives after its last
-- update in ms (0 means forever), and what it stores, each rate with its period in ms
pub record Definition : Type 0 where
  pub id : ℕ
  pub name : List ℕ
  pub kind : KeyKind
  pub key_length : ℕ
  pub expire : ℕ
  pub types : List (DataType × Option ℕ)

-- 1 to 2^32 - 1
abbrev pub is_id : ℕ → Bool
is_id id = nat_le 1 id && nat_lt id (2 ^ 32)

abbrev pub is_period : Option ℕ → Bool
is_period (Some p) = nat_le 1 p && nat_lt p (2 ^ 32)
is_period None = false

abbrev pub is_absent : Option ℕ → Bool
is_absent (Some p) = false
is_absent None = true

-- a rate has a period of 1 to 2^32 - 1 ms, and no other type has one
abbrev pub has_its_period : DataType × Option ℕ → Bool
has_its_period t = if is_rate t.0 then is_period t.1 else is_absent t.1

-- the ids ascend, and none is below `least`
abbrev pub rise_from : ℕ → List (DataType × Option ℕ) → Bool
rise_from least [] = true
rise_from least (t ∷ ts) = nat_le least (id_of t.0) && rise_from (id_of t.0 + 1) ts

-- what makes a record a definition
abbrev pub is_definition : Definition → Bool
is_definition d = is_id d.id && is_name d.name && fits_length d.kind d.key_length && nat_lt d.expire (2 ^ 32) && list_all has_its_period d.types && rise_from 0 d.types

abbrev pub stores : DataType → List (DataType × Option ℕ) → Bool
stores t ts = list_any (λ entry. is_same_type t entry.0) ts

-- some data type occurs twice
abbrev pub repeats : List (DataType × Option ℕ) → Bool
repeats [] = false
repeats (t ∷ ts) = stores t.0 ts || repeats ts

-- the first thing wrong with the parts of a definition
abbrev pub fault_of : ℕ → List ℕ → KeyKind → ℕ → List (DataType × Option ℕ) → Option DefError
fault_of id name kind key_length types =
    if not (is_id id) then Some errors.Id
    else (if not (is_name name) then Some errors.Name
    else (if not (fits_length kind key_length) then Some errors.KeyLength
    else (if not (list_all has_its_period types) then Some errors.Period
    else (if repeats types then Some errors.RepeatedType
    else None))))

-- the entry for a data type among those given
abbrev pub entry_of : List (DataType × Option ℕ) → DataType → Option (DataType × Option ℕ)
entry_of [] t = None
entry_of (e ∷ es) t = if is_same_type t e.0 then Some e else entry_of es t

-- the entries in ascending order of id
abbrev pub in_rising_id : List (DataType × Option ℕ) → List (DataType × Option ℕ)
in_rising_id types = filter_map (entry_of types) all_types
