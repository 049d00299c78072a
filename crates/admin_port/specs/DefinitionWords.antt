-- How a table is defined, in HAProxy's words, as far as two definitions of it differ.
use Rattle.std.specs.Prelude.{◌++◌, ◌-◌, ◌/◌, ◌%◌, ◌==◌, ◌&&◌, ℕ, Bool, true, false, List, [], ◌∷◌, Option, Some, None, codes, flat_map, if◌then◌else◌, nat_le}
use Rattle.std.specs.Fmt.{decimal}
use Rattle.table_types.specs.declared.data_type.DataType.{DataType}
use Rattle.table_types.specs.declared.key.KeyKind.{KeyKind}
use Rattle.table_types.specs.DataTypes.{is_rate, name_of}
use Rattle.table_types.specs.Keys.{kind_at}
use Rattle.node_core.specs.declared.differences.Difference.{Difference}
use Rattle.node_core.specs.declared.differences.Difference.TheVariants as differences
use Rattle.node_core.specs.Differences.{Shape, differing_rates}
use Rattle.admin_port.specs.ShownTables.{shown_kind}

-- ---- periods

-- a time in ms as a number of the largest unit of which it has a whole number
abbrev pub in_units : ℕ → ℕ × List ℕ
in_units ms =
    if ms % 86400000 == 0 then (ms / 86400000, codes "d")
    else (if ms % 3600000 == 0 then (ms / 3600000, codes "h")
    else (if ms % 60000 == 0 then (ms / 60000, codes "m")
    else (if ms % 1000 == 0 then (ms / 1000, codes "s")
    else (ms, codes "ms"))))

abbrev pub duration_text : ℕ → List ℕ
duration_text ms = decimal (in_units ms).0 ++ (in_units ms).1

-- a period, or `?` if it isn't known
abbrev pub told_period : Option ℕ → List ℕ
told_period None = codes "?"
told_period (Some ms) = duration_text ms

-- ---- data types

-- a data type, with its period if it is a rate
unfoldable pub type_text : DataType × Option ℕ → List ℕ
type_text t = name_of t.0 ++ (if is_rate t.0 then codes "(" ++ (told_period t.1 ++ codes ")") else [])

-- with a comma (44) between two
abbrev pub types_text : List (DataType × Option ℕ) → List ℕ
types_text [] = []
types_text (t ∷ ts) = type_text t ++ flat_map (λ other. 44 ∷ type_text other) ts

abbrev pub further_text : Bool → List ℕ
further_text true = codes " and data types from 20 up"
further_text false = []

abbrev pub unknown_text : Bool → List ℕ
unknown_text true = codes "data types from 20 up"
unknown_text false = codes "no data types"

-- what a table stores
abbrev pub stored_text : List (DataType × Option ℕ) → Bool → List ℕ
stored_text [] further = unknown_text further
stored_text (t ∷ ts) further = codes "store " ++ (types_text (t ∷ ts) ++ further_text further)

-- ---- keys

abbrev pub known_kind_text : Option KeyKind → ℕ → List ℕ
known_kind_text (Some kind) n = codes "type " ++ shown_kind kind
known_kind_text None n = codes "type number " ++ decimal n

-- the kind of keys with a number
abbrev pub kind_text : ℕ → List ℕ
kind_text n = known_kind_text (kind_at n) n

unfoldable pub key_length_text : ℕ → List ℕ
key_length_text l = codes " (key length " ++ (decimal l ++ codes ")")

-- the length of strings, of which the `len` is one less
unfoldable pub string_text : ℕ → List ℕ
string_text l = codes "type string len " ++ (decimal (l - 1) ++ key_length_text l)

-- the length of keys of the kind with a number, strings (6), binary keys (7) or others
abbrev pub length_text : ℕ → ℕ → List ℕ
length_text kind l =
    if kind == 6 && nat_le 1 l then string_text l
    else (if kind == 7 then codes "type binary len " ++ decimal l
    else codes "key length " ++ decimal l)

-- ---- a side

-- how a table is defined on one side, as far as a difference goes, given the other side
abbrev pub side_text : Difference → Shape → Shape → List ℕ
side_text differences.Kind s other = kind_text s.kind
side_text differences.Length s other = length_text s.kind s.key_length
side_text differences.Types s other = stored_text s.types s.further
side_text differences.Period s other = types_text (differing_rates s.types other.types)
