-- What differs between two definitions of a table.
use Rattle.std.specs.Prelude.{ℕ, Bool, false, not, ◌||◌, ◌==◌, List, [], ◌∷◌, Option, Some, None, if◌then◌else◌}
use Rattle.std.specs.Cmp.Lexicographic.{pointwise}
use Rattle.table_types.specs.declared.data_type.DataType.{DataType}
use Rattle.table_types.specs.DataTypes.{is_same_type}
use Rattle.table_types.specs.Keys.{number_of}
use Rattle.table_types.specs.Shapes.{is_same_period}
use Rattle.table_types.specs.Tables.{Definition}
use Rattle.node_core.specs.declared.differences.Difference.{Difference}
use Rattle.node_core.specs.declared.differences.Difference.TheVariants.{Kind, Length, Types, Period}

-- What has to be the same for rows to be shared: the number of the kind of the keys, their length in bytes, and the data types. Those
-- below 20 are given in ascending order of id, each rate with its period, if that is known; of those from 20 up only that there are some.
pub record Shape : Type 0 where
  pub kind : ℕ
  pub key_length : ℕ
  pub types : List (DataType × Option ℕ)
  pub further : Bool

-- the shape of a table that this node can keep
abbrev pub defined_shape : Definition → Shape
defined_shape d = record { kind = number_of d.kind; key_length = d.key_length; types = d.types; further = false }

abbrev pub have_same_types : List (DataType × Option ℕ) → List (DataType × Option ℕ) → Bool
have_same_types own theirs = pointwise (λ (t h : DataType × Option ℕ). is_same_type t.0 h.0) own theirs

-- a rate whose period isn't known has another one
abbrev pub have_same_periods : List (DataType × Option ℕ) → List (DataType × Option ℕ) → Bool
have_same_periods own theirs = pointwise (λ (t h : DataType × Option ℕ). is_same_period t.1 h.1) own theirs

-- the data types that have another period than those at the same places on the other side
abbrev pub differing_rates : List (DataType × Option ℕ) → List (DataType × Option ℕ) → List (DataType × Option ℕ)
differing_rates [] hs = []
differing_rates (t ∷ ts) [] = []
differing_rates (t ∷ ts) (h ∷ hs) = if is_same_period t.1 h.1 then differing_rates ts hs else t ∷ differing_rates ts hs

-- the first of kind, length, data types and periods that differs; of data types from 20 up the node has none
abbrev pub difference : Shape → Shape → Option Difference
difference own theirs =
    if not (own.kind == theirs.kind) then Some Kind
    else (if not (own.key_length == theirs.key_length) then Some Length
    else (if own.further || (theirs.further || not (have_same_types own.types theirs.types)) then Some Types
    else (if not (have_same_periods own.types theirs.types) then Some Period
    else None)))
