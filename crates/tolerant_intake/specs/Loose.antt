-- Reading loosely what the profile doesn't have: definitions of any shape, and the updates of such tables up to their
-- name field (HAProxy, doc/peers-v2.0.txt, "Table Definition Message", "Update Messages"; what is read loosely is the
-- profile's choice).
use Rattle.std.specs.Prelude.{ℕ, ◌/◌, ◌%◌, Bool, ◌==◌, List, [], ◌∷◌, Option, None, Result, Ok, Err, if◌then◌else◌}
use Rattle.std.specs.List.{list_any}
use Rattle.table_types.specs.declared.data_type.DataType.{DataType}
use Rattle.table_types.specs.declared.data_type.Shape.{Shape}
use Rattle.table_types.specs.declared.data_type.Shape.TheVariants as shapes
use Rattle.table_types.specs.DataTypes.{all_types, shape_of}
use Rattle.table_types.specs.Updates.{is_name_type}
use Rattle.peers_msg.specs.declared.fault.Breach.{Breach}
use Rattle.peers_msg.specs.declared.fault.Breach.TheVariants.{BadDefinition, BadKey, BadValue}
use Rattle.peers_msg.specs.declared.name_field.NameField.{NameField}
use Rattle.peers_msg.specs.Reading.{◌>>=◌, integer_at, bytes_at, optional_at, name_at, named_at, period_at}

-- ---- definitions

-- what is read of a definition: the table's id and name, the number of its keys' kind, their length, the bits of its data
-- types, and the bytes that follow its expire, which begin with the periods of its rates
pub record LooseDefinition : Type 0 where
  pub id : ℕ
  pub name : List ℕ
  pub kind : ℕ
  pub key_length : ℕ
  pub bits : ℕ
  pub periods : List ℕ

-- id and name as in every definition, then kind, key length, bits and expire, each an encoded integer of any size
unfoldable pub loose_definition_at : List ℕ → Result LooseDefinition Breach
loose_definition_at bytes = do
  named ← named_at bytes
  kind ← integer_at BadDefinition named.1
  key_length ← integer_at BadDefinition kind.1
  bits ← integer_at BadDefinition key_length.1
  expire ← integer_at BadDefinition bits.1
  Ok (record { id = named.0.0; name = named.0.1; kind = kind.0; key_length = key_length.0; bits = bits.0; periods = expire.1 })

-- a period and the bytes after it; behind one that can't be read, none can
abbrev pub period_or_none : Result (Option ℕ × List ℕ) Breach → Option ℕ × List ℕ
period_or_none (Ok read) = read
period_or_none (Err breach) = (None, [])

-- the types among these, the first at the lowest bit, whose bits are set, each rate with its period, if that can be read
unfoldable pub types_stored : List DataType → ℕ → List ℕ → List (DataType × Option ℕ)
types_stored [] bits bytes = []
types_stored (t ∷ ts) bits bytes =
    if bits % 2 == 0 then types_stored ts (bits / 2) bytes
    else (t, (period_or_none (period_at t bytes)).0) ∷ types_stored ts (bits / 2) (period_or_none (period_at t bytes)).1

-- the types below 20 that a definition has
abbrev pub known_types : LooseDefinition → List (DataType × Option ℕ)
known_types d = types_stored all_types d.bits d.periods

-- ---- updates

-- what is read of an update: its number, if it is given, its name field, and the bytes that follow it
pub record LooseUpdate : Type 0 where
  pub number : Option ℕ
  pub name : NameField
  pub rest : List ℕ

-- an encoded length and that many bytes
unfoldable pub counted_after : List ℕ → Result (List ℕ) Breach
counted_after bytes = do
  n ← integer_at BadKey bytes
  text ← bytes_at BadKey n.0 n.1
  Ok text.1

-- the bytes after a key: four bytes for a number (kind 2), a length and that many bytes for a string (kind 6), and as
-- many bytes as the key length for any other kind
unfoldable pub key_after : ℕ → ℕ → List ℕ → Result (List ℕ) Breach
key_after kind l bytes =
    if kind == 6 then counted_after bytes
    else (do
      key ← bytes_at BadKey (if kind == 2 then 4 else l) bytes
      Ok key.1)

-- the bytes after an encoded integer
unfoldable pub integer_after : List ℕ → Result (List ℕ) Breach
integer_after bytes = do
  n ← integer_at BadValue bytes
  Ok n.1

-- the bytes after a value of any size: an encoded integer, three of them for a rate; a name is not a value
unfoldable pub value_after : Shape → List ℕ → Result (List ℕ) Breach
value_after shapes.Count bytes = integer_after bytes
value_after shapes.LongCount bytes = integer_after bytes
value_after shapes.Rate bytes = do
  elapsed ← integer_after bytes
  current ← integer_after elapsed
  integer_after current
value_after shapes.Name bytes = Ok bytes

-- the bytes after one value for each type
abbrev pub values_after : List (DataType × Option ℕ) → List ℕ → Result (List ℕ) Breach
values_after [] bytes = Ok bytes
values_after (t ∷ ts) bytes = value_after (shape_of t.0) bytes >>= values_after ts

-- whether a name is among the types
abbrev pub has_name_type : List (DataType × Option ℕ) → Bool
has_name_type types = list_any (λ t. is_name_type t.0) types

-- an update, with or without a number and a life, of a table with these keys and types
unfoldable pub loose_update_at : ℕ → ℕ → List (DataType × Option ℕ) → Bool → Bool → List ℕ → Result LooseUpdate Breach
loose_update_at kind key_length types numbered timed bytes = do
  number ← optional_at numbered bytes
  life ← optional_at timed number.1
  values ← key_after kind key_length life.1
  end ← values_after types values
  name ← name_at (has_name_type types) end
  Ok (record { number = number.0; name = name.0; rest = name.1 })
