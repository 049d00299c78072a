-- Reading messages from left to right, up to the first breach (HAProxy, doc/peers-v2.0.txt, "Messages"; the choice of
-- the breach is the profile's). A field is read as its value and the bytes after it.
use Rattle.std.specs.Prelude.{ℕ, ◌/◌, ◌%◌, ◌^◌, Bool, true, false, ◌&&◌, ◌==◌, nat_lt, List, [], ◌∷◌, ◌++◌, length, take, drop, Option, Some, None, is_some, Result, Ok, Err, if◌then◌else◌}
use Rattle.std.specs.Int.{w32, from_be_bytes}
use Rattle.peers_encint.specs.declared.reading.Read.{Read}
use Rattle.peers_encint.specs.declared.reading.Read.TheVariants.{Value, Short, Over}
use Rattle.peers_encint.specs.Integers.{read_of}
use Rattle.table_types.specs.declared.data_type.DataType.{DataType}
use Rattle.table_types.specs.declared.data_type.Shape.{Shape}
use Rattle.table_types.specs.declared.data_type.Shape.TheVariants as shapes
use Rattle.table_types.specs.declared.key.KeyKind.{KeyKind}
use Rattle.table_types.specs.declared.key.KeyKind.TheVariants as kinds
use Rattle.table_types.specs.declared.key.Key.{Key}
use Rattle.table_types.specs.declared.key.Key.TheVariants as keys
use Rattle.table_types.specs.declared.update.Value.{Value as RowValue}
use Rattle.table_types.specs.declared.update.Value.TheVariants as values
use Rattle.table_types.specs.Names.{is_name}
use Rattle.table_types.specs.Keys.{fits_length, kind_at}
use Rattle.table_types.specs.DataTypes.{id_of, all_types, shape_of, is_rate}
use Rattle.table_types.specs.Tables.{Definition, is_id, is_period}
use Rattle.table_types.specs.Updates.{is_word, is_name_type, stores_name}
use Rattle.table_types.specs.Rosters.{table_at}
use Rattle.peers_msg.specs.declared.name_field.NameField.{NameField}
use Rattle.peers_msg.specs.declared.name_field.NameField.TheVariants as names
use Rattle.peers_msg.specs.declared.control.Control.TheVariants.{ResyncRequest, ResyncFinished, ResyncPartial, ResyncConfirmed, Heartbeat}
use Rattle.peers_msg.specs.declared.control.ErrorKind.TheVariants as errors
use Rattle.peers_msg.specs.declared.message.Message.{Message}
use Rattle.peers_msg.specs.declared.message.Message.TheVariants as messages
use Rattle.peers_msg.specs.declared.meaning.Meaning.{Meaning}
use Rattle.peers_msg.specs.declared.meaning.Meaning.TheVariants as meanings
use Rattle.peers_msg.specs.declared.fault.Breach.{Breach}
use Rattle.peers_msg.specs.declared.fault.Breach.TheVariants.{BadInteger, SizeLimit, BadDefinition, UnknownDataType, NoTable, BadKey, BadValue, Trailing}
use Rattle.peers_msg.specs.Messages.{UpdateFields, most_data}
use Rattle.peers_msg.specs.Received.{Received, selected_table}
use Rattle.table_types.specs.SlotIds.{is_slot}

infixl 10 ◌>>=◌
abbrev pub ◌>>=◌ : {A B : Type 0} → Result A Breach → (A → Result B Breach) → Result B Breach
(Ok x) >>= f = f x
(Err e) >>= f = Err e

-- a breach unless the test holds
abbrev pub wanted : Bool → Breach → Result Bool Breach
wanted true breach = Ok true
wanted false breach = Err breach

-- ---- fields

abbrev pub integer_from : Breach → List ℕ → Read → Result (ℕ × List ℕ) Breach
integer_from short bytes (Value n used) = Ok (n, drop used bytes)
integer_from short bytes Short = Err short
integer_from short bytes Over = Err BadInteger

-- an encoded integer, or `short` if the bytes end before the integer does
unfoldable pub integer_at : Breach → List ℕ → Result (ℕ × List ℕ) Breach
integer_at short bytes = integer_from short bytes (read_of bytes)

-- four bytes in big-endian order
unfoldable pub word_at : Breach → List ℕ → Result (ℕ × List ℕ) Breach
word_at short bytes = if nat_lt (length bytes) 4 then Err short else Ok (from_be_bytes w32 (take 4 bytes), drop 4 bytes)

-- `count` bytes
unfoldable pub bytes_at : Breach → ℕ → List ℕ → Result (List ℕ × List ℕ) Breach
bytes_at short n bytes = if nat_lt (length bytes) n then Err short else Ok (take n bytes, drop n bytes)

-- a breach unless the data end with their last field
abbrev pub ended : {A : Type 0} → A → List ℕ → Result A Breach
ended x rest = if length rest == 0 then Ok x else Err Trailing

-- ---- updates

unfoldable pub optional_at : Bool → List ℕ → Result (Option ℕ × List ℕ) Breach
optional_at false bytes = Ok (None, bytes)
optional_at true bytes = do
  n ← word_at BadKey bytes
  Ok (Some n.0, n.1)

unfoldable pub key_at : KeyKind → ℕ → List ℕ → Result (Key × List ℕ) Breach
key_at kinds.Integer l bytes = do
  n ← word_at BadKey bytes
  Ok (keys.Int n.0, n.1)
key_at kinds.Ip4 l bytes = do
  address ← bytes_at BadKey 4 bytes
  Ok (keys.Ip4 address.0, address.1)
key_at kinds.Ip6 l bytes = do
  address ← bytes_at BadKey 16 bytes
  Ok (keys.Ip6 address.0, address.1)
key_at kinds.String l bytes = do
  n ← integer_at BadKey bytes
  _ ← wanted (nat_lt n.0 l) BadKey
  text ← bytes_at BadKey n.0 n.1
  Ok (keys.Str text.0, text.1)
key_at kinds.Binary l bytes = do
  key ← bytes_at BadKey l bytes
  Ok (keys.Bin key.0, key.1)

-- a count below 2^32
unfoldable pub count_at : List ℕ → Result (ℕ × List ℕ) Breach
count_at bytes = do
  n ← integer_at BadValue bytes
  _ ← wanted (is_word n.0) BadValue
  Ok n

-- a value of each shape; a name is not a value but goes into the update's name field
unfoldable pub value_at : Shape → List ℕ → Result (RowValue × List ℕ) Breach
value_at shapes.Count bytes = do
  n ← count_at bytes
  Ok (values.Count n.0, n.1)
value_at shapes.LongCount bytes = do
  n ← integer_at BadValue bytes
  Ok (values.Count n.0, n.1)
value_at shapes.Rate bytes = do
  elapsed ← count_at bytes
  current ← count_at elapsed.1
  previous ← count_at current.1
  Ok (values.Rate elapsed.0 current.0 previous.0, previous.1)
value_at shapes.Name bytes = Err BadValue

-- one value for each type except the server's name
unfoldable pub values_at : List (DataType × Option ℕ) → List ℕ → Result (List RowValue × List ℕ) Breach
values_at [] bytes = Ok ([], bytes)
values_at (t ∷ ts) bytes = if is_name_type t.0 then values_at ts bytes else (do
  value ← value_at (shape_of t.0) bytes
  others ← values_at ts value.1
  Ok (value.0 ∷ others.0, others.1))

-- what follows the slot in a name field: nothing, or an encoded length and a name of that length
unfoldable pub slot_holds : ℕ → List ℕ → Result NameField Breach
slot_holds slot [] = Ok (names.Held slot)
slot_holds slot (b ∷ bs) = do
  n ← integer_at BadValue (b ∷ bs)
  _ ← wanted (n.0 == length n.1 && is_name n.1) BadValue
  Ok (names.Written slot n.1)

-- what is within the length of a name field: nothing, or an encoded slot and what follows it
unfoldable pub field_of : List ℕ → Result NameField Breach
field_of [] = Ok names.NoName
field_of (b ∷ bs) = do
  slot ← integer_at BadValue (b ∷ bs)
  _ ← wanted (is_slot slot.0) BadValue
  slot_holds slot.0 slot.1

-- the name field of a table that stores names, or of one that doesn't
unfoldable pub name_at : Bool → List ℕ → Result (NameField × List ℕ) Breach
name_at false bytes = Ok (names.NotStored, bytes)
name_at true bytes = do
  n ← integer_at BadValue bytes
  inner ← bytes_at BadValue n.0 n.1
  field ← field_of inner.0
  Ok (field, inner.1)

-- an update of a table, with or without a number and a life
unfoldable pub update_at : Definition → Bool → Bool → List ℕ → Result UpdateFields Breach
update_at d numbered timed bytes = do
  number ← optional_at numbered bytes
  life ← optional_at timed number.1
  key ← key_at d.kind d.key_length life.1
  row ← values_at d.types key.1
  name ← name_at (stores_name d) row.1
  ended (record { number = number.0; life = life.0; key = key.0; values = row.0; name = name.0 }) name.1

-- ---- definitions

abbrev pub known_kind : Option KeyKind → Result KeyKind Breach
known_kind None = Err BadDefinition
known_kind (Some kind) = Ok kind

abbrev pub kind_of : ℕ → Result KeyKind Breach
kind_of n = known_kind (kind_at n)

-- a rate's id and period, or nothing for another type
unfoldable pub period_at : DataType → List ℕ → Result (Option ℕ × List ℕ) Breach
period_at t bytes = if is_rate t then (do
  id ← integer_at BadDefinition bytes
  _ ← wanted (id.0 == id_of t) BadDefinition
  period ← integer_at BadDefinition id.1
  _ ← wanted (is_period (Some period.0)) BadDefinition
  Ok (Some period.0, period.1)) else Ok (None, bytes)

-- the types whose bits are set, the first type at the lowest bit, with their periods
unfoldable pub types_at : List DataType → ℕ → List ℕ → Result (List (DataType × Option ℕ) × List ℕ) Breach
types_at [] bits bytes = Ok ([], bytes)
types_at (t ∷ ts) bits bytes = if bits % 2 == 0 then types_at ts (bits / 2) bytes else (do
  period ← period_at t bytes
  others ← types_at ts (bits / 2) period.1
  Ok ((t, period.0) ∷ others.0, others.1))

-- a table's id and name
unfoldable pub named_at : List ℕ → Result ((ℕ × List ℕ) × List ℕ) Breach
named_at bytes = do
  id ← integer_at BadDefinition bytes
  _ ← wanted (is_id id.0) BadDefinition
  size ← integer_at BadDefinition id.1
  name ← bytes_at BadDefinition size.0 size.1
  _ ← wanted (is_name name.0) BadDefinition
  Ok ((id.0, name.0), name.1)

-- the kind of a table's keys and their length
unfoldable pub keyed_at : List ℕ → Result ((KeyKind × ℕ) × List ℕ) Breach
keyed_at bytes = do
  number ← integer_at BadDefinition bytes
  kind ← kind_of number.0
  key_length ← integer_at BadDefinition number.1
  _ ← wanted (fits_length kind key_length.0) BadDefinition
  Ok ((kind, key_length.0), key_length.1)

-- a table's expire and what it stores; the bits of its data types precede the expire, and the periods follow it
unfoldable pub stored_at : List ℕ → Result ((ℕ × List (DataType × Option ℕ)) × List ℕ) Breach
stored_at bytes = do
  bits ← integer_at BadDefinition bytes
  _ ← wanted (nat_lt bits.0 (2 ^ 20)) UnknownDataType
  expire ← integer_at BadDefinition bits.1
  _ ← wanted (nat_lt expire.0 (2 ^ 32)) BadDefinition
  types ← types_at all_types bits.0 expire.1
  Ok ((expire.0, types.0), types.1)

unfoldable pub definition_at : List ℕ → Result Definition Breach
definition_at bytes = do
  named ← named_at bytes
  keyed ← keyed_at named.1
  stored ← stored_at keyed.1
  ended (record { id = named.0.0; name = named.0.1; kind = keyed.0.0; key_length = keyed.0.1; expire = stored.0.0; types = stored.0.1 }) stored.1

-- ---- messages

unfoldable pub switch_at : Received → List ℕ → Result Message Breach
switch_at h bytes = do
  id ← integer_at BadInteger bytes
  _ ← wanted (is_some (table_at h.tables id.0)) NoTable
  ended (messages.Switch id.0) id.1

unfoldable pub ack_at : List ℕ → Result Message Breach
ack_at bytes = do
  table ← integer_at BadInteger bytes
  number ← word_at BadInteger table.1
  ended (messages.Ack table.0 number.0) number.1

abbrev pub update_of : Option Definition → Bool → Bool → List ℕ → Result Message Breach
update_of None numbered timed bytes = Err NoTable
update_of (Some d) numbered timed bytes = do
  u ← update_at d numbered timed bytes
  Ok (messages.Update u)

abbrev pub control_meant : ℕ → Meaning
control_meant message_type =
    if message_type == 0 then meanings.Control ResyncRequest
    else (if message_type == 1 then meanings.Control ResyncFinished
    else (if message_type == 2 then meanings.Control ResyncPartial
    else (if message_type == 3 then meanings.Control ResyncConfirmed
    else (if message_type == 4 then meanings.Control Heartbeat
    else meanings.Other))))

abbrev pub error_meant : ℕ → Meaning
error_meant message_type =
    if message_type == 0 then meanings.Error errors.Protocol
    else (if message_type == 1 then meanings.Error errors.SizeLimit
    else meanings.Other)

abbrev pub table_meant : ℕ → Meaning
table_meant message_type =
    if message_type == 128 then meanings.Update true false
    else (if message_type == 129 then meanings.Update false false
    else (if message_type == 130 then meanings.Define
    else (if message_type == 131 then meanings.Switch
    else (if message_type == 132 then meanings.Ack
    else (if message_type == 133 then meanings.Update true true
    else (if message_type == 134 then meanings.Update false true
    else meanings.Other))))))

-- the meaning of a pair of class and type
unfoldable pub meant : ℕ → ℕ → Meaning
meant class message_type =
    if class == 0 then control_meant message_type
    else (if class == 1 then error_meant message_type
    else (if class == 10 then table_meant message_type
    else meanings.Other))

-- the message with these data
abbrev pub message_of : Received → Meaning → ℕ → ℕ → List ℕ → Result Message Breach
message_of h (meanings.Control c) class message_type body = Ok (messages.Control c)
message_of h (meanings.Error e) class message_type body = Ok (messages.Error e)
message_of h meanings.Define class message_type body = do
  d ← definition_at body
  Ok (messages.Define d)
message_of h meanings.Switch class message_type body = switch_at h body
message_of h meanings.Ack class message_type body = ack_at body
message_of h (meanings.Update numbered timed) class message_type body = update_of (selected_table h) numbered timed body
message_of h meanings.Other class message_type body = Ok (messages.Other (record { class = class; message_type = message_type; body = body }))

unfoldable pub body_at : Received → ℕ → ℕ → List ℕ → Result Message Breach
body_at h class message_type body = message_of h (meant class message_type) class message_type body

-- ---- messages that may not be complete yet

-- class, type and data
pub record Frame : Type 0 where
  pub class : ℕ
  pub message_type : ℕ
  pub body : List ℕ

-- `count` bytes of data, if they are complete
abbrev pub whole_data : ℕ → List ℕ → Result (Option (List ℕ × List ℕ)) Breach
whole_data n bytes =
    if nat_lt most_data n then Err SizeLimit
    else (if nat_lt (length bytes) n then Ok None
    else Ok (Some (take n bytes, drop n bytes)))

abbrev pub data_from : List ℕ → Read → Result (Option (List ℕ × List ℕ)) Breach
data_from bytes (Value n used) = whole_data n (drop used bytes)
data_from bytes Short = Ok None
data_from bytes Over = Err BadInteger

-- the data after a type: none if it is below 128, otherwise as many bytes as an encoded length says
unfoldable pub data_at : ℕ → List ℕ → Result (Option (List ℕ × List ℕ)) Breach
data_at message_type bytes = if nat_lt message_type 128 then Ok (Some ([], bytes)) else data_from bytes (read_of bytes)

abbrev pub frame_with : ℕ → ℕ → Option (List ℕ × List ℕ) → Option (Frame × List ℕ)
frame_with class message_type None = None
frame_with class message_type (Some found) = Some (record { class = class; message_type = message_type; body = found.0 }, found.1)

-- class, type and data at the front, or None while they aren't complete
unfoldable pub frame_at : List ℕ → Result (Option (Frame × List ℕ)) Breach
frame_at [] = Ok None
frame_at (class ∷ []) = Ok None
frame_at (class ∷ (message_type ∷ bytes)) = do
  found ← data_at message_type bytes
  Ok (frame_with class message_type found)

abbrev pub message_in : Received → Option (Frame × List ℕ) → Result (Option (Message × List ℕ)) Breach
message_in h None = Ok None
message_in h (Some found) = do
  m ← body_at h found.0.class found.0.message_type found.0.body
  Ok (Some (m, found.1))

-- the message at the front and the bytes after it, or None while the message isn't complete
unfoldable pub message_at : Received → List ℕ → Result (Option (Message × List ℕ)) Breach
message_at h bytes = do
  found ← frame_at bytes
  message_in h found

-- the result with more bytes after it
abbrev pub with_more : {A : Type 0} → List ℕ → Result (Option (A × List ℕ)) Breach → Result (Option (A × List ℕ)) Breach
with_more more (Ok None) = Ok None
with_more more (Ok (Some found)) = Ok (Some (found.0, found.1 ++ more))
with_more more (Err breach) = Err breach
