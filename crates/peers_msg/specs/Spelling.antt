-- The one spelling of each message (HAProxy, doc/peers-v2.0.txt, "Messages"; version 2.1 adds the timed updates, the
-- heartbeat, the expire and the periods in a definition, and the dictionary of names).
use Rattle.std.specs.Prelude.{◌≡◌, ℕ, ◌^◌, List, [], ◌∷◌, ◌++◌, length, sum_by, flat_map, Option, Some, None, nat_lt, if◌then◌else◌}
use Rattle.std.specs.Int.{w32, to_be_bytes}
use Rattle.peers_encint.specs.Integers.{spelling}
use Rattle.table_types.specs.declared.data_type.DataType.{DataType}
use Rattle.table_types.specs.declared.key.Key.{Key}
use Rattle.table_types.specs.declared.key.Key.TheVariants as keys
use Rattle.table_types.specs.declared.update.Value.{Value}
use Rattle.table_types.specs.declared.update.Value.TheVariants as values
use Rattle.table_types.specs.Keys.{number_of}
use Rattle.table_types.specs.DataTypes.{id_of}
use Rattle.table_types.specs.Tables.{Definition}
use Rattle.peers_msg.specs.declared.name_field.NameField.{NameField}
use Rattle.peers_msg.specs.declared.name_field.NameField.TheVariants as names
use Rattle.peers_msg.specs.declared.control.Control.{Control}
use Rattle.peers_msg.specs.declared.control.Control.TheVariants as controls
use Rattle.peers_msg.specs.declared.control.ErrorKind.{ErrorKind}
use Rattle.peers_msg.specs.declared.control.ErrorKind.TheVariants as errors
use Rattle.peers_msg.specs.declared.message.Message.{Message}
use Rattle.peers_msg.specs.declared.message.Message.TheVariants as messages
use Rattle.peers_msg.specs.Messages.{UpdateFields}

-- four bytes in big-endian order
abbrev pub word : ℕ → List ℕ
word n = to_be_bytes w32 n

abbrev pub optional_word : Option ℕ → List ℕ
optional_word None = []
optional_word (Some n) = word n

-- an encoded length, and that many bytes
abbrev pub counted : List ℕ → List ℕ
counted bytes = spelling (length bytes) ++ bytes

-- class, type, and data after their encoded length
abbrev pub framed : ℕ → ℕ → List ℕ → List ℕ
framed class message_type body = class ∷ (message_type ∷ counted body)

abbrev pub key_text : Key → List ℕ
key_text (keys.Int n) = word n
key_text (keys.Ip4 bytes) = bytes
key_text (keys.Ip6 bytes) = bytes
key_text (keys.Str bytes) = counted bytes
key_text (keys.Bin bytes) = bytes

-- a rate is three encoded integers: ms since its current period began, current count, previous count
abbrev pub value_text : Value → List ℕ
value_text (values.Count n) = spelling n
value_text (values.Rate elapsed current previous) = spelling elapsed ++ (spelling current ++ spelling previous)

-- a length of 0 if there is no name; otherwise within that length a slot, followed by the name if the slot is written
abbrev pub name_text : NameField → List ℕ
name_text names.NotStored = []
name_text names.NoName = spelling 0
name_text (names.Held slot) = counted (spelling slot)
name_text (names.Written slot name) = counted (spelling slot ++ counted name)

abbrev pub update_text : UpdateFields → List ℕ
update_text u = optional_word u.number ++ (optional_word u.life ++ (key_text u.key ++ (flat_map value_text u.values ++ name_text u.name)))

-- 128 with a number, 129 without; 133 and 134 with a life
abbrev pub update_type : UpdateFields → ℕ
update_type u = type_for u.number u.life
  where
    type_for : Option ℕ → Option ℕ → ℕ
    type_for (Some number) None = 128
    type_for None None = 129
    type_for (Some number) (Some life) = 133
    type_for None (Some life) = 134

-- one bit for each data type
abbrev pub bits_of : List (DataType × Option ℕ) → ℕ
bits_of types = sum_by (λ t. 2 ^ id_of t.0) types

-- a rate's encoded id and period in ms
abbrev pub period_text : DataType × Option ℕ → List ℕ
period_text t = for_period t.0 t.1
  where
    for_period : DataType → Option ℕ → List ℕ
    for_period data_type None = []
    for_period data_type (Some period) = spelling (id_of data_type) ++ spelling period

abbrev pub definition_text : Definition → List ℕ
definition_text d = spelling d.id ++ (counted d.name ++ (spelling (number_of d.kind) ++ (spelling d.key_length ++ (spelling (bits_of d.types) ++ (spelling d.expire ++ flat_map period_text d.types)))))

abbrev pub control_type : Control → ℕ
control_type controls.ResyncRequest = 0
control_type controls.ResyncFinished = 1
control_type controls.ResyncPartial = 2
control_type controls.ResyncConfirmed = 3
control_type controls.Heartbeat = 4

abbrev pub error_type : ErrorKind → ℕ
error_type errors.Protocol = 0
error_type errors.SizeLimit = 1

-- the data of a message, which its length counts
unfoldable pub data_of : Message → List ℕ
data_of (messages.Control c) = []
data_of (messages.Error e) = []
data_of (messages.Define d) = definition_text d
data_of (messages.Switch id) = spelling id
data_of (messages.Ack table number) = spelling table ++ word number
data_of (messages.Update u) = update_text u
data_of (messages.Other o) = o.body

-- the bytes of a message
unfoldable pub spelled : Message → List ℕ
spelled (messages.Control c) = 0 ∷ (control_type c ∷ [])
spelled (messages.Error e) = 1 ∷ (error_type e ∷ [])
spelled (messages.Define d) = framed 10 130 (definition_text d)
spelled (messages.Switch id) = framed 10 131 (spelling id)
spelled (messages.Ack table number) = framed 10 132 (spelling table ++ word number)
spelled (messages.Update u) = framed 10 (update_type u) (update_text u)
spelled (messages.Other o) = if nat_lt o.message_type 128 then o.class ∷ (o.message_type ∷ []) else framed o.class o.message_type o.body

-- the bytes `b` are the message `m`
abbrev pub Spells : Message → List ℕ → Type 0
Spells m b = b ≡ spelled m

-- the size of a message in bytes
unfoldable pub size_of : Message → ℕ
size_of m = length (spelled m)

-- the bytes of messages in a row
abbrev pub stream_of : List Message → List ℕ
stream_of ms = flat_map spelled ms

-- the size of messages in a row
abbrev pub size_of_all : List Message → ℕ
size_of_all ms = sum_by size_of ms
