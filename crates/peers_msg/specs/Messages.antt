-- The fields of the messages of the peers protocol (HAProxy, doc/peers-v2.0.txt, "Messages").
use Rattle.std.specs.Prelude.{ℕ, Bool, not, ◌&&◌, ◌||◌, ◌==◌, nat_lt, nat_le, List, length, Option, if◌then◌else◌}
use Rattle.table_types.specs.declared.key.Key.{Key}
use Rattle.table_types.specs.declared.key.Key.TheVariants as keys
use Rattle.table_types.specs.declared.update.Value.{Value}
use Rattle.peers_msg.specs.declared.name_field.NameField.{NameField}

-- an update of the selected table: its number (None: one above the table's last), the row's remaining life in ms (None:
-- not given), the key, the values, and the name field
pub record UpdateFields : Type 0 where
  pub number : Option ℕ
  pub life : Option ℕ
  pub key : Key
  pub values : List Value
  pub name : NameField

-- a message whose pair of class and type has no meaning here
pub record OtherFields : Type 0 where
  pub class : ℕ
  pub message_type : ℕ
  pub body : List ℕ

-- the pairs of class and type that have a meaning: control messages 0 to 4, errors 0 and 1, and the messages of
-- stick tables 128 to 134
abbrev pub is_known_pair : ℕ → ℕ → Bool
is_known_pair class message_type = class == 0 && nat_le message_type 4 || class == 1 && nat_le message_type 1 || class == 10 && (nat_le 128 message_type && nat_le message_type 134)

-- the most bytes that the data of a message may have
abbrev pub most_data : ℕ
most_data = 16384

-- a message of another pair: its class and type are bytes, and it has data only if the type is 128 or more, and within
-- the limit
abbrev pub is_other : OtherFields → Bool
is_other o = nat_lt o.class 256 && nat_lt o.message_type 256 && not (is_known_pair o.class o.message_type) && (if nat_lt o.message_type 128 then length o.body == 0 else nat_le (length o.body) most_data)

-- the size of a key in bytes, without a length before them
abbrev pub key_bytes : Key → ℕ
key_bytes (keys.Int n) = 4
key_bytes (keys.Ip4 bytes) = length bytes
key_bytes (keys.Ip6 bytes) = length bytes
key_bytes (keys.Str bytes) = length bytes
key_bytes (keys.Bin bytes) = length bytes

-- the limits for an update of any table: a key of at most 8,192 bytes, and at most 20 values
abbrev pub is_small : Key → List Value → Bool
is_small key values = nat_le (key_bytes key) 8192 && nat_le (length values) 20
