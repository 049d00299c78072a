-- Borrowed parts of messages, and the values that they stand for.
use Rattle.std.specs.Prelude.{◌≡◌, ℕ, suc, Bool, true, false, if◌then◌else◌, List, [], ◌∷◌, Option, Result, Ok, Err}
use Rattle.table_types.specs.declared.data_type.DataType.{DataType}
use Rattle.table_types.specs.declared.update.Value.{Value}
use Rattle.table_types.specs.declared.key.Key.{Key}
use Rattle.table_types.specs.declared.key.Key.TheVariants as keys
use Rattle.table_types.specs.Names.{is_name}
use Rattle.table_types.specs.Updates.{is_name_type}
use Rattle.peers_msg.specs.declared.name_field.NameField.{NameField}
use Rattle.peers_msg.specs.declared.name_field.NameField.TheVariants as names
use Rattle.peers_msg.specs.declared.name_field_ref.NameFieldRef.{NameFieldRef}
use Rattle.peers_msg.specs.declared.name_field_ref.NameFieldRef.TheVariants as fields
use Rattle.peers_msg.specs.declared.borrowed.key_ref.KeyRef.{KeyRef}
use Rattle.peers_msg.specs.declared.borrowed.key_ref.KeyRef.TheVariants as borrowed
use Rattle.peers_msg.specs.declared.fault.Breach.{Breach}
use Rattle.peers_msg.specs.Reading.{◌>>=◌, values_at}

-- the result, converted, is that of the reading function
abbrev pub Reads : {X Y : Type 0} → (X → Y) → Result X Breach → Result Y Breach → Type 0
Reads view (Ok x) read = read ≡ Ok (view x)
Reads view (Err breach) read = read ≡ Err breach

-- whether reading finds no breach
abbrev pub is_read : {A : Type 0} → Result A Breach → Bool
is_read (Ok x) = true
is_read (Err breach) = false

-- the list read, or an empty one after a breach
abbrev pub list_read : {A : Type 0} → Result (List A × List ℕ) Breach → List A
list_read (Ok x) = x.0
list_read (Err breach) = []

-- a value, followed by those of the remaining types
abbrev pub with_values : List (DataType × Option ℕ) → Result (Value × List ℕ) Breach → Result (List Value × List ℕ) Breach
with_values types first = first >>= λ value. (values_at types value.1 >>= λ others. Ok (value.0 ∷ others.0, others.1))

-- how many of the types have a value: all except the server's name
abbrev pub value_count : List (DataType × Option ℕ) → ℕ
value_count [] = 0
value_count (t ∷ ts) = if is_name_type t.0 then value_count ts else suc (value_count ts)

-- the owned key equal to a borrowed one
abbrev pub owned_key : KeyRef → Key
owned_key (borrowed.Int n) = keys.Int n
owned_key (borrowed.Ip4 address) = keys.Ip4 address.now
owned_key (borrowed.Ip6 address) = keys.Ip6 address.now
owned_key (borrowed.Str text) = keys.Str text.now
owned_key (borrowed.Bin bytes) = keys.Bin bytes.now

-- the owned name field equal to a borrowed one
abbrev pub owned_name : NameFieldRef → NameField
owned_name fields.NotStored = names.NotStored
owned_name fields.NoName = names.NoName
owned_name (fields.Held slot) = names.Held slot
owned_name (fields.Written slot name) = names.Written slot name.now

-- if a name field writes a name, that is a valid name
abbrev pub is_named : NameField → Bool
is_named (names.Written slot name) = is_name name
is_named field = true
