-- Which messages fit the definitions received (HAProxy, doc/peers-v2.0.txt, "Messages"; the ranges and the limit on the
-- data's length are the profile's choices).
use Rattle.std.specs.Prelude.{◌^◌, Bool, true, false, not, ◌&&◌, nat_lt, nat_le, length, is_some, Option, Some, None}
use Rattle.table_types.specs.Names.{is_name}
use Rattle.table_types.specs.Tables.{Definition, is_definition}
use Rattle.table_types.specs.Updates.{is_word, is_optional_word, row_fits, stores_name}
use Rattle.table_types.specs.Rosters.{table_at}
use Rattle.table_types.specs.SlotIds.{is_slot}
use Rattle.peers_msg.specs.declared.name_field.NameField.{NameField}
use Rattle.peers_msg.specs.declared.name_field.NameField.TheVariants as names
use Rattle.peers_msg.specs.declared.message.Message.{Message}
use Rattle.peers_msg.specs.declared.message.Message.TheVariants as messages
use Rattle.peers_msg.specs.Messages.{UpdateFields, is_other, most_data}
use Rattle.peers_msg.specs.Received.{Received, selected_table}
use Rattle.peers_msg.specs.Spelling.{data_of}

-- an update has a name field if and only if its table stores the server's name
abbrev pub name_fits : Definition → NameField → Bool
name_fits d names.NotStored = not (stores_name d)
name_fits d names.NoName = stores_name d
name_fits d (names.Held slot) = stores_name d && is_slot slot
name_fits d (names.Written slot name) = stores_name d && is_slot slot && is_name name

-- an update's key, values and name field have the table's shape and ranges; the life isn't checked here
abbrev pub update_fits : Definition → UpdateFields → Bool
update_fits d u = is_optional_word u.number && is_optional_word u.life && row_fits d u.key u.values && name_fits d u.name

abbrev pub fits_table : Option Definition → UpdateFields → Bool
fits_table None u = false
fits_table (Some d) u = update_fits d u

-- an update fits the selected table, a switch names the id of a table, a definition is valid, and the pair of any other
-- message has no meaning
abbrev pub has_shape : Received → Message → Bool
has_shape h (messages.Control c) = true
has_shape h (messages.Error e) = true
has_shape h (messages.Define d) = is_definition d
has_shape h (messages.Switch id) = nat_lt id (2 ^ 64) && is_some (table_at h.tables id)
has_shape h (messages.Ack table number) = nat_lt table (2 ^ 64) && is_word number
has_shape h (messages.Update u) = fits_table (selected_table h) u
has_shape h (messages.Other o) = is_other o

-- a message fits what was received: it has the shape and ranges, and its data are within the limit
unfoldable pub fits : Received → Message → Bool
fits h m = has_shape h m && nat_le (length (data_of m)) most_data

-- messages that fit whatever was received
abbrev pub IsPlain : Message → Type 0
IsPlain (messages.Define d) = Unit {0}
IsPlain (messages.Switch id) = ⊥
IsPlain (messages.Update u) = ⊥
IsPlain m = Unit {0}
