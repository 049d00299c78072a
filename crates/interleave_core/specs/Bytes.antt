-- Names and keys of bytes (profile). In the definitions they are lists of numbers; a program's have bytes alone.
use Rattle.std.specs.Prelude.{ℕ, List, Option, Some, None}
use Rattle.table_types.specs.declared.key.Key.{Key}
use Rattle.table_types.specs.declared.key.Key.TheVariants as keys
use Rattle.table_types.specs.declared.update.Update.{Update}
use Rattle.table_types.specs.Tables.{Definition}
use Rattle.peers_msg.specs.Integers.{IsBytes}

-- the name of the table
abbrev pub IsNamedInBytes : Definition → Type 0
IsNamedInBytes d = IsBytes d.name

abbrev pub IsKeyOfBytes : Key → Type 0
IsKeyOfBytes (keys.Int n) = Unit {0}
IsKeyOfBytes (keys.Ip4 bytes) = IsBytes bytes
IsKeyOfBytes (keys.Ip6 bytes) = IsBytes bytes
IsKeyOfBytes (keys.Str bytes) = IsBytes bytes
IsKeyOfBytes (keys.Bin bytes) = IsBytes bytes

abbrev pub IsNameOfBytes : Option (List ℕ) → Type 0
IsNameOfBytes None = Unit {0}
IsNameOfBytes (Some name) = IsBytes name

-- the update's key and name
abbrev pub IsOfBytes : Update → Type 0
IsOfBytes u = IsKeyOfBytes u.key × IsNameOfBytes u.name
