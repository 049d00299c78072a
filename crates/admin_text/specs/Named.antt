-- What a configuration names by one word (profile).
use Rattle.std.specs.Prelude.{ℕ, List, [], ◌∷◌, Option, Some, None, bytes_eq, codes, if◌then◌else◌}
use Rattle.table_types.specs.DataTypes.{all_types, name_of}
use Rattle.table_types.specs.Keys.{kind_name}
use Rattle.table_types.specs.declared.data_type.DataType.{DataType}
use Rattle.table_types.specs.declared.key.KeyKind.{KeyKind}
use Rattle.table_types.specs.declared.key.KeyKind.TheVariants as keys
use Rattle.node_core.specs.declared.levels.Level.{Level}
use Rattle.node_core.specs.declared.levels.Level.TheVariants as levels

-- the first of these that has the word, by what each is called
abbrev pub first_named : {A : Type 0} → (A → List ℕ) → List ℕ → List A → Option A
first_named called word [] = None
first_named called word (one ∷ others) = if bytes_eq (called one) word then Some one else first_named called word others

-- the kind of keys with the name
abbrev pub all_keys : List KeyKind
all_keys = keys.Integer ∷ keys.Ip4 ∷ keys.Ip6 ∷ keys.String ∷ keys.Binary ∷ []

unfoldable pub keys_named : List ℕ → Option KeyKind
keys_named name = first_named kind_name name all_keys

-- the data type with the name
unfoldable pub type_named : List ℕ → Option DataType
type_named name = first_named name_of name all_types

-- the level of the log with the name
abbrev pub level_name : Level → List ℕ
level_name levels.Error = codes "error"
level_name levels.Warn = codes "warn"
level_name levels.Info = codes "info"
level_name levels.Debug = codes "debug"

abbrev pub all_levels : List Level
all_levels = levels.Error ∷ levels.Warn ∷ levels.Info ∷ levels.Debug ∷ []

unfoldable pub level_named : List ℕ → Option Level
level_named name = first_named level_name name all_levels
