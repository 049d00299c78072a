-- The definitions that stand in for tables outside the profile (profile).
use Rattle.std.specs.Prelude.{ℕ, ◌^◌, Bool, ◌&&◌, ◌==◌, nat_le, List, [], ◌∷◌, Option, None, if◌then◌else◌}
use Rattle.std.specs.List.{list_any}
use Rattle.table_types.specs.declared.data_type.DataType.{DataType}
use Rattle.table_types.specs.declared.data_type.DataType.TheVariants.{ServerKey}
use Rattle.table_types.specs.declared.key.KeyKind.TheVariants as kinds
use Rattle.table_types.specs.Tables.{Definition}
use Rattle.table_types.specs.Rosters.{is_same_name}
use Rattle.tolerant_intake.specs.declared.loose_table.LooseTable.{LooseTable}
use Rattle.tolerant_intake.specs.declared.passed_over.Cause.{Cause}
use Rattle.tolerant_intake.specs.declared.passed_over.Cause.TheVariants as causes
use Rattle.tolerant_intake.specs.Loose.{LooseDefinition, has_name_type, known_types}

-- the roster has a table of this name whose keys have the length 1
abbrev pub has_short_keys : List Definition → List ℕ → Bool
has_short_keys roster name = list_any (λ own. is_same_name own.name name && own.key_length == 1) roster

-- another key length than that of the roster's table of the name: 2 if that is 1, else 1
abbrev pub other_length : List Definition → List ℕ → ℕ
other_length roster name = if has_short_keys roster name then 2 else 1

-- the server's name, if it is among the types
abbrev pub name_type_of : List (DataType × Option ℕ) → List (DataType × Option ℕ)
name_type_of types = if has_name_type types then (ServerKey, None) ∷ [] else []

-- The definition that stands in for one outside the profile: the same id and name, keys that are strings shorter than
-- another length than that of the roster's table of the name, rows that live forever, and only the server's name.
abbrev pub stand_in : List Definition → LooseDefinition → Definition
stand_in roster d = record { id = d.id; name = d.name; kind = kinds.String; key_length = other_length roster d.name; expire = 0; types = name_type_of (known_types d) }

-- there is a data type from 20 up
abbrev pub has_further : LooseDefinition → Bool
has_further d = nat_le (2 ^ 20) d.bits

-- what is kept of the table: what has to be known to read its updates, and whether it has further types
abbrev pub loose_table : LooseDefinition → LooseTable
loose_table d = record { kind = d.kind; key_length = d.key_length; types = known_types d; further = has_further d }

-- a data type from 20 up, or another thing outside the profile
abbrev pub cause_of : LooseDefinition → Cause
cause_of d = if has_further d then causes.DataType else causes.Definition
