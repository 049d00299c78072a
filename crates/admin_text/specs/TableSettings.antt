-- What a configuration says of its tables (profile).
use Rattle.std.specs.Prelude.{◌≡◌, ◌≤◌, ◌<◌, ◌^◌, ◌==◌, ℕ, true, false, List, [], ◌∷◌, IfSome, Some, if◌then◌else◌, length, map}
use Rattle.std.specs.List.{AllByRecursion}
use Rattle.table_types.specs.Rosters.{repeats_id, repeats_name}
use Rattle.table_types.specs.Tables.{Definition, is_definition}
use Rattle.node_text.specs.Names.{may_name}
use Rattle.admin_text.specs.declared.table_settings.TableSetting.{TableSetting}

-- the id is below 2^31, the name is a text that isn't `-`, and the size is in its range
pub record IsTableSetting (t : TableSetting) : Type 0 where
  pub definition : is_definition t.definition ≡ true
  pub id : t.definition.id < 2 ^ 31
  pub name : may_name t.definition.name ≡ true
  pub size : IfSome t.size (λ size. (1 ≤ size) × (size ≤ 1000000))

-- the tables without their settings
abbrev pub definitions : List TableSetting → List Definition
definitions ts = map (λ t. t.definition) ts

-- the tables with this id get a size
abbrev pub with_rows : ℕ → ℕ → List TableSetting → List TableSetting
with_rows id rows [] = []
with_rows id rows (t ∷ ts) = (if t.definition.id == id then record t { size = Some rows } else t) ∷ with_rows id rows ts

-- the tables with this id keep their live rows
abbrev pub kept_in : ℕ → List TableSetting → List TableSetting
kept_in id [] = []
kept_in id (t ∷ ts) = (if t.definition.id == id then record t { nopurge = Some tt } else t) ∷ kept_in id ts

-- there are at most 64 tables, no two of which have one id or one name
pub record AreTables (ts : List TableSetting) : Type 0 where
  pub most : length ts ≤ 64
  pub ids : repeats_id (definitions ts) ≡ false
  pub names : repeats_name (definitions ts) ≡ false
  pub each : AllByRecursion IsTableSetting ts
