-- How updates are printed, and their lives read (profile).
use Rattle.std.specs.Prelude.{◌-◌, ◌++◌, ◌^◌, ℕ, List, [], ◌∷◌, Option, Some, None, codes, flat_map, if◌then◌else◌, option_map}
use Rattle.std.specs.Fmt.{decimal}
use Rattle.table_types.specs.declared.update.Update.{Update}
use Rattle.table_types.specs.Tables.{Definition}
use Rattle.table_types.specs.Updates.{stores_name}
use Rattle.node_text.specs.Keys.{key_text}
use Rattle.node_text.specs.Names.{is_dash, stored_text}
use Rattle.node_text.specs.Numbers.{number_of, number_or_dash}
use Rattle.node_text.specs.Values.{value_text}

-- ---- read

-- the life that a word writes: a number below 2^32, or `-` for none
abbrev pub life_of : List ℕ → Option (Option ℕ)
life_of word = if is_dash word then Some None else option_map Some (number_of word (2 ^ 32 - 1))

-- ---- printed

-- an update of this table: its number, its life, its key, its values, and its name if the table stores one
abbrev pub update_text : Definition → Update → List ℕ
update_text table u =
    decimal u.number ++ (32 ∷ (number_or_dash u.life ++ (32 ∷ (key_text u.key
    ++ (flat_map value_text u.values ++ stored_text (stores_name table) u.name)))))

-- the line of an update of this table
abbrev pub update_line : Definition → Update → List ℕ
update_line table u = codes "update " ++ (decimal u.table ++ (32 ∷ (update_text table u ++ 10 ∷ [])))
