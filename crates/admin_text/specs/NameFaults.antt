-- The names of a configuration, and what isn't one (profile).
use Rattle.std.specs.Prelude.{◌&&◌, ℕ, Bool, List, length, Result, Ok, Err, if◌then◌else◌, nat_lt}
use Rattle.table_types.specs.Names.{is_name}
use Rattle.node_text.specs.Names.{is_dash, may_name}
use Rattle.node_text.specs.Words.{is_text}
use Rattle.admin_text.specs.declared.faults.Fault.{Fault}
use Rattle.admin_text.specs.declared.faults.Fault.TheVariants as faults
use Rattle.admin_text.specs.declared.faults.NameFault.{NameFault}
use Rattle.admin_text.specs.declared.faults.NameFault.TheVariants as names

-- why a word isn't a name: it is `-`, it has more than 255 bytes, or it has one outside 33 to 126
abbrev pub name_fault : List ℕ → NameFault
name_fault word =
    if is_dash word then names.Dash else (if is_text word && nat_lt 255 (length word) then names.Long (length word) else names.Bytes)

-- 1 to 255 bytes of 33 to 126, and not `-`
abbrev pub is_label : List ℕ → Bool
is_label word = is_name word && may_name word

-- the name at this place
abbrev pub name_at : ℕ → List ℕ → Result (List ℕ) Fault
name_at place word = if is_label word then Ok word else Err (faults.Name place (name_fault word))
