-- Rosters: the tables that a node keeps (profile).
use Rattle.std.specs.Prelude.{ℕ, Bool, false, not, ◌&&◌, ◌||◌, ◌==◌, nat_eq, nat_le, List, [], ◌∷◌, length, Option, Some, None, if◌then◌else◌}
use Rattle.std.specs.List.{list_any}
use Rattle.std.specs.Cmp.Lexicographic.{pointwise}
use Rattle.table_types.specs.declared.roster.RosterError.{RosterError}
use Rattle.table_types.specs.declared.roster.RosterError.TheVariants as errors
use Rattle.table_types.specs.Tables.{Definition}

abbrev pub is_same_name : List ℕ → List ℕ → Bool
is_same_name a b = pointwise nat_eq a b

abbrev pub has_id : ℕ → List Definition → Bool
has_id id ds = list_any (λ d. d.id == id) ds

abbrev pub has_name : List ℕ → List Definition → Bool
has_name name ds = list_any (λ d. is_same_name d.name name) ds

-- two tables have the same id
abbrev pub repeats_id : List Definition → Bool
repeats_id [] = false
repeats_id (d ∷ ds) = has_id d.id ds || repeats_id ds

-- two tables have the same name
abbrev pub repeats_name : List Definition → Bool
repeats_name [] = false
repeats_name (d ∷ ds) = has_name d.name ds || repeats_name ds

-- the first thing wrong with a roster: it has no tables or more than 64, or two with the same id or name
abbrev pub roster_fault : List Definition → Option RosterError
roster_fault ds =
    if not (nat_le 1 (length ds) && nat_le (length ds) 64) then Some errors.Count
    else (if repeats_id ds then Some errors.RepeatedId
    else (if repeats_name ds then Some errors.RepeatedName
    else None))

-- the table with an id
abbrev pub table_at : List Definition → ℕ → Option Definition
table_at [] id = None
table_at (d ∷ ds) id = if d.id == id then Some d else table_at ds id
