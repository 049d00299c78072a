-- What is said once, until it changes.
use Rattle.std.specs.Prelude.{ℕ, Bool, false, nat_lt, List, [], ◌∷◌, ◌++◌, length, Option, None, Some, if◌then◌else◌}
use Rattle.std.specs.List.{list_any}
use Rattle.table_types.specs.Rosters.{is_same_name}

-- these words were said last
abbrev pub is_said : List ℕ → Option (List ℕ) → Bool
is_said words None = false
is_said words (Some said) = is_same_name said words

-- the name is among those that were said
abbrev pub has_said : List (List ℕ) → List ℕ → Bool
has_said names name = list_any (λ said. is_same_name said name) names

-- the names after this one is said, too: at most 1,024, of which the former ones are forgotten when a further one comes
abbrev pub said_after : List (List ℕ) → List ℕ → List (List ℕ)
said_after names name =
    if has_said names name then names
    else (if nat_lt (length names) 1024 then names ++ name ∷ [] else name ∷ [])
