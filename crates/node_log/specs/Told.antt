-- What was told lately.
use Rattle.std.specs.Prelude.{◌++◌, ℕ, Bool, List, [], ◌∷◌, drop, if◌then◌else◌, length, nat_le}
use Rattle.std.specs.List.{list_any}
use Rattle.table_types.specs.Rosters.{is_same_name}

abbrev pub has_told : List ℕ → List (List ℕ) → Bool
has_told text texts = list_any (λ told. is_same_name told text) texts

-- the texts once this one is told, without the first if there were 16
abbrev pub told_after : List ℕ → List (List ℕ) → List (List ℕ)
told_after text texts = if has_told text texts then texts else (if nat_le 16 (length texts) then drop 1 texts else texts) ++ text ∷ []
