-- Pairs kept in descending order of number.
use Rattle.std.specs.Prelude.{ℕ, List, [], ◌∷◌, ◌++◌}
use Rattle.std.specs.declared.cmp.Reverse.{Reverse}
use Rattle.table_types.specs.declared.key.Key.{Key}

-- the same pairs in ascending order
abbrev pub rising : List (Reverse ℕ × Key) → List (ℕ × Key)
rising [] = []
rising (e ∷ es) = rising es ++ (e.0.0, e.1) ∷ []
