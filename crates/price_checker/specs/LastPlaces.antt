-- The place at which each name was last requested, or held, in order of name.
use Rattle.std.specs.Prelude.{◌≡◌, ℕ, ◌<◌, ◌≤◌, true, List, [], ◌∷◌, length, slice_index_or, Option, Some, None, if◌then◌else◌}
use Rattle.std.specs.List.{AllByRecursion}
use Rattle.std.specs.Cmp.Lexicographic.{slice_cmp}
use Rattle.std.specs.Ordering.{nat_cmp}
use Rattle.std.specs.declared.cmp.Ordering.{Ordering}
use Rattle.std.specs.declared.cmp.Ordering.TheVariants.{Less, Greater}
use Rattle.table_types.specs.Rosters.{is_same_name}
use Rattle.price_checker.specs.declared.last_places.LastPlace.{LastPlace}

-- the last place of a name, if it is among the names
abbrev pub place_of : List LastPlace → List ℕ → Option ℕ
place_of [] name = None
place_of (last ∷ others) name = if is_same_name last.name.now name then Some last.place else place_of others name

-- names are ordered as their bytes are
abbrev pub name_cmp : List ℕ → List ℕ → Ordering
name_cmp = slice_cmp nat_cmp

-- each name is less than those after it
abbrev pub NamesRise : List LastPlace → Type 0
NamesRise [] = Unit {0}
NamesRise (last ∷ others) = AllByRecursion (λ other. name_cmp last.name.now other.name.now ≡ Less) others × NamesRise others

-- the name is at this index
abbrev pub HasNameAt : List LastPlace → List ℕ → ℕ → Type 0
HasNameAt places name index =
    (index < length places) × ((d : LastPlace) → is_same_name (slice_index_or places index d).name.now name ≡ true)

-- the name would go at this index: lesser names before it, and greater names from it on
abbrev pub IsGapFor : List LastPlace → List ℕ → ℕ → Type 0
IsGapFor places name index =
    (index ≤ length places)
    × ((k : ℕ) (d : LastPlace) → k < index → name_cmp (slice_index_or places k d).name.now name ≡ Less)
    × ((k : ℕ) (d : LastPlace) → index ≤ k → k < length places → name_cmp (slice_index_or places k d).name.now name ≡ Greater)
