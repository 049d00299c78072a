-- Versions of the protocol, as they are read and printed (profile).
use Rattle.std.specs.Prelude.{◌≡◌, ℕ, List, [], ◌∷◌, codes, length, map, replicate}
use Rattle.std.specs.List.{AllByRecursion}
use Rattle.table_types.specs.declared.version.Version.{Version}
use Rattle.table_types.specs.declared.version.Version.TheVariants as versions

-- the word for a version
abbrev pub version_name : Version → List ℕ
version_name versions.V20 = codes "2.0"
version_name versions.V21 = codes "2.1"

-- the word for some version
abbrev pub IsVersionName : List ℕ → Type 0
IsVersionName word = (version : Version) × (version_name version ≡ word)

-- there are no words, or `count` words for versions
abbrev pub AreVersionNames : ℕ → List (List ℕ) → Type 0
AreVersionNames count [] = Unit {0}
AreVersionNames count (word ∷ words) = (length (word ∷ words) ≡ count) × AllByRecursion IsVersionName (word ∷ words)

-- the versions of `count` sessions, one from each word, or 2.1 for each if there are no words
abbrev pub AreVersions : ℕ → List (List ℕ) → List Version → Type 0
AreVersions count [] vs = vs ≡ replicate count versions.V21
AreVersions count (word ∷ words) vs = (length vs ≡ count) × (map version_name vs ≡ word ∷ words)
