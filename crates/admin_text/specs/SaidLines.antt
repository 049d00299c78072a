-- The lines that say something to operators (profile).
use Rattle.std.specs.Prelude.{◌≡◌, ◌++◌, ◌&&◌, ℕ, Bool, true, List, [], ◌∷◌, nat_le}
use Rattle.std.specs.List.{list_all}

abbrev pub is_printable : ℕ → Bool
is_printable byte = nat_le 32 byte && nat_le byte 126

-- printable bytes come behind what was there
abbrev pub AddsPrintable : List ℕ → List ℕ → Type 0
AddsPrintable before after = (sentence : List ℕ) × (after ≡ before ++ sentence) × (list_all is_printable sentence ≡ true)

-- a line with this head comes behind what was there
abbrev pub Adds : List ℕ → List ℕ → List ℕ → Type 0
Adds head before after =
    (sentence : List ℕ) × (after ≡ before ++ (head ++ (sentence ++ 10 ∷ []))) × (list_all is_printable sentence ≡ true)

-- a line for each of these heads: behind it stand bytes 32 to 126, and LF
abbrev pub AreLines : List (List ℕ) → List ℕ → Type 0
AreLines [] text = text ≡ []
AreLines (head ∷ heads) text =
    (sentence more : List ℕ)
    × (text ≡ head ++ (sentence ++ 10 ∷ more))
    × (list_all is_printable sentence ≡ true)
    × AreLines heads more
