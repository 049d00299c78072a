-- The words of a request's line (profile).
use Rattle.std.specs.Prelude.{◌==◌, ℕ, Bool, true, false, List, [], ◌∷◌, if◌then◌else◌}

-- the words with this byte before the first of them
abbrev pub with_byte : ℕ → List (List ℕ) → List (List ℕ)
with_byte byte [] = (byte ∷ []) ∷ []
with_byte byte (word ∷ words) = (byte ∷ word) ∷ words

-- what stands between the spaces (32) of a line
abbrev pub line_words : List ℕ → List (List ℕ)
line_words [] = [] ∷ []
line_words (byte ∷ rest) = if byte == 32 then [] ∷ line_words rest else with_byte byte (line_words rest)

-- a word isn't empty
abbrev pub is_word : List ℕ → Bool
is_word [] = false
is_word (_ ∷ _) = true
