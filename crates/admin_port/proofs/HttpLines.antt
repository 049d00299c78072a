-- The words of a line that may begin an HTTP request.
use Rattle.std.proofs.Common.{◌≡◌, ◌∙◌, ◌++◌, ℕ, Bool, true, false, List, [], ◌∷◌, ap, refl}
use Rattle.std.specs.Prelude.{◌==◌, Contains, None, if◌then◌else◌}
use Rattle.admin_port.specs.HttpRequests.{http_request, http_request_of}
use Rattle.admin_port.specs.RequestWords.{line_words, with_byte}
use Rattle.admin_port.proofs.LineWords.{cut_off, last_word}

-- a line without a space
pub one_word : (line : List ℕ) → (Contains line 32 → ⊥) → http_request line ≡ None
one_word line none = ap http_request_of (last_word line none)

-- the words of a line that is cut at its first space
cut_once : (line word rest : List ℕ) → line ≡ word ++ 32 ∷ rest → (Contains word 32 → ⊥) → line_words line ≡ word ∷ line_words rest
cut_once line word rest cut none = ap line_words cut ∙ cut_off word rest none

-- a line with one space
pub two_words : (line method rest : List ℕ) → line ≡ method ++ 32 ∷ rest → (Contains method 32 → ⊥) → (Contains rest 32 → ⊥)
    → http_request line ≡ None
two_words line method rest cut none last =
    ap http_request_of (cut_once line method rest cut none ∙ ap (λ words. method ∷ words) (last_word rest last))

-- the words of a line that is cut at its first two spaces
cut_twice : (line method rest target version : List ℕ) → line ≡ method ++ 32 ∷ rest → (Contains method 32 → ⊥)
    → rest ≡ target ++ 32 ∷ version → (Contains target 32 → ⊥) → line_words line ≡ method ∷ target ∷ line_words version
cut_twice line method rest target version first none second none_too =
    cut_once line method rest first none ∙ ap (λ words. method ∷ words) (cut_once rest target version second none_too)

-- a line with two spaces
pub three_words : (line method rest target version : List ℕ) → line ≡ method ++ 32 ∷ rest → (Contains method 32 → ⊥)
    → rest ≡ target ++ 32 ∷ version → (Contains target 32 → ⊥) → (Contains version 32 → ⊥)
    → http_request line ≡ http_request_of (method ∷ target ∷ version ∷ [])
three_words line method rest target version first none second none_too last =
    ap http_request_of
    (cut_twice line method rest target version first none second none_too ∙ ap (λ words. method ∷ target ∷ words) (last_word version last))

-- the line has words
abbrev has_words : List (List ℕ) → Bool
has_words [] = false
has_words (word ∷ words) = true

more_of : (ends : Bool) (byte : ℕ) (words : List (List ℕ)) → has_words (if ends then [] ∷ words else with_byte byte words) ≡ true
more_of true byte words = refl
more_of false byte [] = refl
more_of false byte (word ∷ words) = refl

some_words : (line : List ℕ) → has_words (line_words line) ≡ true
some_words [] = refl
some_words (byte ∷ rest) = more_of (byte == 32) byte (line_words rest)

never : false ≡ true → ⊥
never same = absurd (cc)

-- four words and more
four : (method target word : List ℕ) (words : List (List ℕ)) → has_words words ≡ true → http_request_of (method ∷ target ∷ word ∷ words) ≡ None
four method target word [] some = absurd (never some)
four method target word (other ∷ words) some = refl

-- a line with three spaces and more
pub more_words : (line method rest target version word after : List ℕ) → line ≡ method ++ 32 ∷ rest → (Contains method 32 → ⊥)
    → rest ≡ target ++ 32 ∷ version → (Contains target 32 → ⊥) → version ≡ word ++ 32 ∷ after → (Contains word 32 → ⊥)
    → http_request line ≡ None
more_words line method rest target version word after first none second none_too third none_there =
    ap http_request_of
    (cut_twice line method rest target version first none second none_too
    ∙ ap (λ words. method ∷ target ∷ words) (cut_once version word after third none_there))
    ∙ four method target word (line_words after) (some_words after)
