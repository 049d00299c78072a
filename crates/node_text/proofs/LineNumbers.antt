-- The number of lines of a text, and the number of the line that is read.
use Rattle.std.proofs.Common.{◌≡◌, ◌∙◌, ◌+◌, ◌<◌, ◌≤◌, ◌++◌, ◌==◌, Bool, false, ℕ, List, [], ◌∷◌, ap, arith, length, length-append, subst, sym}
use Rattle.node_text.specs.Scripts.{IsLineOf, line_count}

-- after a line, one line fewer is left
line_less : (line after : List ℕ) → 1 + line_count after ≤ line_count (line ++ 10 ∷ after)
line_less [] [] = omega arith
line_less [] (b ∷ after) = omega arith
line_less (a ∷ []) after = let rest = line_less [] after in omega (arith, rest)
line_less (a ∷ b ∷ line) after = let rest = line_less (b ∷ line) after in omega (arith, rest)

-- bytes that are left have a line
some_line : (text : List ℕ) → 0 < length text → 1 ≤ line_count text
some_line [] some = absurd (omega arith)
some_line (b ∷ []) some = omega arith
some_line (b ∷ c ∷ text) some = let rest = some_line (c ∷ text) (omega arith) in omega (arith, rest)

-- bytes are left unless none are
pub some_length : (rest : List ℕ) (empty : Bool) → empty ≡ (length rest == 0) → empty ≡ false → 0 < length rest
some_length rest empty is empty_is = grind arith

-- after a line
pub next_number : (rest line after : List ℕ) (number count : ℕ) → rest ≡ line ++ 10 ∷ after → number + line_count rest ≤ count + 1
    → number + 1 + line_count after ≤ count + 1
next_number rest line after number count same within =
    let less : 1 + line_count after ≤ line_count rest = subst (λ t. 1 + line_count after ≤ line_count t) (sym same) (line_less line after) in
    omega (arith, less, within)

pub next_length : (rest line after : List ℕ) (number size : ℕ) → rest ≡ line ++ 10 ∷ after → number + length rest ≤ size + 1
    → number + 1 + length after ≤ size + 1
next_length rest line after number size same within =
    let all = ap length same ∙ length-append line (10 ∷ after) in
    omega (arith, all, within)

-- the line itself
pub is_line : (rest line after : List ℕ) (number count : ℕ) → rest ≡ line ++ 10 ∷ after → 1 ≤ number → number + line_count rest ≤ count + 1
    → IsLineOf count number
is_line rest line after number count same first within =
    let next = next_number rest line after number count same within in
    (first, omega (arith, next))

-- the last line, which lacks its LF
pub is_last_line : (rest : List ℕ) (empty : Bool) (number count : ℕ) → empty ≡ (length rest == 0) → empty ≡ false → 1 ≤ number
    → number + line_count rest ≤ count + 1 → IsLineOf count number
is_last_line rest empty number count is empty_is first within =
    let some = some_line rest (some_length rest empty is empty_is) in
    (first, omega (arith, some, within))
