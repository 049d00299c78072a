-- The lines of a text, and their words.
use Rattle.std.proofs.Common.{◌≡◌, ◌∙◌, ◌+◌, ◌++◌, ◌≤◌, ◌<◌, ◌==◌, Bool, true, false, ℕ, List, [], ◌∷◌, ap, append_assoc, arith, drop, get_or, inl, inr, length, length-append, refl, suc, sym, take, true≢false, zero}
use Rattle.std.specs.Prelude.{◌⊎◌, Contains, if◌then◌else◌}
use Rattle.std.proofs.lemmas.Bool.{eq-eqb, ne_eqb}
use Rattle.std.proofs.lemmas.List.{append-nil}
use Rattle.std.proofs.lemmas.List.Elements.{Contains-append_right}
use Rattle.admin_text.specs.Statements.{Said, ended, is_blank, lines_of, numbered, onto_first, said_at, without_return, words_from, words_of}

other_byte : (b byte : ℕ) (bytes : List ℕ) → (Contains (b ∷ bytes) byte → ⊥) → b ≡ byte → ⊥
other_byte b byte bytes none same = none (0, omega arith, same)

none_behind : (b byte : ℕ) (bytes : List ℕ) → (Contains (b ∷ bytes) byte → ⊥) → Contains bytes byte → ⊥
none_behind b byte bytes none has = none (Contains-append_right (b ∷ []) bytes byte has)

-- ---- the lines of a text

first_line : (line rest : List ℕ) → (Contains line 10 → ⊥) → lines_of (line ++ 10 ∷ rest) ≡ line ∷ lines_of rest
first_line [] rest none = refl
first_line (b ∷ line) rest none =
    rw (ne_eqb b 10 (other_byte b 10 line none)) (ap (onto_first b) (first_line line rest (none_behind b 10 line none)))

one_line : (line : List ℕ) → (Contains line 10 → ⊥) → lines_of line ≡ line ∷ []
one_line [] none = refl
one_line (b ∷ line) none = rw (ne_eqb b 10 (other_byte b 10 line none)) (ap (onto_first b) (one_line line (none_behind b 10 line none)))

ended_onto : (line : List ℕ) (b : ℕ) (lines : List (List ℕ)) → ended (line ∷ onto_first b lines) ≡ without_return line ∷ ended (onto_first b lines)
ended_onto line b [] = refl
ended_onto line b (l ∷ lines) = refl

ended_if : (line : List ℕ) (is : Bool) (b : ℕ) (lines : List (List ℕ))
    → ended (line ∷ (if is then [] ∷ lines else onto_first b lines)) ≡ without_return line ∷ ended (if is then [] ∷ lines else onto_first b lines)
ended_if line true b lines = refl
ended_if line false b lines = ended_onto line b lines

ended_more : (line rest : List ℕ) → ended (line ∷ lines_of rest) ≡ without_return line ∷ ended (lines_of rest)
ended_more line [] = refl
ended_more line (b ∷ rest) = ended_if line (b == 10) b (lines_of rest)

pub next_ended : (text line rest : List ℕ) → text ≡ line ++ 10 ∷ rest → (Contains line 10 → ⊥)
    → ended (lines_of text) ≡ without_return line ∷ ended (lines_of rest)
next_ended text line rest same none = ap (λ t. ended (lines_of t)) same ∙ ap ended (first_line line rest none) ∙ ended_more line rest

pub last_ended : (text : List ℕ) → (Contains text 10 → ⊥) → ended (lines_of text) ≡ text ∷ []
last_ended text none = ap ended (one_line text none)

-- ---- the CR at the end of a line

pushed_if : (is : Bool) (b : ℕ) (xs ys : List ℕ) → b ∷ (if is then xs else ys) ≡ (if is then b ∷ xs else b ∷ ys)
pushed_if true b xs ys = refl
pushed_if false b xs ys = refl

dropped : (before : List ℕ) (last : ℕ) → without_return (before ++ last ∷ []) ≡ (if last == 13 then before else before ++ last ∷ [])
dropped [] last = refl
dropped (b ∷ []) last = pushed_if (last == 13) b [] (last ∷ [])
dropped (b ∷ c ∷ before) last =
    ap (λ line. b ∷ line) (dropped (c ∷ before) last) ∙ pushed_if (last == 13) b (c ∷ before) (c ∷ before ++ last ∷ [])

pub return_dropped : (line before : List ℕ) (last : ℕ) → line ≡ before ++ last ∷ []
    → without_return line ≡ (if last == 13 then before else before ++ last ∷ [])
return_dropped line before last same = ap without_return same ∙ dropped before last

pub dropped_return : (line before : List ℕ) (last : ℕ) → line ≡ before ++ last ∷ [] → last ≡ 13 → before ≡ without_return line
dropped_return line before last same is = sym (return_dropped line before last same ∙ rw (eq-eqb last 13 is) refl)

pub kept_end : (line before : List ℕ) (last : ℕ) → line ≡ before ++ last ∷ [] → (last ≡ 13 → ⊥) → line ≡ without_return line
kept_end line before last same other = same ∙ sym (return_dropped line before last same ∙ rw (ne_eqb last 13 other) refl)

-- ---- the words of a line

-- a word ends where the line does, or before a blank
pub word_ends : (text : List ℕ) (n : ℕ) → n ≤ length text → ((k : ℕ) → k < n → is_blank (get_or text k 0) ≡ false)
    → ((n ≡ length text) ⊎ (is_blank (get_or text n 0) ≡ true)) → words_from true text ≡ take n text ∷ words_of (drop n text)
word_ends [] zero within none ends = refl
word_ends [] (suc n) within none ends = absurd (omega arith)
word_ends (b ∷ text) zero within none (inl all) = absurd (omega arith)
word_ends (b ∷ text) zero within none (inr blank) = rw blank refl
word_ends (b ∷ text) (suc n) within none (inl all) =
    rw (none 0 (omega arith)) (ap (onto_first b) (word_ends text n (omega arith) (λ k less. none (suc k) (omega arith)) (inl (omega arith))))
word_ends (b ∷ text) (suc n) within none (inr blank) =
    rw (none 0 (omega arith)) (ap (onto_first b) (word_ends text n (omega arith) (λ k less. none (suc k) (omega arith)) (inr blank)))

pub later_words : (line rest after : List ℕ) (words : List (List ℕ)) (word : List ℕ) → words_of rest ≡ word ∷ words_of after
    → words ++ words_of rest ≡ words_of line → (words ++ word ∷ []) ++ words_of after ≡ words_of line
later_words line rest after words word same so_far = append_assoc words (word ∷ []) (words_of after) ∙ ap (λ more. words ++ more) (sym same) ∙ so_far

pub all_words : (line rest : List ℕ) (words : List (List ℕ)) → words_of rest ≡ [] → words ++ words_of rest ≡ words_of line → words ≡ words_of line
all_words line rest words none so_far = sym (append-nil words) ∙ ap (λ more. words ++ more) (sym none) ∙ so_far

-- ---- what the lines of a text say

pub later_lines : (rest line after : List ℕ) (number : ℕ) (before now all : List Said) → rest ≡ line ++ 10 ∷ after → (Contains line 10 → ⊥)
    → now ≡ before ++ said_at number (words_of (without_return line))
    → before ++ numbered number (ended (lines_of rest)) ≡ all
    → now ++ numbered (number + 1) (ended (lines_of after)) ≡ all
later_lines rest line after number before now all cut none pushed so_far =
    ap (λ said. said ++ numbered (number + 1) (ended (lines_of after))) pushed
    ∙ append_assoc before (said_at number (words_of (without_return line))) (numbered (number + 1) (ended (lines_of after)))
    ∙ ap (λ lines. before ++ numbered number lines) (sym (next_ended rest line after cut none))
    ∙ so_far

pub all_lines : (rest : List ℕ) (number : ℕ) (before now all : List Said) → (Contains rest 10 → ⊥)
    → now ≡ before ++ said_at number (words_of rest)
    → before ++ numbered number (ended (lines_of rest)) ≡ all → now ≡ all
all_lines rest number before now all none pushed so_far =
    pushed
    ∙ ap (λ said. before ++ said) (sym (append-nil (said_at number (words_of rest))))
    ∙ ap (λ lines. before ++ numbered number lines) (sym (last_ended rest none))
    ∙ so_far

pub some_said : (number : ℕ) (words all : List (List ℕ)) (count : ℕ) (empty : Bool) → words ≡ all → count ≡ length words → empty ≡ (count == 0)
    → empty ≡ false → (number, words) ∷ [] ≡ said_at number all
some_said number [] all count empty same counted is none = absurd (true≢false (sym (is ∙ ap (λ n. n == 0) counted) ∙ none))
some_said number (word ∷ words) all count empty same counted is none = ap (said_at number) same

pub later_length : (rest line after : List ℕ) (number size : ℕ) → rest ≡ line ++ 10 ∷ after → number + length rest ≤ size + 1
    → number + 1 + length after ≤ size + 1
later_length rest line after number size same within =
    let all = ap length same ∙ length-append line (10 ∷ after) in
    omega (arith, all, within)
