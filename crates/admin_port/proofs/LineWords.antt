-- The words of a line, cut off one by one.
use Rattle.std.proofs.Common.{◌≡◌, ◌∙◌, ◌++◌, ◌&&◌, Bool, true, false, ℕ, List, [], ◌∷◌, ap, arith, length, refl, subst, sym}
use Rattle.std.specs.Prelude.{Contains, if◌then◌else◌, ◌==◌}
use Rattle.std.specs.List.{list_all}
use Rattle.std.proofs.lemmas.Bool.{cond-false, ne_eqb}
use Rattle.std.proofs.lemmas.List.{append_assoc}
use Rattle.std.proofs.lemmas.List.Elements.{Contains-append_right}
use Rattle.admin_port.specs.RequestWords.{is_word, line_words, with_byte}

pub here : (b : ℕ) (xs : List ℕ) → Contains (b ∷ xs) b
here b xs = (0, omega arith, refl)

pub later : (x b : ℕ) (xs : List ℕ) → Contains xs b → Contains (x ∷ xs) b
later x b xs has = Contains-append_right (x ∷ []) xs b has

byte_before : (b : ℕ) (xs : List ℕ) (words : List (List ℕ)) → (Contains (b ∷ xs) 32 → ⊥)
    → (if b == 32 then [] ∷ words else with_byte b words) ≡ with_byte b words
byte_before b xs words none =
    cond-false (b == 32) ([] ∷ words) (with_byte b words)
    (ne_eqb b 32 (λ same. none (subst (λ x. Contains (x ∷ xs) 32) (sym same) (here 32 xs))))

pub cut_off : (before after : List ℕ) → (Contains before 32 → ⊥) → line_words (before ++ 32 ∷ after) ≡ before ∷ line_words after
cut_off [] after none = refl
cut_off (b ∷ before) after none =
    byte_before b before (line_words (before ++ 32 ∷ after)) none
    ∙ ap (with_byte b) (cut_off before after (λ has. none (later b 32 before has)))

pub last_word : (line : List ℕ) → (Contains line 32 → ⊥) → line_words line ≡ line ∷ []
last_word [] none = refl
last_word (b ∷ line) none =
    byte_before b line (line_words line) none ∙ ap (with_byte b) (last_word line (λ has. none (later b 32 line has)))

-- ---- word by word

pub some_word : (word : List ℕ) (empty : Bool) → empty ≡ (length word == 0) → empty ≡ false → is_word word ≡ true
some_word [] empty is none = absurd (cc)
some_word (b ∷ word) empty is none = refl

pub words_more : (line rest word after : List ℕ) (words : List (List ℕ)) → rest ≡ word ++ 32 ∷ after → (Contains word 32 → ⊥)
    → words ++ line_words rest ≡ line_words line → (words ++ word ∷ []) ++ line_words after ≡ line_words line
words_more line rest word after words cut none so_far =
    append_assoc words (word ∷ []) (line_words after)
    ∙ ap (λ more. words ++ more) (sym (ap line_words cut ∙ cut_off word after none)) ∙ so_far

pub each_more : (line rest word after : List ℕ) → rest ≡ word ++ 32 ∷ after → (Contains word 32 → ⊥) → is_word word ≡ true
    → list_all is_word (line_words rest) ≡ list_all is_word (line_words line)
    → list_all is_word (line_words after) ≡ list_all is_word (line_words line)
each_more line rest word after cut none some so_far =
    sym (ap (λ bytes. list_all is_word (line_words bytes)) cut ∙ ap (list_all is_word) (cut_off word after none)
    ∙ ap (λ first. first && list_all is_word (line_words after)) some) ∙ so_far

pub words_all : (line rest : List ℕ) (words : List (List ℕ)) → (Contains rest 32 → ⊥) → words ++ line_words rest ≡ line_words line
    → words ++ rest ∷ [] ≡ line_words line
words_all line rest words none so_far = ap (λ more. words ++ more) (sym (last_word rest none)) ∙ so_far

pub each_all : (line rest : List ℕ) → (Contains rest 32 → ⊥) → is_word rest ≡ true
    → list_all is_word (line_words rest) ≡ list_all is_word (line_words line) → list_all is_word (line_words line) ≡ true
each_all line rest none some so_far =
    sym so_far ∙ ap (list_all is_word) (last_word rest none) ∙ ap (λ first. first && true) some
