-- Lists of words, bytes of a word, and answers that are some.
use Rattle.std.proofs.Common.{◌≡◌, ◌∙◌, ◌-◌, ◌<◌, ◌≤◌, ℕ, Bor, IfOk, IfSome, List, [], ◌∷◌, None, Option, Result, Some, ap, arith, drop, length, map, ok_or, refl, slice_index_or, subst, sym, take}
use Rattle.std.proofs.lemmas.List.{take_rest}

-- ---- words

abbrev pub bytes_of : Bor (List ℕ) → List ℕ
bytes_of word = word.now

-- one word
pub one_word : (words : List (Bor (List ℕ))) (d : Bor (List ℕ)) → 1 ≤ length words → length words < 2
    → bytes_of (slice_index_or words 0 d) ∷ [] ≡ map bytes_of words
one_word [] d least most = absurd (omega (arith, least))
one_word (word ∷ []) d least most = refl
one_word (word ∷ next ∷ words) d least most = absurd (omega (arith, most))

-- two words and others
pub two_first : (words : List (Bor (List ℕ))) (d : Bor (List ℕ)) → 2 ≤ length words
    → bytes_of (slice_index_or words 0 d) ∷ bytes_of (slice_index_or words 1 d) ∷ map bytes_of (take (length words - 2) (drop 2 words)) ≡ map bytes_of words
two_first [] d least = absurd (omega (arith, least))
two_first (word ∷ []) d least = absurd (omega (arith, least))
two_first (word ∷ next ∷ words) d least = ap (λ ws. bytes_of word ∷ bytes_of next ∷ map bytes_of ws) (take_rest (word ∷ next ∷ words) 2)

-- ---- bytes

-- three bytes
pub three_bytes : (word : List ℕ) (a b c : ℕ) → 3 ≤ length word → length word < 4
    → slice_index_or word 0 0 ≡ a → slice_index_or word 1 0 ≡ b → slice_index_or word 2 0 ≡ c → a ∷ b ∷ c ∷ [] ≡ word
three_bytes [] a b c least most first second third = absurd (omega (arith, least))
three_bytes (x ∷ []) a b c least most first second third = absurd (omega (arith, least))
three_bytes (x ∷ y ∷ []) a b c least most first second third = absurd (omega (arith, least))
three_bytes (x ∷ y ∷ z ∷ []) a b c least most first second third = cc
three_bytes (x ∷ y ∷ z ∷ other ∷ rest) a b c least most first second third = absurd (omega (arith, most))

-- four bytes
pub four_bytes : (word : List ℕ) (a b c d : ℕ) → 4 ≤ length word → length word < 5
    → slice_index_or word 0 0 ≡ a → slice_index_or word 1 0 ≡ b → slice_index_or word 2 0 ≡ c → slice_index_or word 3 0 ≡ d
    → a ∷ b ∷ c ∷ d ∷ [] ≡ word
four_bytes [] a b c d least most first second third fourth = absurd (omega (arith, least))
four_bytes (x ∷ rest) a b c d least most first second third fourth =
    ap (λ bytes. a ∷ bytes) (three_bytes rest b c d (omega (arith, least)) (omega (arith, most)) second third fourth)
    ∙ ap (λ byte. byte ∷ rest) (sym first)

-- ---- answers

-- an answer that is some, with an error for none
pub some_to_ok : {A E : Type 0} (P : A → Type 0) (o : Option A) (e : E) (r : Result A E) → r ≡ ok_or o e → IfSome o P → IfOk r P
some_to_ok P None e r same is = subst (λ x. IfOk x P) (sym same) tt
some_to_ok P (Some a) e r same is = subst (λ x. IfOk x P) (sym same) is
