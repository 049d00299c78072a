-- Words as lines have them.
use Rattle.std.proofs.Common.{◌≡◌, ◌++◌, ◌&&◌, true, not, ℕ, List, [], ◌∷◌, refl, subst, sym}
use Rattle.std.specs.Prelude.{◌==◌}
use Rattle.node_text.specs.Words.{is_text}
use Rattle.node_log.specs.Values.{ends_with_colon, has_bytes, is_word}

colon_at_end : (before : List ℕ) (last : ℕ) → ends_with_colon (before ++ last ∷ []) ≡ (last == 58)
colon_at_end [] last = refl
colon_at_end (b ∷ []) last = refl
colon_at_end (b ∷ c ∷ before) last = colon_at_end (c ∷ before) last

not_empty : (before : List ℕ) (last : ℕ) → has_bytes (before ++ last ∷ []) ≡ true
not_empty [] last = refl
not_empty (b ∷ before) last = refl

pub is_word_by_last : (bytes before : List ℕ) (last : ℕ) → bytes ≡ before ++ last ∷ [] → is_word bytes ≡ (not (last == 58) && is_text bytes)
is_word_by_last bytes before last same =
    subst (λ word. is_word word ≡ (not (last == 58) && is_text word)) (sym same)
    (rw (not_empty before last, colon_at_end before last) refl)
