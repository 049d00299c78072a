-- A word and the mark that it may end with.
use Rattle.std.proofs.Common.{◌≡◌, ◌∙◌, ◌++◌, Bool, true, false, ℕ, List, [], ◌∷◌, ap, refl, sym}
use Rattle.std.specs.Prelude.{if◌then◌else◌}
use Rattle.admin_text.specs.MeantKinds.{is_mark, without_mark}

onto_either : (is : Bool) (b : ℕ) (xs ys : List ℕ) → b ∷ (if is then xs else ys) ≡ (if is then b ∷ xs else b ∷ ys)
onto_either true b xs ys = refl
onto_either false b xs ys = refl

end_dropped : (before : List ℕ) (last : ℕ) → without_mark (before ++ last ∷ []) ≡ (if is_mark last then before else before ++ last ∷ [])
end_dropped [] last = refl
end_dropped (b ∷ []) last = onto_either (is_mark last) b [] (last ∷ [])
end_dropped (b ∷ c ∷ before) last =
    ap (λ word. b ∷ word) (end_dropped (c ∷ before) last) ∙ onto_either (is_mark last) b (c ∷ before) (c ∷ before ++ last ∷ [])

mark_dropped : (word before : List ℕ) (last : ℕ) → word ≡ before ++ last ∷ []
    → without_mark word ≡ (if is_mark last then before else before ++ last ∷ [])
mark_dropped word before last same = ap without_mark same ∙ end_dropped before last

pub dropped_mark : (word before : List ℕ) (last : ℕ) → word ≡ before ++ last ∷ [] → is_mark last ≡ true → before ≡ without_mark word
dropped_mark word before last same is = sym (mark_dropped word before last same ∙ ap (λ (b : Bool). if b then before else before ++ last ∷ []) is)

pub kept_word : (word before : List ℕ) (last : ℕ) → word ≡ before ++ last ∷ [] → is_mark last ≡ false → word ≡ without_mark word
kept_word word before last same other =
    same ∙ sym (mark_dropped word before last same ∙ ap (λ (b : Bool). if b then before else before ++ last ∷ []) other)
