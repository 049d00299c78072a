-- The text of an error up to the mark before its number.
use Rattle.std.proofs.Common.{◌≡◌, ◌∙◌, ◌++◌, ◌≤◌, ◌<◌, ◌+◌, ℕ, List, arith, inl, inr, ap, drop, length, refl, sym, take}
use Rattle.std.proofs.lemmas.Bool.{cases_lt}
use Rattle.std.proofs.lemmas.List.{length-append, take-append-drop}
use Rattle.std.proofs.Math.Seq.{drop-append_seam}
use Rattle.std.specs.Str.Pattern.{FindsText, HasTextAt, LacksTextAt, SplitsAroundMatch}
use Rattle.node_core.specs.Needs.{HasMark, IsReason, number_mark}

-- a mark behind these bytes stands where they end
marked_at : (text before : List ℕ) → HasMark text before → LacksTextAt number_mark text (length before) → ⊥
marked_at text before (behind, is) lacks =
    lacks behind (ap (λ (t : List ℕ). drop (length before) t) is ∙ drop-append_seam before (number_mark ++ behind))

within : (text before : List ℕ) → HasMark text before → length before ≤ length text
within text before (behind, is) = rw is (omega (arith, length-append before (number_mark ++ behind)))

-- no mark stands behind fewer bytes than the first
first : (text before : List ℕ) (n m : ℕ) → m ≡ n → ((i : ℕ) → i < n → LacksTextAt number_mark text i) → HasMark text before → m ≤ length before
first text before n m same none has =
    elim (cases_lt (length before) n) [
      | inl earlier ↦ absurd (marked_at text before has (none (length before) earlier))
      | inr later ↦ omega (arith, same)
    ]

pub found : (text reason back : List ℕ) → SplitsAroundMatch (FindsText number_mark) text reason back → IsReason text reason
found text reason back split =
    let finds = split.2 in
    let at : HasTextAt number_mark text split.0 split.1 = finds.1 in
    let whole : text ≡ reason ++ (number_mark ++ drop split.1 text) =
    sym (take-append-drop split.0 text)
    ∙ (ap (λ (t : List ℕ). take split.0 text ++ t) at.split ∙ ap (λ (t : List ℕ). t ++ (number_mark ++ drop split.1 text)) (sym split.3)) in
    inl ((drop split.1 text, whole), λ before has. first text before split.0 (length reason) split.6 finds.0 has)

pub missing : (text : List ℕ) → ((i : ℕ) → i ≤ length text → LacksTextAt number_mark text i) → IsReason text text
missing text lacks = inr (refl, λ before has. marked_at text before has (lacks (length before) (within text before has)))
