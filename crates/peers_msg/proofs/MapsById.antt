-- Maps by id: equal look-ups give equal entries.
use Rattle.std.proofs.Common.{◌≡◌, ℕ, ◌<◌, Bool, cond, eqb, List, [], ◌∷◌, Option, Some, None, refl, sym, ap, subst, ◌∙◌, inl, inr, arith}
use Rattle.std.specs.List.{AllByRecursion}
use Rattle.std.specs.List.Sorted.{IsStrictlySortedBy}
use Rattle.std.specs.BTreeMap.{is_at}
use Rattle.std.specs.Cmp.{nat_cmp_is, nat_cmp_total}
use Rattle.std.specs.Map.{keys_of, lookup}
use Rattle.std.specs.Ordering.{is_eq, nat_cmp}
use Rattle.std.specs.declared.cmp.Ordering.{Ordering}
use Rattle.std.specs.declared.cmp.Ordering.TheVariants.{Less, Equal, Greater}
use Rattle.std.proofs.lemmas.Bool.{cases_eq, cases_lt, eq-eqb, ne_eqb}

pub tested : (a b : ℕ) → is_eq (nat_cmp a b) ≡ eqb b a
tested a b = elim (cases_eq b a) [
  | inl same ↦ rw (sym (nat_cmp_is a b Equal (sym same)), eq-eqb b a same) refl
  | inr other ↦ elim (cases_lt a b) [
    | inl lt ↦ rw (sym (nat_cmp_is a b Less lt), ne_eqb b a other) refl
    | inr le ↦
        let gt : b < a = omega arith in
        rw (sym (nat_cmp_is a b Greater gt), ne_eqb b a other) refl
  ]
]

module _ {X : Type 0} where
  abbrev AreAbove : ℕ → List (ℕ × X) → Type 0
  AreAbove id es = AllByRecursion (λ other. nat_cmp id other ≡ Less) (keys_of es)

  none_above : (id : ℕ) (es : List (ℕ × X)) → AreAbove id es → lookup (is_at (nat_cmp id)) es ≡ None
  none_above id [] above = refl
  none_above id (e ∷ es) above = ap (λ (o : Ordering). cond (is_eq o) (Some e.1) (lookup (is_at (nat_cmp id)) es)) above.0 ∙ none_above id es above.1

  lower : (a b : ℕ) (es : List (ℕ × X)) → nat_cmp a b ≡ Less → AreAbove b es → AreAbove a es
  lower a b [] less above = tt
  lower a b (e ∷ es) less above = (nat_cmp_total.trans a b e.0 less above.0, lower a b es less above.1)

  at_first : (e : ℕ × X) (es : List (ℕ × X)) → lookup (is_at (nat_cmp e.0)) (e ∷ es) ≡ Some e.1
  at_first e es = ap (λ (b : Bool). cond b (Some e.1) (lookup (is_at (nat_cmp e.0)) es)) (tested e.0 e.0 ∙ eq-eqb e.0 e.0 refl)

  past_first : (id : ℕ) (e : ℕ × X) (es : List (ℕ × X)) → (e.0 ≡ id → ⊥) → lookup (is_at (nat_cmp id)) (e ∷ es) ≡ lookup (is_at (nat_cmp id)) es
  past_first id e es other = ap (λ (b : Bool). cond b (Some e.1) (lookup (is_at (nat_cmp id)) es)) (tested id e.0 ∙ ne_eqb e.0 id other)

  below_first : (id : ℕ) (e : ℕ × X) (es : List (ℕ × X)) → id < e.0 → AreAbove e.0 es → lookup (is_at (nat_cmp id)) (e ∷ es) ≡ None
  below_first id e es lt above =
      let less : nat_cmp id e.0 ≡ Less = sym (nat_cmp_is id e.0 Less lt) in
      none_above id (e ∷ es) (less, lower id e.0 es less above)

  absent : (x : X) → ◌≡◌ {A = Option X} (Some x) None → ⊥
  absent x h = absurd cc

  of_one : (x y : X) → ◌≡◌ {A = Option X} (Some x) (Some y) → x ≡ y
  of_one x y h = cc

  rest_same : (a b : ℕ) (xs ys : List (ℕ × X)) (x y : X) → a ≡ b → AreAbove a xs → AreAbove b ys → ((id : ℕ) → lookup (is_at (nat_cmp id)) ((a, x) ∷ xs) ≡ lookup (is_at (nat_cmp id)) ((b, y) ∷ ys))
      → (id : ℕ) → lookup (is_at (nat_cmp id)) xs ≡ lookup (is_at (nat_cmp id)) ys
  rest_same a b xs ys x y same over over' found id = elim (cases_eq a id) [
    | inl here ↦
        none_above id xs (subst (λ (i : ℕ). AreAbove i xs) here over) ∙ sym (none_above id ys (subst (λ (i : ℕ). AreAbove i ys) (sym same ∙ here) over'))
    | inr other ↦
        let other' : b ≡ id → ⊥ = λ here. other (same ∙ here) in
        sym (past_first id (a, x) xs other) ∙ found id ∙ past_first id (b, y) ys other'
  ]

  pub same_entries : (es fs : List (ℕ × X)) → IsStrictlySortedBy nat_cmp (keys_of es) → IsStrictlySortedBy nat_cmp (keys_of fs) → ((id : ℕ) → lookup (is_at (nat_cmp id)) es ≡ lookup (is_at (nat_cmp id)) fs) → es ≡ fs
  unfolding IsStrictlySortedBy
  same_entries [] [] rise rise' found = refl
  same_entries [] (f ∷ fs) rise rise' found = absurd (absent f.1 (sym (at_first f fs) ∙ sym (found f.0)))
  same_entries (e ∷ es) [] rise rise' found = absurd (absent e.1 (sym (at_first e es) ∙ found e.0))
  same_entries (e ∷ es) (f ∷ fs) rise rise' found = elim (cases_eq e.0 f.0) [
    | inl same ↦
        let value : e.1 ≡ f.1 = of_one e.1 f.1 (sym (at_first e es) ∙ found e.0 ∙ ap (λ (id : ℕ). lookup (is_at (nat_cmp id)) (f ∷ fs)) same ∙ at_first f fs) in
        let rest : es ≡ fs = same_entries es fs rise.1 rise'.1 (rest_same e.0 f.0 es fs e.1 f.1 same rise.0 rise'.0 found) in
        λ i. (same i, value i) ∷ rest i
    | inr other ↦ elim (cases_lt e.0 f.0) [
      | inl lt ↦ absurd (absent e.1 (sym (at_first e es) ∙ found e.0 ∙ below_first e.0 f fs lt rise'.0))
      | inr le ↦
          let gt : f.0 < e.0 = omega arith in
          absurd (absent f.1 (sym (at_first f fs) ∙ sym (found f.0) ∙ below_first f.0 e es gt rise.0))
    ]
  ]
