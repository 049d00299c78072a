-- What a definition leaves of the tables outside the profile, in a map by id.
use Rattle.std.proofs.Common.{◌≡◌, ◌≢◌, ℕ, ◌<◌, Bool, true, false, not, ◌||◌, cond, eqb, List, [], ◌∷◌, Option, Some, None, Result, Ok, Err, refl, sym, ap, subst, ◌∙◌, inl, inr, arith}
use Rattle.std.specs.Prelude.{filter, OnOk, OnErr}
use Rattle.std.specs.List.{AllByRecursion}
use Rattle.std.specs.List.Sorted.{IsStrictlySortedBy}
use Rattle.std.specs.BTreeMap.{insert_entry, is_at}
use Rattle.std.specs.Cmp.{nat_cmp_is}
use Rattle.std.specs.Map.{keys_of, lookup}
use Rattle.std.specs.Ordering.{nat_cmp}
use Rattle.std.specs.declared.cmp.Ordering.TheVariants.{Less, Equal, Greater}
use Rattle.std.proofs.lemmas.Bool.{cases_Bool, cases_eq, cases_lt, eq-eqb, ne_eqb}
use Rattle.peers_msg.specs.ReceivedIndex.{is_id}
use Rattle.tolerant_intake.proofs.LooseTablesById.{all_other, filter_same}

less_of : (a b : ℕ) → nat_cmp a b ≡ Less → a < b
less_of a b e = elim (cases_lt a b) [
  | inl lt ↦ lt
  | inr ge ↦ elim (cases_eq a b) [
    | inl same ↦ let wrong : Equal ≡ Less = nat_cmp_is a b Equal same ∙ e in absurd cc
    | inr other ↦
        let gt : b < a = omega (arith, ge, other) in
        let wrong : Greater ≡ Less = nat_cmp_is a b Greater gt ∙ e in
        absurd cc
  ]
]

module _ {X : Type 0} where
  -- all ids are above this one
  abbrev pub AreAbove : ℕ → List (ℕ × X) → Type 0
  AreAbove id ls = AllByRecursion (λ other. nat_cmp id other ≡ Less) (keys_of ls)

  higher : (id other : ℕ) (ls : List (ℕ × X)) → id < other → AreAbove other ls → AreAbove id ls
  higher id other [] lt above = tt
  higher id other (l ∷ ls) lt above =
      let later : other < l.0 = less_of other l.0 above.0 in
      (sym (nat_cmp_is id l.0 Less (omega (arith, lt, later))), higher id other ls lt above.1)

  apart : (id : ℕ) (l : ℕ × X) → nat_cmp id l.0 ≡ Less → eqb l.0 id ≡ false
  apart id l e =
      let lt : id < l.0 = less_of id l.0 e in
      ne_eqb l.0 id (λ same. omega (arith, lt, same))

  -- an id below all others is inserted in front
  insert_front : (id : ℕ) (v : X) (ls : List (ℕ × X)) → AreAbove id ls → insert_entry nat_cmp ls id v ≡ (id, v) ∷ ls
  insert_front id v [] above = refl
  insert_front id v (l ∷ ls) above = rw above.0 refl

  above_filtered : (id : ℕ) (q : ℕ → Bool) (ls : List (ℕ × X)) → AreAbove id ls → AreAbove id (filter (λ l. q l.0) ls)
  above_filtered id q [] above = tt
  above_filtered id q (l ∷ ls) above = elim (cases_Bool (q l.0)) [ inl kept ↦ rw kept (above.0, above_filtered id q ls above.1) | inr gone ↦ rw gone (above_filtered id q ls above.1) ]

  -- two tests that differ at this id alone are the same above it
  filter_above : (id : ℕ) (p q : ℕ → Bool) → ((other : ℕ) → eqb other id ≡ false → p other ≡ q other) → (ls : List (ℕ × X)) → AreAbove id ls → filter (λ l. p l.0) ls ≡ filter (λ l. q l.0) ls
  filter_above id p q same [] above = refl
  filter_above id p q same (l ∷ ls) above =
      rw (same l.0 (apart id l above.0)) (ap (λ (rest : List (ℕ × X)). cond (q l.0) (l ∷ rest) rest) (filter_above id p q same ls above.1))

  -- What is filtered after an entry is inserted is what is inserted into what is filtered, if the tests differ at its id
  -- alone.
  pub inserted : (id : ℕ) (v : X) (p q : ℕ → Bool) → p id ≡ true → q id ≡ false → ((other : ℕ) → eqb other id ≡ false → p other ≡ q other) → (ls : List (ℕ × X)) → IsStrictlySortedBy nat_cmp (keys_of ls)
      → filter (λ l. p l.0) (insert_entry nat_cmp ls id v) ≡ insert_entry nat_cmp (filter (λ l. q l.0) ls) id v
  unfolding IsStrictlySortedBy
  inserted id v p q kept gone same [] rise = rw kept refl
  inserted id v p q kept gone same (l ∷ ls) rise = elim (cases_eq id l.0) [
    | inl here ↦
        let equal : nat_cmp id l.0 ≡ Equal = sym (nat_cmp_is id l.0 Equal here) in
        let keeps : p l.0 ≡ true = ap p (sym here) ∙ kept in
        let drops : q l.0 ≡ false = ap q (sym here) ∙ gone in
        let above : AreAbove id ls = subst (λ (i : ℕ). AreAbove i ls) (sym here) rise.0 in
        rw (equal, keeps, drops)
        (ap (λ (rest : List (ℕ × X)). (l.0, v) ∷ rest) (filter_above id p q same ls above)
        ∙ ap (λ (i : ℕ). (i, v) ∷ filter (λ x. q x.0) ls) (sym here)
        ∙ sym (insert_front id v (filter (λ x. q x.0) ls) (above_filtered id q ls above)))
    | inr other ↦ elim (cases_lt id l.0) [
      | inl lt ↦
          let less : nat_cmp id l.0 ≡ Less = sym (nat_cmp_is id l.0 Less lt) in
          let above : AreAbove id (l ∷ ls) = (less, higher id l.0 ls lt rise.0) in
          rw (insert_front id v (l ∷ ls) above, kept) (ap (λ (rest : List (ℕ × X)). (id, v) ∷ rest) (filter_above id p q same (l ∷ ls) above) ∙ sym (insert_front id v (filter (λ x. q x.0) (l ∷ ls)) (above_filtered id q (l ∷ ls) above)))
      | inr ge ↦
          let gt : l.0 < id = omega (arith, ge, other) in
          let greater : nat_cmp id l.0 ≡ Greater = sym (nat_cmp_is id l.0 Greater gt) in
          let alike : p l.0 ≡ q l.0 = same l.0 (ne_eqb l.0 id (λ e. other (sym e))) in
          let rest = inserted id v p q kept gone same ls rise.1 in
          elim (cases_Bool (q l.0)) [ inl on ↦ rw (greater, alike, on, greater) (ap (λ (xs : List (ℕ × X)). l ∷ xs) rest) | inr off ↦ rw (greater, alike, off) rest ]
    ]
  ]

  -- an entry that is inserted and removed
  pub removed_again : (id : ℕ) (v : X) (ls : List (ℕ × X)) → IsStrictlySortedBy nat_cmp (keys_of ls) → None ≡ lookup (is_at (nat_cmp id)) ls → filter (λ l. not (eqb l.0 id)) (insert_entry nat_cmp ls id v) ≡ ls
  unfolding IsStrictlySortedBy
  removed_again id v [] rise none = rw (eq-eqb id id refl) refl
  removed_again id v (l ∷ ls) rise none = elim (cases_eq id l.0) [
    | inl here ↦
        let equal : nat_cmp id l.0 ≡ Equal = sym (nat_cmp_is id l.0 Equal here) in
        let found : None ≡ Some l.1 = none ∙ rw equal refl in
        absurd cc
    | inr other ↦ elim (cases_lt id l.0) [
      | inl lt ↦
          let less : nat_cmp id l.0 ≡ Less = sym (nat_cmp_is id l.0 Less lt) in
          let above : AreAbove id (l ∷ ls) = (less, higher id l.0 ls lt rise.0) in
          rw (insert_front id v (l ∷ ls) above, eq-eqb id id refl) (all_other id (l ∷ ls) above)
      | inr ge ↦
          let gt : l.0 < id = omega (arith, ge, other) in
          let greater : nat_cmp id l.0 ≡ Greater = sym (nat_cmp_is id l.0 Greater gt) in
          let later : None ≡ lookup (is_at (nat_cmp id)) ls = none ∙ rw greater refl in
          rw (greater, ne_eqb l.0 id (λ e. other (sym e))) (ap (λ (xs : List (ℕ × X)). l ∷ xs) (removed_again id v ls rise.1 later))
    ]
  ]

  none_above : (id : ℕ) (ls : List (ℕ × X)) → AreAbove id ls → lookup (is_at (nat_cmp id)) ls ≡ None
  none_above id [] above = refl
  none_above id (l ∷ ls) above = rw above.0 (none_above id ls above.1)

  -- an entry that is replaced and put back
  pub put_again : (id : ℕ) (v old : X) (ls : List (ℕ × X)) → IsStrictlySortedBy nat_cmp (keys_of ls) → Some old ≡ lookup (is_at (nat_cmp id)) ls → insert_entry nat_cmp (insert_entry nat_cmp ls id v) id old ≡ ls
  unfolding IsStrictlySortedBy
  put_again id v old [] rise some = absurd cc
  put_again id v old (l ∷ ls) rise some = elim (cases_eq id l.0) [
    | inl here ↦
        let equal : nat_cmp id l.0 ≡ Equal = sym (nat_cmp_is id l.0 Equal here) in
        let found : Some old ≡ Some l.1 = some ∙ rw equal refl in
        let is : old ≡ l.1 = cc in
        rw (equal, equal) (ap (λ (x : X). (l.0, x) ∷ ls) is)
    | inr other ↦ elim (cases_lt id l.0) [
      | inl lt ↦
          let less : nat_cmp id l.0 ≡ Less = sym (nat_cmp_is id l.0 Less lt) in
          let above : AreAbove id (l ∷ ls) = (less, higher id l.0 ls lt rise.0) in
          let never : Some old ≡ None = some ∙ none_above id (l ∷ ls) above in
          absurd cc
      | inr ge ↦
          let gt : l.0 < id = omega (arith, ge, other) in
          let greater : nat_cmp id l.0 ≡ Greater = sym (nat_cmp_is id l.0 Greater gt) in
          let later : Some old ≡ lookup (is_at (nat_cmp id)) ls = some ∙ rw greater refl in
          rw (greater, greater) (ap (λ (xs : List (ℕ × X)). l ∷ xs) (put_again id v old ls rise.1 later))
    ]
  ]

  found_inserted : (id : ℕ) (v : X) (ls : List (ℕ × X)) → lookup (is_at (nat_cmp id)) (insert_entry nat_cmp ls id v) ≡ Some v
  found_inserted id v [] = rw (sym (nat_cmp_is id id Equal refl)) refl
  found_inserted id v (l ∷ ls) = elim (cases_eq id l.0) [
    | inl here ↦ rw (sym (nat_cmp_is id l.0 Equal here), sym (nat_cmp_is id l.0 Equal here)) refl
    | inr other ↦ elim (cases_lt id l.0) [
      | inl lt ↦ rw (sym (nat_cmp_is id l.0 Less lt), sym (nat_cmp_is id id Equal refl)) refl
      | inr ge ↦
          let gt : l.0 < id = omega (arith, ge, other) in
          rw (sym (nat_cmp_is id l.0 Greater gt), sym (nat_cmp_is id l.0 Greater gt)) (found_inserted id v ls)
    ]
  ]

  -- what was there before is there again, whether memory is said to suffice or not
  pub is_put_back : {A E : Type 0} (r : Result A E) (id : ℕ) (v old : X) (ls before after : List (ℕ × X)) → IsStrictlySortedBy nat_cmp (keys_of ls) → Some old ≡ lookup (is_at (nat_cmp id)) ls → before ≡ insert_entry nat_cmp ls id v
      → OnOk r (after ≡ insert_entry nat_cmp before id old) → OnErr r (lookup (is_at (nat_cmp id)) before ≡ None) → after ≡ ls
  is_put_back (Ok x) id v old ls before after rise some was is absent = is ∙ ap (λ (xs : List (ℕ × X)). insert_entry nat_cmp xs id old) was ∙ put_again id v old ls rise some
  is_put_back (Err e) id v old ls before after rise some was is absent =
      let never : Some v ≡ None = sym (found_inserted id v ls) ∙ ap (lookup (is_at (nat_cmp id))) (sym was) ∙ absent in
      absurd cc

  all_kept : (p : ℕ → Bool) → ((id : ℕ) → p id ≡ true) → (ls : List (ℕ × X)) → filter (λ l. p l.0) ls ≡ ls
  all_kept p all [] = refl
  all_kept p all (l ∷ ls) = rw (all l.0) (ap (λ (xs : List (ℕ × X)). l ∷ xs) (all_kept p all ls))

  -- a definition under the id `own`, and the id that stood for its name
  pub no_other : (own : ℕ) (ls : List (ℕ × X)) → filter (λ l. eqb l.0 own || not (is_id None l.0)) ls ≡ ls
  no_other own ls = all_kept (λ id. eqb id own || true) (λ id. or_true (eqb id own)) ls
    where
      or_true : (b : Bool) → (b || true) ≡ true
      or_true true = refl
      or_true false = refl

  pub same_other : (own : ℕ) (ls : List (ℕ × X)) → filter (λ l. eqb l.0 own || not (is_id (Some own) l.0)) ls ≡ ls
  same_other own ls = all_kept (λ id. eqb id own || not (eqb id own)) (λ id. or_not (eqb id own)) ls
    where
      or_not : (b : Bool) → (b || not b) ≡ true
      or_not true = refl
      or_not false = refl

  pub one_other : (own named : ℕ) (ls : List (ℕ × X)) → named ≢ own → filter (λ l. not (eqb l.0 named)) ls ≡ filter (λ l. eqb l.0 own || not (is_id (Some named) l.0)) ls
  one_other own named ls other = filter_same (λ id. not (eqb id named)) (λ id. eqb id own || not (eqb id named)) ls by
    where
      by : (id : ℕ) → not (eqb id named) ≡ (eqb id own || not (eqb id named))
      by id = elim (cases_eq id own) [
        | inl here ↦ rw (eq-eqb id own here, ne_eqb id named (λ same. other (sym same ∙ here))) refl
        | inr there ↦ rw (ne_eqb id own there) refl
      ]

  -- what is left of the others after an entry is inserted under `own`
  pub inserted_own : (own : ℕ) (named : Option ℕ) (v : X) (ls : List (ℕ × X)) → IsStrictlySortedBy nat_cmp (keys_of ls)
      → filter (λ l. eqb l.0 own || not (is_id named l.0)) (insert_entry nat_cmp ls own v) ≡ insert_entry nat_cmp (filter (λ l. not (eqb l.0 own || is_id named l.0)) ls) own v
  inserted_own own named v ls rise =
      inserted own v (λ id. eqb id own || not (is_id named id)) (λ id. not (eqb id own || is_id named id)) (rw (eq-eqb own own refl) refl) (rw (eq-eqb own own refl) refl) (λ other apart. rw apart refl) ls rise
