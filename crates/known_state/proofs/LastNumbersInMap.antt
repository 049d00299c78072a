-- Last numbers in a map by id.
use Rattle.std.proofs.Common.{◌≡◌, ℕ, ◌<◌, ◌≤◌, Bool, true, false, not, ◌||◌, cond, eqb, List, [], ◌∷◌, ◌++◌, Option, Some, None, refl, sym, ap, subst, ◌∙◌, inl, inr, arith}
use Rattle.std.specs.Prelude.{filter, nat_lt}
use Rattle.std.specs.List.{AllByRecursion}
use Rattle.std.specs.Map.{lookup, remove_entry}
use Rattle.std.specs.BTreeMap.{insert_entry, is_at}
use Rattle.std.specs.Ordering.{nat_cmp}
use Rattle.std.specs.Cmp.{nat_cmp_is}
use Rattle.std.specs.declared.cmp.Ordering.TheVariants.{Less, Equal, Greater}
use Rattle.std.proofs.lemmas.Bool.{cases_eq, cases_lt, eq-eqb, ne_eqb, lt-ltb, le-ltb}
use Rattle.std.proofs.lemmas.List.{append_assoc}
use Rattle.known_state.specs.LastNumbers.{last_of, set_last, AreRising}
use Rattle.known_state.proofs.LastNumbersRise.{rising-filter}

is_less : (a b : ℕ) → a < b → nat_cmp a b ≡ Less
is_less a b lt = sym (nat_cmp_is a b Less lt)

is_equal : (a b : ℕ) → a ≡ b → nat_cmp a b ≡ Equal
is_equal a b same = sym (nat_cmp_is a b Equal same)

is_greater : (a b : ℕ) → b < a → nat_cmp a b ≡ Greater
is_greater a b gt = sym (nat_cmp_is a b Greater gt)

-- the last number that is found
pub found : (id : ℕ) (ls : List (ℕ × ℕ)) → lookup (is_at (nat_cmp id)) ls ≡ last_of ls id
found id [] = refl
found id (l ∷ ls) = elim (cases_eq l.0 id) [
  | inl same ↦ rw (is_equal id l.0 (sym same), eq-eqb l.0 id same) refl
  | inr other ↦ elim (cases_lt id l.0) [
    | inl lt ↦ rw (is_less id l.0 lt, ne_eqb l.0 id other) (found id ls)
    | inr le ↦
        let gt : l.0 < id = omega arith in
        rw (is_greater id l.0 gt, ne_eqb l.0 id other) (found id ls)
  ]
]

-- the last numbers after one is put
pub put : (id n : ℕ) (ls : List (ℕ × ℕ)) → insert_entry nat_cmp ls id n ≡ set_last id n ls
put id n [] = refl
put id n (l ∷ ls) = elim (cases_eq l.0 id) [
  | inl same ↦ rw (is_equal id l.0 (sym same), eq-eqb l.0 id same) (ap (λ (k : ℕ). (k, n) ∷ ls) same)
  | inr other ↦ elim (cases_lt id l.0) [
    | inl lt ↦ rw (is_less id l.0 lt, ne_eqb l.0 id other, lt-ltb id l.0 lt) refl
    | inr le ↦
        let gt : l.0 < id = omega arith in
        rw (is_greater id l.0 gt, ne_eqb l.0 id other, le-ltb id l.0 le) (ap (λ (rest : List (ℕ × ℕ)). l ∷ rest) (put id n ls))
  ]
]

all_other : (id : ℕ) (ls : List (ℕ × ℕ)) → AllByRecursion (λ l. id < l.0) ls → filter (λ l. not (eqb l.0 id)) ls ≡ ls
all_other id [] above = refl
all_other id (l ∷ ls) above =
    let lt : id < l.0 = above.0 in
    let apart : l.0 ≡ id → ⊥ = λ same. omega arith in
    rw (ne_eqb l.0 id apart) (ap (λ (rest : List (ℕ × ℕ)). l ∷ rest) (all_other id ls above.1))

-- the last numbers after one is removed
pub removed : (id : ℕ) (ls : List (ℕ × ℕ)) → AreRising ls → remove_entry (is_at (nat_cmp id)) ls ≡ filter (λ l. not (eqb l.0 id)) ls
removed id [] rise = refl
removed id (l ∷ ls) rise = elim (cases_eq l.0 id) [
  | inl same ↦ rw (is_equal id l.0 (sym same), eq-eqb l.0 id same) (sym (all_other id ls (subst (λ (i : ℕ). AllByRecursion (λ x. i < x.0) ls) same rise.0)))
  | inr other ↦ elim (cases_lt id l.0) [
    | inl lt ↦ rw (is_less id l.0 lt, ne_eqb l.0 id other) (ap (λ (rest : List (ℕ × ℕ)). l ∷ rest) (removed id ls rise.1))
    | inr le ↦
        let gt : l.0 < id = omega arith in
        rw (is_greater id l.0 gt, ne_eqb l.0 id other) (ap (λ (rest : List (ℕ × ℕ)). l ∷ rest) (removed id ls rise.1))
  ]
]

-- all are kept by a test that drops none
pub none_dropped : (ls : List (ℕ × ℕ)) → filter (λ l. true) ls ≡ ls
none_dropped [] = refl
none_dropped (l ∷ ls) = ap (λ (rest : List (ℕ × ℕ)). l ∷ rest) (none_dropped ls)

-- the same are kept by equal tests
pub filter_same : (p q : ℕ → Bool) (ls : List (ℕ × ℕ)) → ((id : ℕ) → p id ≡ q id) → filter (λ l. p l.0) ls ≡ filter (λ l. q l.0) ls
filter_same p q [] same = refl
filter_same p q (l ∷ ls) same = rw (same l.0) (ap (λ (rest : List (ℕ × ℕ)). cond (q l.0) (l ∷ rest) rest) (filter_same p q ls same))

-- what two tests drop, one after the other
pub filter_both : (p q : ℕ → Bool) (ls : List (ℕ × ℕ)) → filter (λ l. not (q l.0)) (filter (λ l. not (p l.0)) ls) ≡ filter (λ l. not (p l.0 || q l.0)) ls
filter_both p q [] = refl
filter_both p q (l ∷ ls) = at (p l.0) refl (filter_both p q ls)
  where
    at : (b : Bool) → p l.0 ≡ b → filter (λ l. not (q l.0)) (filter (λ l. not (p l.0)) ls) ≡ filter (λ l. not (p l.0 || q l.0)) ls → filter (λ l. not (q l.0)) (filter (λ l. not (p l.0)) (l ∷ ls)) ≡ filter (λ l. not (p l.0 || q l.0)) (l ∷ ls)
    at true e rest = rw e rest
    at false e rest = rw e (ap (λ (ms : List (ℕ × ℕ)). cond (not (q l.0)) (l ∷ ms) ms) rest)

-- a last number that comes after the others is put last
put_last : (ls ms : List (ℕ × ℕ)) (id n : ℕ) → AreRising (ls ++ ((id, n) ∷ ms)) → set_last id n ls ≡ ls ++ ((id, n) ∷ [])
put_last [] ms id n rise = refl
put_last (l ∷ ls) ms id n rise =
    let below : l.0 < id = first ls rise.0 in
    let apart : l.0 ≡ id → ⊥ = λ same. omega arith in
    let le : l.0 ≤ id = omega arith in
    rw (ne_eqb l.0 id apart, le-ltb id l.0 le) (ap (λ (rest : List (ℕ × ℕ)). l ∷ rest) (put_last ls ms id n rise.1))
  where
    first : (ks : List (ℕ × ℕ)) → AllByRecursion (λ x. l.0 < x.0) (ks ++ ((id, n) ∷ ms)) → l.0 < id
    first [] above = above.0
    first (k ∷ ks) above = first ks above.1

-- the next last number is copied
pub next_copied : (all made next after : List (ℕ × ℕ)) (id n : ℕ) → AreRising all → made ++ ((id, n) ∷ next) ≡ all → after ≡ set_last id n made → after ++ next ≡ all
next_copied all made next after id n rise stood is =
    ap (λ (ls : List (ℕ × ℕ)). ls ++ next) (is ∙ put_last made next id n (subst AreRising (sym stood) rise)) ∙ append_assoc made ((id, n) ∷ []) next ∙ stood

module _ (p : (ℕ × ℕ) → Bool) (all made next : List (ℕ × ℕ)) (id n : ℕ) (rise : AreRising all) (stood : made ++ filter p ((id, n) ∷ next) ≡ filter p all) where
  -- the next last number is kept
  pub next_kept : (after : List (ℕ × ℕ)) → p (id, n) ≡ true → after ≡ set_last id n made → after ++ filter p next ≡ filter p all
  next_kept after kept is =
      next_copied (filter p all) made (filter p next) after id n (rising-filter p all rise) (subst (λ (b : Bool). made ++ cond b ((id, n) ∷ filter p next) (filter p next) ≡ filter p all) kept stood) is

  -- or it is dropped
  pub next_dropped : p (id, n) ≡ false → made ++ filter p next ≡ filter p all
  next_dropped dropped = subst (λ (b : Bool). made ++ cond b ((id, n) ∷ filter p next) (filter p next) ≡ filter p all) dropped stood
