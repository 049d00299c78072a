-- Pairs in ascending order of number: one is appended, one is removed, and those of a key are.
use Rattle.std.proofs.Common.{◌≡◌, ℕ, suc, ◌+◌, ◌≤◌, ◌<◌, Bool, true, false, not, ◌||◌, List, [], ◌∷◌, ◌++◌, length, Some, refl, sym, ap, ◌∙◌, arith}
use Rattle.std.specs.Prelude.{filter, nat_lt}
use Rattle.std.specs.List.{AllByRecursion, list_any}
use Rattle.std.specs.List.Sorted.{IsStrictlySortedBy}
use Rattle.std.specs.declared.cmp.Ordering.TheVariants.{Less, Equal, Greater}
use Rattle.std.specs.Ordering.{is_eq, nat_cmp}
use Rattle.std.specs.Cmp.{nat_cmp_is, ranked}
use Rattle.std.specs.Map.{keys_of, remove_entry}
use Rattle.std.specs.BTreeMap.{is_at}
use Rattle.std.proofs.lemmas.Bool.{le-ltb, lt-ltb, ltb-false, ltb-true}
use Rattle.std.proofs.lemmas.Map.Lookups.{exact_unsigned}
use Rattle.std.proofs.lemmas.Map.Views.{tells_apart}
use Rattle.table_types.specs.declared.key.Key.{Key}
use Rattle.table_types.specs.Keys.{key_cmp}
use Rattle.table_types.proofs.EqualKeysAreOne.{key_cmp-same}
use Rattle.update_numbers.specs.Numbers.{AreNumbered, Numbering, given, is_of, pairs_without, pushed, without, without_below}

pub one_number : (a b : ℕ) → is_eq (nat_cmp a b) ≡ true → a ≡ b
one_number a b same = tells_apart exact_unsigned a b same

pub number-same : (n : ℕ) → is_eq (nat_cmp n n) ≡ true
number-same n = ap is_eq (sym (nat_cmp_is n n Equal refl))

abbrev pub numbering : ℕ → List (ℕ × Key) → Numbering
numbering next pairs = record { pairs = pairs; next = next }

-- ---- a number above all others

pub remove_last : (es : List (ℕ × Key)) (number : ℕ) (key : Key) → AllByRecursion (λ e. e.0 < number) es → remove_entry (is_at (nat_cmp number)) (es ++ (number, key) ∷ []) ≡ es
remove_last [] number key below = rw (number-same number) refl
remove_last (e ∷ es) number key below = rw (sym (nat_cmp_is number e.0 Greater below.0)) (ap (λ (rest : List (ℕ × Key)). e ∷ rest) (remove_last es number key below.1))

pub below_append : (es : List (ℕ × Key)) (number : ℕ) (key : Key) → AllByRecursion (λ e. e.0 < number) es → AllByRecursion (λ e. e.0 < number + 1) (es ++ (number, key) ∷ [])
below_append [] number key below = (omega arith, tt)
below_append (e ∷ es) number key below = (omega (arith, below.0), below_append es number key below.1)

-- ---- the numbers of a key

not_new : (number : ℕ) → nat_lt number number ≡ false
not_new number = le-ltb number number (omega arith)

-- a key keeps the number that it was assigned last
pub given_last : (next : ℕ) (key : Key) (es : List (ℕ × Key)) → AllByRecursion (λ e. e.0 < next) es → without_below next key (es ++ (next, key) ∷ []) ≡ without key es ++ (next, key) ∷ []
given_last next key [] below = rw (not_new next) refl
given_last next key (e ∷ es) below = by (is_of key e) refl (given_last next key es below.1)
  where
    by : (b : Bool) → is_of key e ≡ b → without_below next key (es ++ (next, key) ∷ []) ≡ without key es ++ (next, key) ∷ [] → without_below next key ((e ∷ es) ++ (next, key) ∷ []) ≡ without key (e ∷ es) ++ (next, key) ∷ []
    by true same rest = rw (lt-ltb e.0 next below.0, same) rest
    by false apart rest = rw (lt-ltb e.0 next below.0, apart) (ap (λ (rest : List (ℕ × Key)). e ∷ rest) rest)

-- all numbers of a key are below the next one
pub dropped_all : (next : ℕ) (key : Key) (es : List (ℕ × Key)) → AllByRecursion (λ e. e.0 < next) es → without_below next key es ≡ without key es
dropped_all next key [] below = refl
dropped_all next key (e ∷ es) below = by (is_of key e) refl (dropped_all next key es below.1)
  where
    by : (b : Bool) → is_of key e ≡ b → without_below next key es ≡ without key es → without_below next key (e ∷ es) ≡ without key (e ∷ es)
    by true same rest = rw (lt-ltb e.0 next below.0, same) rest
    by false apart rest = rw (lt-ltb e.0 next below.0, apart) (ap (λ (rest : List (ℕ × Key)). e ∷ rest) rest)

without_most : (key : Key) (es : List (ℕ × Key)) → length (without key es) ≤ length es
without_most key [] = omega arith
without_most key (e ∷ es) = by (is_of key e) refl (without_most key es)
  where
    by : (b : Bool) → is_of key e ≡ b → length (without key es) ≤ length es → length (without key (e ∷ es)) ≤ length (e ∷ es)
    by true same rest = rw same (omega (arith, rest))
    by false apart rest = rw apart (omega (arith, rest))

lt-suc : (a b : ℕ) → nat_lt (suc a) (suc b) ≡ nat_lt a b
lt-suc a b = by (nat_lt a b) refl
  where
    by : (less : Bool) → nat_lt a b ≡ less → nat_lt (suc a) (suc b) ≡ nat_lt a b
    by true is = rw is (lt-ltb (suc a) (suc b) (omega (arith, ltb-true a b is)))
    by false is = rw is (le-ltb (suc a) (suc b) (omega (arith, ltb-false a b is)))

-- a key had a number exactly if fewer pairs are left without its numbers
pub fewer_without : (key : Key) (es : List (ℕ × Key)) → nat_lt (length (without key es)) (length es) ≡ list_any (is_of key) es
fewer_without key [] = refl
fewer_without key (e ∷ es) = by (is_of key e) refl (fewer_without key es)
  where
    by : (b : Bool) → is_of key e ≡ b → nat_lt (length (without key es)) (length es) ≡ list_any (is_of key) es → nat_lt (length (without key (e ∷ es))) (length (e ∷ es)) ≡ list_any (is_of key) (e ∷ es)
    by true same rest = rw same (lt-ltb (length (without key es)) (length (e ∷ es)) (omega (arith, without_most key es)))
    by false apart rest = rw apart (lt-suc (length (without key es)) (length es) ∙ rest)

all_filtered : (T : ℕ × Key → Type 0) (p : ℕ × Key → Bool) (es : List (ℕ × Key)) → AllByRecursion (λ e. T e) es → AllByRecursion (λ e. T e) (filter p es)
all_filtered T p [] all = tt
all_filtered T p (e ∷ es) all = by (p e) refl (all_filtered T p es all.1)
  where
    by : (b : Bool) → p e ≡ b → AllByRecursion (λ e. T e) (filter p es) → AllByRecursion (λ e. T e) (filter p (e ∷ es))
    by true keeps rest = rw keeps (all.0, rest)
    by false drops rest = rw drops rest

-- some pairs are left out
pub filtered : (p : ℕ × Key → Bool) (pairs after : List (ℕ × Key)) (next : ℕ) → AreNumbered pairs next → after ≡ filter p pairs → IsStrictlySortedBy nat_cmp (keys_of after) → AreNumbered after next
filtered p pairs after next are is rising = record { rising = rising; below = rw is (all_filtered (λ e. e.0 < next) p pairs are.below); most = are.most }

-- ---- one number is removed

below_removed : (number next : ℕ) (es : List (ℕ × Key)) → AllByRecursion (λ e. e.0 < next) es → AllByRecursion (λ e. e.0 < next) (pairs_without (Some number) es)
below_removed number next [] below = tt
below_removed number next (e ∷ es) below = by (is_eq (nat_cmp number e.0)) refl (below_removed number next es below.1)
  where
    by : (b : Bool) → is_eq (nat_cmp number e.0) ≡ b → AllByRecursion (λ f. f.0 < next) (pairs_without (Some number) es) → AllByRecursion (λ f. f.0 < next) (pairs_without (Some number) (e ∷ es))
    by true here rest = rw here below.1
    by false other rest = rw other (below.0, rest)

-- a number is removed
pub removed : (pairs after : List (ℕ × Key)) (number next : ℕ) → AreNumbered pairs next → after ≡ pairs_without (Some number) pairs → IsStrictlySortedBy nat_cmp (keys_of after) → AreNumbered after next
removed pairs after number next are is rising = record { rising = rising; below = rw is (below_removed number next pairs are.below); most = are.most }

last_number : (T : ℕ → Type 0) (es : List (ℕ × Key)) (e : ℕ × Key) → AllByRecursion T (keys_of (es ++ e ∷ [])) → T e.0
last_number T [] e all = all.0
last_number T (f ∷ fs) e all = last_number T fs e all.1

pub last_below : (next : ℕ) (es : List (ℕ × Key)) (e : ℕ × Key) → AllByRecursion (λ f. f.0 < next) (es ++ e ∷ []) → e.0 < next
last_below next [] e all = all.0
last_below next (f ∷ fs) e all = last_below next fs e all.1

pub below_last : (es : List (ℕ × Key)) (e : ℕ × Key) → IsStrictlySortedBy nat_cmp (keys_of (es ++ e ∷ [])) → AllByRecursion (λ f. f.0 < e.0) es
unfolding IsStrictlySortedBy
below_last [] e rising = tt
below_last (f ∷ fs) e rising = (ranked f.0 e.0 Less (sym (last_number (λ n. nat_cmp f.0 n ≡ Less) fs e rising.0)), below_last fs e rising.1)

-- those before the greatest ascend
pub rising_front : (es : List (ℕ × Key)) (e : ℕ × Key) → IsStrictlySortedBy nat_cmp (keys_of (es ++ e ∷ [])) → IsStrictlySortedBy nat_cmp (keys_of es)
unfolding IsStrictlySortedBy
rising_front [] e rising = tt
rising_front (f ∷ fs) e rising = (all_front fs e (λ n. nat_cmp f.0 n ≡ Less) rising.0, rising_front fs e rising.1)
  where
    all_front : (gs : List (ℕ × Key)) (last : ℕ × Key) (T : ℕ → Type 0) → AllByRecursion T (keys_of (gs ++ last ∷ [])) → AllByRecursion T (keys_of gs)
    all_front [] last T all = tt
    all_front (g ∷ gs) last T all = (all.0, all_front gs last T all.1)

-- the greatest is taken back
pub popped : (pairs after : List (ℕ × Key)) (number next : ℕ) (key : Key) → AreNumbered pairs next → pairs ≡ after ++ (number, key) ∷ [] → IsStrictlySortedBy nat_cmp (keys_of after) → AreNumbered after number
popped pairs after number next key are is rising =
    let less : number < next = last_below next after (number, key) (rw (← is) are.below) in
    record {
      rising = rising;
      below = below_last after (number, key) (rw (← is) are.rising);
      most = omega (arith, less, are.most);
    }
