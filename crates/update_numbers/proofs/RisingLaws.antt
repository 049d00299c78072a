-- Pairs in descending order of number, and the same pairs in ascending order.
use Rattle.std.proofs.Common.{◌≡◌, ℕ, ◌<◌, ◌≤◌, ◌^◌, Bool, true, false, not, List, [], ◌∷◌, ◌++◌, length, Some, refl, sym, ap, subst, ◌∙◌, arith}
use Rattle.std.specs.Prelude.{filter, nat_lt}
use Rattle.std.specs.List.{AllByRecursion}
use Rattle.std.specs.List.Sorted.{IsStrictlySortedBy}
use Rattle.std.specs.declared.cmp.Ordering.{Ordering}
use Rattle.std.specs.declared.cmp.Ordering.TheVariants.{Less, Equal, Greater}
use Rattle.std.specs.declared.cmp.Reverse.{Reverse}
use Rattle.std.specs.Ordering.{is_eq, is_le, nat_cmp}
use Rattle.std.specs.Cmp.{eq_by_cmp_equiv, nat_cmp_is, nat_cmp_total, ranked}
use Rattle.std.specs.Map.{keys_of, lookup, remove_entry}
use Rattle.std.specs.BTreeMap.{insert_entry, is_at}
use Rattle.std.proofs.lemmas.List.{append-nil, length-append}
use Rattle.std.proofs.lemmas.Bool.{le-ltb, lt-ltb}
use Rattle.std.proofs.lemmas.List.Elements.{filter-append}
use Rattle.table_types.specs.declared.key.Key.{Key}
use Rattle.update_numbers.specs.Numbers.{AreNumbered, above, is_of, key_at, pairs_without, without_below}
use Rattle.update_numbers.specs.Rising.{rising}
use Rattle.update_numbers.proofs.NumberLaws.{below_last, last_below, number-same, one_number, remove_last, rising_front}

-- the greatest number comes first
abbrev pub falling_cmp : Reverse ℕ → Reverse ℕ → Ordering
falling_cmp a b = nat_cmp b.0 a.0

-- ---- from the other end

pub rising_end : (es : List (Reverse ℕ × Key)) (e : Reverse ℕ × Key) → rising (es ++ e ∷ []) ≡ (e.0.0, e.1) ∷ rising es
rising_end [] e = refl
rising_end (f ∷ fs) e = ap (λ (ps : List (ℕ × Key)). ps ++ (f.0.0, f.1) ∷ []) (rising_end fs e)

pub length_rising : (es : List (Reverse ℕ × Key)) → length (rising es) ≡ length es
length_rising [] = refl
length_rising (e ∷ es) = length-append (rising es) ((e.0.0, e.1) ∷ []) ∙ omega (arith, length_rising es)

all_end : (T : ℕ → Type 0) (ps : List (ℕ × Key)) (p : ℕ × Key) → AllByRecursion (λ q. T q) (keys_of ps) → T p.0 → AllByRecursion (λ q. T q) (keys_of (ps ++ p ∷ []))
all_end T [] p all one = (one, tt)
all_end T (q ∷ qs) p all one = (all.0, all_end T qs p all.1 one)

all_rising : (T : ℕ → Type 0) (es : List (Reverse ℕ × Key)) → AllByRecursion (λ q. T q.0) (keys_of es) → AllByRecursion (λ q. T q) (keys_of (rising es))
all_rising T [] all = tt
all_rising T (e ∷ es) all = all_end T (rising es) (e.0.0, e.1) (all_rising T es all.1) all.0

sorted_end : (ps : List (ℕ × Key)) (p : ℕ × Key) → IsStrictlySortedBy nat_cmp (keys_of ps) → AllByRecursion (λ q. nat_cmp q p.0 ≡ Less) (keys_of ps) → IsStrictlySortedBy nat_cmp (keys_of (ps ++ p ∷ []))
unfolding IsStrictlySortedBy
sorted_end [] p sorted below = (tt, tt)
sorted_end (q ∷ qs) p sorted below = (all_end (λ n. nat_cmp q.0 n ≡ Less) qs p sorted.0 below.0, sorted_end qs p sorted.1 below.1)

pub sorted_rising : (es : List (Reverse ℕ × Key)) → IsStrictlySortedBy falling_cmp (keys_of es) → IsStrictlySortedBy nat_cmp (keys_of (rising es))
unfolding IsStrictlySortedBy
sorted_rising [] sorted = tt
sorted_rising (e ∷ es) sorted = sorted_end (rising es) (e.0.0, e.1) (sorted_rising es sorted.1) (all_rising (λ n. nat_cmp n e.0.0 ≡ Less) es sorted.0)

-- no pairs are numbered
pub none_numbered : (es : List (Reverse ℕ × Key)) (next : ℕ) → es ≡ [] → next ≤ 2 ^ 32 → AreNumbered (rising es) next
unfolding IsStrictlySortedBy
none_numbered es next none most = subst (λ (fs : List (Reverse ℕ × Key)). AreNumbered (rising fs) next) (sym none) (record { rising = tt; below = tt; most = most })

-- ---- a number above all others

pub insert_first : (es : List (Reverse ℕ × Key)) (number : Reverse ℕ) (key : Key) → AllByRecursion (λ p. p.0 < number.0) (rising es) → insert_entry falling_cmp es number key ≡ (number, key) ∷ es
insert_first [] number key below = refl
insert_first (e ∷ es) number key below = rw (sym (nat_cmp_is e.0.0 number.0 Less (last_below number.0 (rising es) (e.0.0, e.1) below))) refl

-- ---- a pair that is looked up, and removed

turned : (a b : ℕ) → is_eq (nat_cmp a b) ≡ is_eq (nat_cmp b a)
turned a b = (eq_by_cmp_equiv nat_cmp_total).symm a b

key_at_end : (ps : List (ℕ × Key)) (number : ℕ) (key : Key) → AllByRecursion (λ p. p.0 < number) ps → key_at (ps ++ (number, key) ∷ []) number ≡ Some key
key_at_end [] number key below = rw (number-same number) refl
key_at_end (p ∷ ps) number key below = rw (sym (nat_cmp_is number p.0 Greater below.0)) (key_at_end ps number key below.1)

key_at_before : (ps : List (ℕ × Key)) (p : ℕ × Key) (number : ℕ) → is_eq (nat_cmp number p.0) ≡ false → key_at (ps ++ p ∷ []) number ≡ key_at ps number
key_at_before [] p number other = rw other refl
key_at_before (q ∷ qs) p number other = by (is_eq (nat_cmp number q.0)) refl (key_at_before qs p number other)
  where
    by : (b : Bool) → is_eq (nat_cmp number q.0) ≡ b → key_at (qs ++ p ∷ []) number ≡ key_at qs number → key_at ((q ∷ qs) ++ p ∷ []) number ≡ key_at (q ∷ qs) number
    by true here rest = rw here refl
    by false apart rest = rw apart rest

remove_before : (ps : List (ℕ × Key)) (p : ℕ × Key) (number : ℕ) → is_eq (nat_cmp number p.0) ≡ false → pairs_without (Some number) (ps ++ p ∷ []) ≡ pairs_without (Some number) ps ++ p ∷ []
remove_before [] p number other = rw other refl
remove_before (q ∷ qs) p number other = by (is_eq (nat_cmp number q.0)) refl (remove_before qs p number other)
  where
    by : (b : Bool) → is_eq (nat_cmp number q.0) ≡ b → pairs_without (Some number) (qs ++ p ∷ []) ≡ pairs_without (Some number) qs ++ p ∷ [] → pairs_without (Some number) ((q ∷ qs) ++ p ∷ []) ≡ pairs_without (Some number) (q ∷ qs) ++ p ∷ []
    by true here rest = rw here refl
    by false apart rest = rw apart (ap (λ (ps : List (ℕ × Key)). q ∷ ps) rest)

pub found_rising : (es : List (Reverse ℕ × Key)) (number : Reverse ℕ) → IsStrictlySortedBy nat_cmp (keys_of (rising es)) → lookup (is_at (falling_cmp number)) es ≡ key_at (rising es) number.0
found_rising [] number sorted = refl
found_rising (e ∷ es) number sorted = by (is_eq (nat_cmp e.0.0 number.0)) refl (found_rising es number (rising_front (rising es) (e.0.0, e.1) sorted))
  where
    by : (b : Bool) → is_eq (nat_cmp e.0.0 number.0) ≡ b → lookup (is_at (falling_cmp number)) es ≡ key_at (rising es) number.0 → lookup (is_at (falling_cmp number)) (e ∷ es) ≡ key_at (rising (e ∷ es)) number.0
    by true here rest =
        let one : e.0.0 ≡ number.0 = one_number e.0.0 number.0 here in
        rw here (sym (ap (λ (n : ℕ). key_at (rising (e ∷ es)) n) (sym one) ∙ key_at_end (rising es) e.0.0 e.1 (below_last (rising es) (e.0.0, e.1) sorted)))
    by false other rest = rw other (rest ∙ sym (key_at_before (rising es) (e.0.0, e.1) number.0 (turned number.0 e.0.0 ∙ other)))

pub removed_rising : (es : List (Reverse ℕ × Key)) (number : Reverse ℕ) → IsStrictlySortedBy nat_cmp (keys_of (rising es)) → rising (remove_entry (is_at (falling_cmp number)) es) ≡ pairs_without (Some number.0) (rising es)
removed_rising [] number sorted = refl
removed_rising (e ∷ es) number sorted = by (is_eq (nat_cmp e.0.0 number.0)) refl (removed_rising es number (rising_front (rising es) (e.0.0, e.1) sorted))
  where
    by : (b : Bool) → is_eq (nat_cmp e.0.0 number.0) ≡ b → rising (remove_entry (is_at (falling_cmp number)) es) ≡ pairs_without (Some number.0) (rising es) → rising (remove_entry (is_at (falling_cmp number)) (e ∷ es)) ≡ pairs_without (Some number.0) (rising (e ∷ es))
    by true here rest =
        let one : e.0.0 ≡ number.0 = one_number e.0.0 number.0 here in
        rw here (sym (ap (λ (n : ℕ). pairs_without (Some n) (rising (e ∷ es))) (sym one) ∙ remove_last (rising es) e.0.0 e.1 (below_last (rising es) (e.0.0, e.1) sorted)))
    by false other rest = rw other (ap (λ (ps : List (ℕ × Key)). ps ++ (e.0.0, e.1) ∷ []) rest ∙ sym (remove_before (rising es) (e.0.0, e.1) number.0 (turned number.0 e.0.0 ∙ other)))

-- ---- the pairs above a number

past-above : (number n : ℕ) → not (is_le (nat_cmp n number)) ≡ nat_lt number n
past-above number n = by (nat_cmp n number) refl
  where
    by : (o : Ordering) → nat_cmp n number ≡ o → not (is_le (nat_cmp n number)) ≡ nat_lt number n
    by Less less = rw less (sym (le-ltb number n (omega (arith, ranked n number Less (sym less)))))
    by Equal same = rw same (sym (le-ltb number n (omega (arith, ranked n number Equal (sym same)))))
    by Greater greater = rw greater (sym (lt-ltb number n (ranked n number Greater (sym greater))))

pub above_rising : (es : List (Reverse ℕ × Key)) (number : ℕ) → rising (filter (λ e. not (is_le (nat_cmp e.0.0 number))) es) ≡ above number (rising es)
above_rising [] number = refl
above_rising (e ∷ es) number = by (nat_lt number e.0.0) refl (above_rising es number)
  where
    last : above number (rising (e ∷ es)) ≡ above number (rising es) ++ above number ((e.0.0, e.1) ∷ [])
    last = filter-append (λ p. nat_lt number p.0) (rising es) ((e.0.0, e.1) ∷ [])

    by : (b : Bool) → nat_lt number e.0.0 ≡ b → rising (filter (λ f. not (is_le (nat_cmp f.0.0 number))) es) ≡ above number (rising es) → rising (filter (λ f. not (is_le (nat_cmp f.0.0 number))) (e ∷ es)) ≡ above number (rising (e ∷ es))
    by true past rest = rw (past-above number e.0.0, last, past) (ap (λ (ps : List (ℕ × Key)). ps ++ (e.0.0, e.1) ∷ []) rest)
    by false not_past rest = rw (past-above number e.0.0, last, not_past) (rest ∙ sym (append-nil (above number (rising es))))

-- ---- the pairs that are kept

pub filter_rising : (p : ℕ × Key → Bool) (es : List (Reverse ℕ × Key)) → rising (filter (λ e. p (e.0.0, e.1)) es) ≡ filter p (rising es)
filter_rising p [] = refl
filter_rising p (e ∷ es) = by (p (e.0.0, e.1)) refl (filter_rising p es)
  where
    last : filter p (rising (e ∷ es)) ≡ filter p (rising es) ++ filter p ((e.0.0, e.1) ∷ [])
    last = filter-append p (rising es) ((e.0.0, e.1) ∷ [])

    by : (b : Bool) → p (e.0.0, e.1) ≡ b → rising (filter (λ f. p (f.0.0, f.1)) es) ≡ filter p (rising es) → rising (filter (λ f. p (f.0.0, f.1)) (e ∷ es)) ≡ filter p (rising (e ∷ es))
    by true keeps rest = rw (last, keeps) (ap (λ (ps : List (ℕ × Key)). ps ++ (e.0.0, e.1) ∷ []) rest)
    by false drops rest = rw (last, drops) (rest ∙ sym (append-nil (filter p (rising es))))
