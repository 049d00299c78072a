-- Rows in a list in ascending order of key: what is found, put and removed at an index.
use Rattle.std.proofs.Common.{◌≡◌, ℕ, zero, suc, ◌+◌, ◌-◌, ◌<◌, ◌≤◌, Bool, true, false, List, [], ◌∷◌, ◌++◌, length, take, drop, get_or, set, slice_get, Option, Some, None, IfSome, refl, sym, ap, ◌∙◌, subst, arith, append_assoc}
use Rattle.std.specs.Prelude.{filter}
use Rattle.std.specs.List.{AllByRecursion, insert, remove}
use Rattle.std.specs.List.Sorted.{IsStrictlySortedBy}
use Rattle.std.specs.Map.{keys_of}
use Rattle.std.specs.BTreeMap.{insert_entry}
use Rattle.std.specs.declared.cmp.Ordering.{Ordering}
use Rattle.std.specs.declared.cmp.Ordering.TheVariants.{Less, Equal, Greater}
use Rattle.std.specs.Ordering.{is_eq, ordering_reverse}
use Rattle.std.proofs.lemmas.Bool.{cond-true}
use Rattle.std.proofs.lemmas.List.{drop_more, length-append, take_more}
use Rattle.std.proofs.lemmas.Option.{slice_get_read}
use Rattle.table_types.specs.declared.key.Key.{Key}
use Rattle.table_types.specs.Keys.{key_cmp}
use Rattle.table_types.specs.KeyOrder.{key_cmp_total}
use Rattle.table_types.specs.Rows.{StoredRow}
use Rattle.table_types.proofs.EqualKeysAreOne.{exact_keys}
use Rattle.table_rows.specs.Rows.{row_at, rows_without}
use Rattle.table_rows.specs.Places.{IsBefore, IsPast, IsThere}

same_entry : (a b : Key × StoredRow) → ◌≡◌ {A = Option (Key × StoredRow)} (Some a) (Some b) → a ≡ b
same_entry a b e = cc

all_end : {A : Type 0} (P : A → Type 0) (x : A) (xs : List A) → AllByRecursion P xs → P x → AllByRecursion P (xs ++ x ∷ [])
all_end P x [] all last = (last, tt)
all_end P x (y ∷ ys) (first, rest) last = (first, all_end P x ys rest last)

-- ---- the index of a key

pub past_more : (key : Key) (es : List (Key × StoredRow)) (i : ℕ) (e : Key × StoredRow) → i < length es → Greater ≡ key_cmp key (get_or es i e).0 → IsPast key (take i es) → IsPast key (take (i + 1) es)
past_more key es i e within above past = rw (take_more es i e within) (all_end (λ f. key_cmp key f.0 ≡ Greater) (get_or es i e) (take i es) past (sym above))

pub read : (es : List (Key × StoredRow)) (i : ℕ) (e : Key × StoredRow) → i < length es → e ≡ get_or es i e → slice_get es i ≡ Some e
read es i e within is = slice_get_read es (length es) i e refl within is

-- the entry at the index `i`
pub there_same : (key : Key) (es : List (Key × StoredRow)) (i : ℕ) (e : Key × StoredRow) → IsThere key es i → slice_get es i ≡ Some e → key_cmp key e.0 ≡ Equal
there_same key es i e there at = subst (λ (o : Option (Key × StoredRow)). IfSome o (λ f. key_cmp key f.0 ≡ Equal)) at there.2

module _ (key : Key) where
  pub found : (es : List (Key × StoredRow)) (i : ℕ) (e : Key × StoredRow) → slice_get es i ≡ Some e → key_cmp key e.0 ≡ Equal → IsPast key (take i es) → row_at key es ≡ Some e.1
  found [] i e at same past = absurd cc
  found (f ∷ fs) zero e at same past = rw (same_entry f e at, same) refl
  found (f ∷ fs) (suc i) e at same past = rw past.0 (found fs i e at same past.1)

  pub put_there : (es : List (Key × StoredRow)) (i : ℕ) (e : Key × StoredRow) (row : StoredRow) → slice_get es i ≡ Some e → key_cmp key e.0 ≡ Equal → IsPast key (take i es) → set es i (key, row) ≡ insert_entry key_cmp es key row
  put_there [] i e row at same past = absurd cc
  put_there (f ∷ fs) zero e row at same past =
      let here : key_cmp key f.0 ≡ Equal = rw (same_entry f e at) same in
      rw here (ap (λ (k : Key). (k, row) ∷ fs) (exact_keys key f.0 here))
  put_there (f ∷ fs) (suc i) e row at same past = rw past.0 (ap (λ (gs : List (Key × StoredRow)). f ∷ gs) (put_there fs i e row at same past.1))

  pub removed_there : (es : List (Key × StoredRow)) (i : ℕ) (e : Key × StoredRow) → slice_get es i ≡ Some e → key_cmp key e.0 ≡ Equal → IsPast key (take i es) → remove es i ≡ rows_without key es
  removed_there [] i e at same past = absurd cc
  removed_there (f ∷ fs) zero e at same past = rw (same_entry f e at, same) refl
  removed_there (f ∷ fs) (suc i) e at same past = rw past.0 (ap (λ (gs : List (Key × StoredRow)). f ∷ gs) (removed_there fs i e at same past.1))

  none_below : (es : List (Key × StoredRow)) → AllByRecursion (λ q. key_cmp key q ≡ Less) (keys_of es) → row_at key es ≡ None
  none_below [] below = refl
  none_below (e ∷ es) below = rw below.0 (none_below es below.1)

  all_below : (b : Key) (ks : List Key) → key_cmp key b ≡ Less → AllByRecursion (λ q. key_cmp b q ≡ Less) ks → AllByRecursion (λ q. key_cmp key q ≡ Less) ks
  all_below b [] less above = tt
  all_below b (k ∷ ks) less above = (key_cmp_total.trans key b k less above.0, all_below b ks less above.1)

  pub absent : (es : List (Key × StoredRow)) (i : ℕ) → IsStrictlySortedBy key_cmp (keys_of es) → IsPast key (take i es) → IsBefore key (drop i es) → row_at key es ≡ None
  unfolding IsStrictlySortedBy
  absent [] i rising past before = refl
  absent (e ∷ es) zero rising past before = rw before (none_below es (all_below e.0 (keys_of es) before rising.0))
  absent (e ∷ es) (suc i) rising past before = rw past.0 (absent es i rising.1 past.1 before)

  pub put_gap : (es : List (Key × StoredRow)) (i : ℕ) (row : StoredRow) → i ≤ length es → IsPast key (take i es) → IsBefore key (drop i es) → insert es i (key, row) ≡ insert_entry key_cmp es key row
  put_gap [] zero row within past before = refl
  put_gap [] (suc i) row within past before = absurd (omega (arith, within))
  put_gap (e ∷ es) zero row within past before = rw before refl
  put_gap (e ∷ es) (suc i) row within past before = rw past.0 (ap (λ (gs : List (Key × StoredRow)). e ∷ gs) (put_gap es i row (omega (arith, within)) past.1 before))

  pub without_none : (es : List (Key × StoredRow)) → row_at key es ≡ None → es ≡ rows_without key es
  without_none [] none = refl
  without_none (e ∷ es) none = by (is_eq (key_cmp key e.0)) refl (λ further. without_none es further)
    where
      some_none : (row : StoredRow) → ◌≡◌ {A = Option StoredRow} (Some row) None → ⊥
      some_none row e = cc

      by : (b : Bool) → is_eq (key_cmp key e.0) ≡ b → (row_at key es ≡ None → es ≡ rows_without key es) → e ∷ es ≡ rows_without key (e ∷ es)
      by true same rest = absurd (some_none e.1 (sym (rw same refl) ∙ none))
      by false other rest = rw other (ap (λ (gs : List (Key × StoredRow)). e ∷ gs) (rest (sym (rw other refl) ∙ none)))

-- ---- keys stay in ascending order

pub rising_none : (es : List (Key × StoredRow)) → es ≡ [] → IsStrictlySortedBy key_cmp (keys_of es)
unfolding IsStrictlySortedBy
rising_none es none = rw none tt

above_insert : (least key : Key) (row : StoredRow) (es : List (Key × StoredRow)) → key_cmp least key ≡ Less → AllByRecursion (λ q. key_cmp least q ≡ Less) (keys_of es) → AllByRecursion (λ q. key_cmp least q ≡ Less) (keys_of (insert_entry key_cmp es key row))
above_insert least key row [] less above = (less, tt)
above_insert least key row (e ∷ es) less above = by (key_cmp key e.0) refl (above_insert least key row es less above.1)
  where
    by : (o : Ordering) → key_cmp key e.0 ≡ o → AllByRecursion (λ q. key_cmp least q ≡ Less) (keys_of (insert_entry key_cmp es key row)) → AllByRecursion (λ q. key_cmp least q ≡ Less) (keys_of (insert_entry key_cmp (e ∷ es) key row))
    by Less is rest = rw is (less, above)
    by Equal is rest = rw is above
    by Greater is rest = rw is (above.0, rest)

pub rising_insert : (es : List (Key × StoredRow)) (key : Key) (row : StoredRow) → IsStrictlySortedBy key_cmp (keys_of es) → IsStrictlySortedBy key_cmp (keys_of (insert_entry key_cmp es key row))
unfolding IsStrictlySortedBy
rising_insert [] key row rising = (tt, tt)
rising_insert (e ∷ es) key row rising = by (key_cmp key e.0) refl (rising_insert es key row rising.1)
  where
    by : (o : Ordering) → key_cmp key e.0 ≡ o → IsStrictlySortedBy key_cmp (keys_of (insert_entry key_cmp es key row)) → IsStrictlySortedBy key_cmp (keys_of (insert_entry key_cmp (e ∷ es) key row))
    by Less is rest = rw is ((is, all_below key e.0 (keys_of es) is rising.0), rising)
    by Equal is rest = rw is rising
    by Greater is rest = rw is (above_insert e.0 key row es (key_cmp_total.antisymm e.0 key ∙ ap ordering_reverse is) rising.0, rest)

above_taken : (least key : Key) (es : List (Key × StoredRow)) → AllByRecursion (λ q. key_cmp least q ≡ Less) (keys_of es) → AllByRecursion (λ q. key_cmp least q ≡ Less) (keys_of (rows_without key es))
above_taken least key [] above = tt
above_taken least key (e ∷ es) above = by (is_eq (key_cmp key e.0)) refl (above_taken least key es above.1)
  where
    by : (b : Bool) → is_eq (key_cmp key e.0) ≡ b → AllByRecursion (λ q. key_cmp least q ≡ Less) (keys_of (rows_without key es)) → AllByRecursion (λ q. key_cmp least q ≡ Less) (keys_of (rows_without key (e ∷ es)))
    by true is rest = rw is above.1
    by false is rest = rw is (above.0, rest)

pub rising_taken : (es : List (Key × StoredRow)) (key : Key) → IsStrictlySortedBy key_cmp (keys_of es) → IsStrictlySortedBy key_cmp (keys_of (rows_without key es))
unfolding IsStrictlySortedBy
rising_taken [] key rising = tt
rising_taken (e ∷ es) key rising = by (is_eq (key_cmp key e.0)) refl (rising_taken es key rising.1)
  where
    by : (b : Bool) → is_eq (key_cmp key e.0) ≡ b → IsStrictlySortedBy key_cmp (keys_of (rows_without key es)) → IsStrictlySortedBy key_cmp (keys_of (rows_without key (e ∷ es)))
    by true is rest = rw is rising.1
    by false is rest = rw is (above_taken e.0 key es rising.0, rest)

-- ---- the rows that pass a test, listed one after another

module _ (p : Key × StoredRow → Bool) (rows done all : List (Key × StoredRow)) (most i : ℕ) (e : Key × StoredRow) (within : i < length rows) (is : e ≡ get_or rows i e) where
  next_row : drop i rows ≡ e ∷ drop (i + 1) rows
  next_row = drop_more rows i e within ∙ ap (λ (x : Key × StoredRow). x ∷ drop (i + 1) rows) (sym is)

  pub one_listed : (more : List (Key × StoredRow)) → p e ≡ true → more ≡ done ++ e ∷ [] → length done < most → done ++ take (most - length done) (filter p (drop i rows)) ≡ all
      → more ++ take (most - length more) (filter p (drop (i + 1) rows)) ≡ all
  one_listed more passes longer below before =
      let rest : List (Key × StoredRow) = filter p (drop (i + 1) rows) in
      let sizes : length (done ++ e ∷ []) ≡ length done + 1 = length-append done (e ∷ []) in
      let left : suc (most - length (done ++ e ∷ [])) ≡ most - length done = omega arith in
      ap (λ (l : List (Key × StoredRow)). l ++ take (most - length l) rest) longer
      ∙ append_assoc done (e ∷ []) (take (most - length (done ++ e ∷ [])) rest)
      ∙ ap (λ (n : ℕ). done ++ take n (e ∷ rest)) left
      ∙ ap (λ (l : List (Key × StoredRow)). done ++ take (most - length done) l) (sym (ap (filter p) next_row ∙ cond-true (p e) (e ∷ rest) rest passes))
      ∙ before
