-- The ends of rows whose numbers differ: what is put and removed, and the first of them.
use Rattle.std.proofs.Common.{◌≡◌, ℕ, ◌+◌, ◌<◌, ◌≤◌, ◌^◌, ◌||◌, Bool, true, false, List, [], ◌∷◌, ◌++◌, Option, Some, None, IfSome, refl, sym, ap, ◌∙◌, arith}
use Rattle.std.specs.Prelude.{◌-◌, cond, filter, nat_lt}
use Rattle.std.specs.List.{AllByRecursion}
use Rattle.std.specs.declared.cmp.Ordering.{Ordering}
use Rattle.std.specs.declared.cmp.Ordering.TheVariants.{Less, Equal, Greater}
use Rattle.std.specs.Ordering.{is_eq, is_gt, is_lt, ordering_then}
use Rattle.table_types.specs.declared.key.Key.{Key}
use Rattle.table_types.specs.Keys.{key_cmp}
use Rattle.table_types.specs.Rows.{StoredRow}
use Rattle.table_types.proofs.EqualKeysAreOne.{key_cmp-same, one_key}
use Rattle.table_rows.specs.declared.row_end.RowEnd.{RowEnd}
use Rattle.table_rows.specs.Endings.{are_same, end_or_last, ending_cmp, ending_of, is_among, later_cmp}
use Rattle.table_rows.specs.Rows.{AreLive, IsFirstToEnd, end_cmp, is_live, row_at}
use Rattle.table_rows.proofs.EndingLaws.{end_is, ending-same, ends_no_later, lives, not_before, one_ending}
use Rattle.table_stock.specs.NumberedRows.{KeysDiffer, NumbersRise, without}
use Rattle.table_stock.specs.Shelves.{AreEnds, PutsEnd, has_end, is_among_without}
use Rattle.table_stock.proofs.RowsLaws.{all_end, all_filter, all_so, rise_each}
use Rattle.table_stock.proofs.StockLaws.{all_found, found_in, key-same, same_row}
use Rattle.table_stock.proofs.StockSteps.{first_from, without_absent}

true_or_false : (b : Bool) → b ≡ true → b ≡ false → ⊥
true_or_false b holds fails = let both : true ≡ false = sym holds ∙ fails in cc

-- ---- rows and ends

pub ends_apart : (a b : RowEnd) → (a.number ≡ b.number → ⊥) → are_same a b ≡ false
ends_apart a b other = by (are_same a b) refl
  where
    by : (c : Bool) → are_same a b ≡ c → are_same a b ≡ false
    by true same = absurd (other (ap (λ (q : RowEnd). q.number) (one_ending a b same)))
    by false apart = apart

-- no row has the number of this end
none_ends : (es : List (Key × StoredRow)) (end : RowEnd) → AllByRecursion (λ (e : Key × StoredRow). e.1.number ≡ end.number → ⊥) es → has_end es end ≡ false
none_ends [] end other = refl
none_ends (e ∷ es) end (first, rest) = rw (ends_apart (ending_of e.1) end first) (none_ends es end rest)

-- a row that is found has its end
pub end_found : (es : List (Key × StoredRow)) (k : Key) (row : StoredRow) → row_at k es ≡ Some row → has_end es (ending_of row) ≡ true
end_found [] k row at = absurd cc
end_found (e ∷ es) k row at = by (is_eq (key_cmp k e.0)) refl (λ there. end_found es k row there)
  where
    or_true : (b c : Bool) → c ≡ true → (b || c) ≡ true
    or_true true c holds = refl
    or_true false c holds = holds

    by : (b : Bool) → is_eq (key_cmp k e.0) ≡ b → (row_at k es ≡ Some row → has_end es (ending_of row) ≡ true) → has_end (e ∷ es) (ending_of row) ≡ true
    by true same further =
        let stored : e.1 ≡ row = same_row e.1 row (sym (rw same refl) ∙ at) in
        let here : are_same (ending_of e.1) (ending_of row) ≡ true = ap (λ (r : StoredRow). are_same (ending_of r) (ending_of row)) stored ∙ ending-same (ending_of row) in
        rw here refl
    by false other further = or_true (are_same (ending_of e.1) (ending_of row)) (has_end es (ending_of row)) (further (sym (rw other refl) ∙ at))

-- an end of a row is that of a row that is found
pub ended_by : (es : List (Key × StoredRow)) → KeysDiffer es → (end : RowEnd) → has_end es end ≡ true → (k : Key) × (row : StoredRow) × (row_at k es ≡ Some row) × (end ≡ ending_of row)
ended_by [] differ end has = absurd cc
ended_by (e ∷ es) (none, differ) end has = by (are_same (ending_of e.1) end) refl (λ rest. ended_by es differ end rest)
  where
    further : (k : Key) (row : StoredRow) → row_at k es ≡ Some row → row_at k (e ∷ es) ≡ Some row
    further k row at = by (is_eq (key_cmp k e.0)) refl
      where
        gone : ◌≡◌ {A = Option StoredRow} None (Some row) → ⊥
        gone same = cc

        by : (b : Bool) → is_eq (key_cmp k e.0) ≡ b → row_at k (e ∷ es) ≡ Some row
        by true same = absurd (gone (sym none ∙ ap (λ (q : Key). row_at q es) (sym (one_key k e.0 same)) ∙ at))
        by false other = rw other at

    by : (b : Bool) → are_same (ending_of e.1) end ≡ b → (has_end es end ≡ true → (k : Key) × (row : StoredRow) × (row_at k es ≡ Some row) × (end ≡ ending_of row)) → (k : Key) × (row : StoredRow) × (row_at k (e ∷ es) ≡ Some row) × (end ≡ ending_of row)
    by true same rest = (e.0, e.1, rw (key-same e.0) refl, sym (one_ending (ending_of e.1) end same))
    by false other rest =
        let found = rest (sym (rw other refl) ∙ has) in
        (found.0, found.1, further found.0 found.1 found.2, found.3)

-- the end of a key's row goes with that row
end_gone : (least next : ℕ) (es : List (Key × StoredRow)) → NumbersRise least next es → KeysDiffer es → (key : Key) (row : StoredRow) → row_at key es ≡ Some row → (end : RowEnd) → has_end (without key es) end ≡ cond (are_same (ending_of row) end) false (has_end es end)
end_gone least next [] rise differ key row at end = absurd cc
end_gone least next (e ∷ es) (first, rest) (none, differ) key row at end = by (is_eq (key_cmp key e.0)) refl (are_same (ending_of row) end) refl (λ there. end_gone (e.1.number + 1) next es rest differ key row there end)
  where
    above : AllByRecursion (λ (f : Key × StoredRow). (e.1.number + 1 ≤ f.1.number) × (f.1.number < next)) es
    above = rise_each (e.1.number + 1) next es rest

    number_of_end : are_same (ending_of row) end ≡ true → row.number ≡ end.number
    number_of_end same = ap (λ (q : RowEnd). q.number) (one_ending (ending_of row) end same)

    by : (a : Bool) → is_eq (key_cmp key e.0) ≡ a → (b : Bool) → are_same (ending_of row) end ≡ b → (row_at key es ≡ Some row → has_end (without key es) end ≡ cond (are_same (ending_of row) end) false (has_end es end))
        → has_end (without key (e ∷ es)) end ≡ cond (are_same (ending_of row) end) false (has_end (e ∷ es) end)
    by true here b is further = rw here (ap (λ (fs : List (Key × StoredRow)). has_end fs end) (without_absent key es gone) ∙ only b is)
      where
        stored : e.1 ≡ row
        stored = same_row e.1 row (sym (rw here refl) ∙ at)

        gone : row_at key es ≡ None
        gone = ap (λ (k : Key). row_at k es) (one_key key e.0 here) ∙ none

        only : (c : Bool) → are_same (ending_of row) end ≡ c → has_end es end ≡ cond (are_same (ending_of row) end) false (has_end (e ∷ es) end)
        only true same =
            let number : e.1.number ≡ end.number = ap (λ (r : StoredRow). r.number) stored ∙ number_of_end same in
            rw same (none_ends es end (all_so (λ (f : Key × StoredRow). (e.1.number + 1 ≤ f.1.number) × (f.1.number < next)) (λ (f : Key × StoredRow). f.1.number ≡ end.number → ⊥) (λ f (low, high) is_same. omega (arith, low, is_same, number)) es above))
        only false other =
            let front : are_same (ending_of e.1) end ≡ false = ap (λ (r : StoredRow). are_same (ending_of r) end) stored ∙ other in
            rw (other, front) refl
    by false apart b is further = rw apart (only b is)
      where
        there : row_at key es ≡ Some row
        there = sym (rw apart refl) ∙ at

        only : (c : Bool) → are_same (ending_of row) end ≡ c → has_end (e ∷ without key es) end ≡ cond (are_same (ending_of row) end) false (has_end (e ∷ es) end)
        only true same =
            let (over, below) = found_in es (λ (f : Key × StoredRow). (e.1.number + 1 ≤ f.1.number) × (f.1.number < next)) above key row there in
            let number : row.number ≡ end.number = number_of_end same in
            let front : are_same (ending_of e.1) end ≡ false = ends_apart (ending_of e.1) end (λ is_same. omega (arith, over, number, is_same)) in
            rw (same, front) (further there ∙ rw same refl)
        only false other = rw other (ap (λ (c : Bool). are_same (ending_of e.1) end || c) (further there ∙ rw other refl))

-- the end of a row that is appended
end_added : (es : List (Key × StoredRow)) (key : Key) (row : StoredRow) (end : RowEnd) → has_end (es ++ (key, row) ∷ []) end ≡ cond (are_same (ending_of row) end) true (has_end es end)
end_added [] key row end = by (are_same (ending_of row) end)
  where
    by : (b : Bool) → (b || false) ≡ cond b true false
    by true = refl
    by false = refl
end_added (e ∷ es) key row end = ap (λ (c : Bool). are_same (ending_of e.1) end || c) (end_added es key row end) ∙ by (are_same (ending_of e.1) end) (are_same (ending_of row) end)
  where
    by : (a b : Bool) → (a || cond b true (has_end es end)) ≡ cond b true (a || has_end es end)
    by true true = refl
    by true false = refl
    by false true = refl
    by false false = refl

-- ---- what is put and removed

module _ (rows : List (Key × StoredRow)) (next : ℕ) (rise : NumbersRise 1 next rows) (differ : KeysDiffer rows) (ends : List RowEnd) (are : AreEnds rows ends) where
  numbers_below : AllByRecursion (λ (e : Key × StoredRow). (1 ≤ e.1.number) × (e.1.number < next)) rows
  numbers_below = rise_each 1 next rows rise

  -- no row has the next number yet
  pub new_end : (row : StoredRow) → row.number ≡ next → is_among ends (ending_of row) ≡ false
  new_end row is = are.exactly (ending_of row) ∙ none_ends rows (ending_of row) (all_so (λ (e : Key × StoredRow). (1 ≤ e.1.number) × (e.1.number < next)) (λ (e : Key × StoredRow). e.1.number ≡ row.number → ⊥) (λ e (low, high) same. omega (arith, high, same, is)) rows numbers_below)

  left_ends : (key : Key) (row : Option StoredRow) → row ≡ row_at key rows → (end : RowEnd) → is_among_without row (has_end rows) end ≡ has_end (without key rows) end
  left_ends key (Some row) at end = sym (end_gone 1 next rows rise differ key row (sym at) end)
  left_ends key None none end = ap (λ (fs : List (Key × StoredRow)). has_end fs end) (sym (without_absent key rows (sym none)))

  without_alike : (row : Option StoredRow) (f g : RowEnd → Bool) → ((end : RowEnd) → f end ≡ g end) → (end : RowEnd) → is_among_without row f end ≡ is_among_without row g end
  without_alike None f g alike end = alike end
  without_alike (Some row) f g alike end = ap (λ (b : Bool). cond (are_same (ending_of row) end) false b) (alike end)

  -- the row of a key was removed
  pub taken_ends : (key : Key) (row : Option StoredRow) → row ≡ row_at key rows → (after : List RowEnd) → ((end : RowEnd) → is_among after end ≡ is_among_without row (is_among ends) end) → AreEnds (without key rows) after
  taken_ends key row at after gone = record {
    exactly = λ end. gone end ∙ without_alike row (is_among ends) (has_end rows) are.exactly end ∙ left_ends key row at end;
    within = all_filter _ _ rows are.within;
  }

  -- the row of a key was stored
  module _ (key : Key) (row : StoredRow) (is : row.number ≡ next) (within : IfSome row.ends (λ end. end < 2 ^ 63)) (before : Option StoredRow) (at : before ≡ row_at key rows) where
    -- the older end isn't the new one
    swapped : (o : Option StoredRow) → o ≡ row_at key rows → (end : RowEnd) → is_among_without o (λ q. cond (are_same (ending_of row) q) true (has_end rows q)) end ≡ cond (are_same (ending_of row) end) true (is_among_without o (has_end rows) end)
    swapped None none end = refl
    swapped (Some old) stood end = by (are_same (ending_of old) end) refl (are_same (ending_of row) end) refl
      where
        by : (a : Bool) → are_same (ending_of old) end ≡ a → (b : Bool) → are_same (ending_of row) end ≡ b
            → cond (are_same (ending_of old) end) false (cond (are_same (ending_of row) end) true (has_end rows end)) ≡ cond (are_same (ending_of row) end) true (cond (are_same (ending_of old) end) false (has_end rows end))
        by true old_here true new_here =
            let (low, high) = found_in rows (λ (e : Key × StoredRow). (1 ≤ e.1.number) × (e.1.number < next)) numbers_below key old (sym stood) in
            let one : old.number ≡ row.number = ap (λ (q : RowEnd). q.number) (one_ending (ending_of old) end old_here ∙ sym (one_ending (ending_of row) end new_here)) in
            absurd (omega (arith, high, one, is))
        by true old_here false apart = rw (old_here, apart) refl
        by false gone true new_here = rw (gone, new_here) refl
        by false gone false apart = rw (gone, apart) refl

    pub put_ends : (after : List RowEnd) → PutsEnd before row ends after → AreEnds (without key rows ++ (key, row) ∷ []) after
    put_ends after put = record {
      exactly = λ end.
          put end
          ∙ without_alike before (λ q. cond (are_same (ending_of row) q) true (is_among ends q)) (λ q. cond (are_same (ending_of row) q) true (has_end rows q)) (λ q. ap (λ (b : Bool). cond (are_same (ending_of row) q) true b) (are.exactly q)) end
          ∙ swapped before at end
          ∙ ap (λ (b : Bool). cond (are_same (ending_of row) end) true b) (left_ends key before at end)
          ∙ sym (end_added (without key rows) key row end);
      within = all_end _ (key, row) (without key rows) (all_filter _ _ rows are.within) within;
    }

  -- ---- the first to end

  pub no_ends : ends ≡ [] → rows ≡ []
  no_ends none = by rows (λ end. sym (are.exactly end) ∙ ap (λ (es : List RowEnd). is_among es end) none)
    where
      by : (es : List (Key × StoredRow)) → ((end : RowEnd) → has_end es end ≡ false) → es ≡ []
      by [] without_end = refl
      by (e ∷ es) without_end =
          let here : has_end (e ∷ es) (ending_of e.1) ≡ true = rw (ending-same (ending_of e.1)) refl in
          absurd (true_or_false (has_end (e ∷ es) (ending_of e.1)) here (without_end (ending_of e.1)))

  module _ (first : RowEnd) (member : is_among ends first ≡ true) where
    pub first_row : (key : Key) × (row : StoredRow) × (row_at key rows ≡ Some row) × (first ≡ ending_of row)
    first_row = ended_by rows differ first (sym (are.exactly first) ∙ member)

    module _ (greatest : (end : RowEnd) → is_among ends end ≡ true → is_lt (later_cmp first end) ≡ false) where
      not_greater : (k : Key) (other : StoredRow) → row_at k rows ≡ Some other → is_lt (later_cmp first (ending_of other)) ≡ false
      not_greater k other there = greatest (ending_of other) (are.exactly (ending_of other) ∙ end_found rows k other there)

      -- no row comes before it
      least : (k : Key) (other : StoredRow) → row_at k rows ≡ Some other → is_gt (ending_cmp first (ending_of other)) ≡ false
      least k other there = not_before first (ending_of other) (not_greater k other there)

      pub first_of_rows : IsFirstToEnd rows first_row.0
      first_of_rows = (first_row.1, first_row.2, all_found rows differ (λ e. is_gt (end_cmp (first_row.0, first_row.1) e) ≡ false) after)
        where
          -- rows that have the same number have the same key
          one : (k : Key) (other : StoredRow) → row_at k rows ≡ Some other → first_row.1.number ≡ other.number → first_row.0 ≡ k
          one k other there same =
              let (mine, own) = first_from 1 next rows rise first_row.0 first_row.1 (omega arith) first_row.2 in
              let (others, its) = first_from 1 next rows rise k other (omega arith) there in
              same_first (first_row.0, first_row.1) (k, other) mine others (sym own ∙ ap (λ (n : ℕ). filter (λ e. nat_lt (n - 1) e.1.number) rows) same ∙ its)
            where
              same_first : (a b : Key × StoredRow) (xs ys : List (Key × StoredRow)) → a ∷ xs ≡ b ∷ ys → a.0 ≡ b.0
              same_first a b xs ys e = cc

          after : (k : Key) (other : StoredRow) → row_at k rows ≡ Some other → is_gt (end_cmp (first_row.0, first_row.1) (k, other)) ≡ false
          after k other there = ap is_gt (end_is first_row.0 first_row.1 k other (found_in rows (λ e. IfSome e.1.ends (λ end. end < 2 ^ 63)) are.within first_row.0 first_row.1 first_row.2) (found_in rows (λ e. IfSome e.1.ends (λ end. end < 2 ^ 63)) are.within k other there)) ∙ by (ending_cmp (ending_of first_row.1) (ending_of other)) refl
            where
              by : (o : Ordering) → ending_cmp (ending_of first_row.1) (ending_of other) ≡ o → is_gt (ordering_then (ending_cmp (ending_of first_row.1) (ending_of other)) (key_cmp first_row.0 k)) ≡ false
              by Less is_less = rw is_less refl
              by Equal is_same = rw (is_same, one k other there (ap (λ (q : RowEnd). q.number) (sym (one_ending (ending_of other) (ending_of first_row.1) (ap is_eq is_same)))), key_cmp-same k) refl
              by Greater is_greater = absurd (true_or_false (is_gt (ending_cmp first (ending_of other))) (ap (λ (q : RowEnd). is_gt (ending_cmp q (ending_of other))) first_row.3 ∙ ap is_gt is_greater) (least k other there))

      pub all_live_before : (now : ℕ) → now < first.end → AreLive now rows
      all_live_before now later = all_found rows differ (λ e. is_live now e.1 ≡ true) (λ k other there.
          let at_most : first.end ≤ end_or_last other.ends = ends_no_later first (ending_of other) (not_greater k other there) in
          lives now other (omega (arith, at_most, later)))
