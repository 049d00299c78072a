-- A sound table replies to every event that it doesn't refuse.
use Rattle.std.proofs.Common.{◌≡◌, ℕ, ◌+◌, ◌<◌, ◌≤◌, Bool, true, false, ◌||◌, List, [], ◌∷◌, length, Option, Some, None, refl, sym, ap, subst, ◌∙◌, arith, inl, inr, true≢false}
use Rattle.std.specs.Prelude.{MatchBool, nat_lt}
use Rattle.std.specs.List.{AllByRecursion}
use Rattle.std.specs.Cmp.{nat_cmp_is}
use Rattle.std.specs.Ordering.{is_eq, is_gt, nat_cmp, ordering_reverse, ordering_then}
use Rattle.std.specs.declared.cmp.Ordering.{Ordering}
use Rattle.std.specs.declared.cmp.Ordering.TheVariants.{Less, Equal, Greater}
use Rattle.std.proofs.lemmas.Bool.{cases_Bool, cond-true, cond-false, lt-ltb, ltb-true, ltb-false}
use Rattle.table_types.specs.declared.key.Key.{Key}
use Rattle.table_types.specs.Keys.{key_cmp}
use Rattle.table_types.specs.Rows.{StoredRow}
use Rattle.table_types.proofs.EqualKeysAreOne.{key_cmp-same, one_key}
use Rattle.table_rows.specs.Rows.{IsFirstToEnd, end_cmp, ends_cmp, row_at}
use Rattle.table_cell.specs.declared.events.CellEvent.{CellEvent}
use Rattle.table_cell.specs.declared.events.CellEvent.TheVariants as events
use Rattle.table_cell.specs.declared.events.CellReply.{CellReply}
use Rattle.table_cell.specs.Machine.{IsGranted, Leaves, Step, TableState, has_room, has_row, without}
use Rattle.table_cell.specs.Soundness.{IsSound, KeysDiffer, NumbersRise}
use Rattle.table_stock.proofs.RowsLaws.{rise_each, some_none}
use Rattle.table_cell.proofs.OneStep.{ends_flip}
use Rattle.table_cell.proofs.LiveLaws.{no_later}

-- ---- ends

less_is : (a b : ℕ) → a < b → nat_cmp a b ≡ Less
less_is a b less = sym (nat_cmp_is a b Less less)

same_is : (a : ℕ) → nat_cmp a a ≡ Equal
same_is a = sym (nat_cmp_is a a Equal refl)

not_later : (a b : ℕ) → a ≤ b → is_gt (nat_cmp a b) ≡ false
not_later a b order = elim (cases_Bool (nat_lt a b)) [
  | inl less ↦ ap is_gt (less_is a b (ltb-true a b less))
  | inr other ↦
      let bound = ltb-false a b other in
      let same : a ≡ b = omega arith in
      ap is_gt (sym (nat_cmp_is a b Equal same))
]

no_later_than : (a b : ℕ) → is_gt (nat_cmp a b) ≡ false → a ≤ b
no_later_than a b order = no_later a b Equal (by (nat_cmp a b) order)
  where
    by : (o : Ordering) → is_gt o ≡ false → is_gt (ordering_then o Equal) ≡ false
    by Less is = refl
    by Equal is = refl
    by Greater is = is

-- the order of ends is transitive
ends_then : (a b c : Option ℕ) → is_gt (ends_cmp a b) ≡ false → is_gt (ends_cmp b c) ≡ false → is_gt (ends_cmp a c) ≡ false
ends_then None None None one other = refl
ends_then None None (Some c) one other = absurd (true≢false other)
ends_then None (Some b) c one other = absurd (true≢false one)
ends_then (Some a) b None one other = refl
ends_then (Some a) None (Some c) one other = absurd (true≢false other)
ends_then (Some a) (Some b) (Some c) one other =
    let first = no_later_than a b one in
    let second = no_later_than b c other in
    not_later a c (omega arith)

ends_same : (a : Option ℕ) → is_gt (ends_cmp a a) ≡ false
ends_same None = refl
ends_same (Some a) = ap is_gt (same_is a)

-- ---- rows

-- a row that ends no later and has a smaller number comes first
comes_first : (a b : Key × StoredRow) → is_gt (ends_cmp a.1.ends b.1.ends) ≡ false → a.1.number < b.1.number → is_gt (end_cmp a b) ≡ false
comes_first a b order less = by (ends_cmp a.1.ends b.1.ends) order
  where
    by : (o : Ordering) → is_gt o ≡ false → is_gt (ordering_then o (ordering_then (nat_cmp a.1.number b.1.number) (key_cmp a.0 b.0))) ≡ false
    by Less is = refl
    by Equal is = ap (λ n. is_gt (ordering_then n (key_cmp a.0 b.0))) (less_is a.1.number b.1.number less)
    by Greater is = is

-- and so does a row that ends sooner
comes_sooner : (a b : Key × StoredRow) → is_gt (ends_cmp b.1.ends a.1.ends) ≡ true → is_gt (end_cmp a b) ≡ false
comes_sooner a b later = by (ends_cmp b.1.ends a.1.ends) (ends_flip a.1.ends b.1.ends) later
  where
    rest : Ordering
    rest = ordering_then (nat_cmp a.1.number b.1.number) (key_cmp a.0 b.0)

    by : (o : Ordering) → ends_cmp a.1.ends b.1.ends ≡ ordering_reverse o → is_gt o ≡ true → is_gt (end_cmp a b) ≡ false
    by Less flips is = absurd (true≢false (sym is))
    by Equal flips is = absurd (true≢false (sym is))
    by Greater flips is = ap (λ o. is_gt (ordering_then o rest)) flips

comes_itself : (a : Key × StoredRow) → is_gt (end_cmp a a) ≡ false
comes_itself a = by (ends_cmp a.1.ends a.1.ends) (ends_same a.1.ends)
  where
    by : (o : Ordering) → is_gt o ≡ false → is_gt (ordering_then o (ordering_then (nat_cmp a.1.number a.1.number) (key_cmp a.0 a.0))) ≡ false
    by Less is = refl
    by Equal is = ap (λ n. is_gt (ordering_then n (key_cmp a.0 a.0))) (same_is a.1.number) ∙ ap is_gt (key_cmp-same a.0)
    by Greater is = is

-- a row that doesn't come after another doesn't end later either
ends_part : (a b : Key × StoredRow) → is_gt (end_cmp a b) ≡ false → is_gt (ends_cmp a.1.ends b.1.ends) ≡ false
ends_part a b order = by (ends_cmp a.1.ends b.1.ends) order
  where
    by : (o : Ordering) → is_gt (ordering_then o (ordering_then (nat_cmp a.1.number b.1.number) (key_cmp a.0 b.0))) ≡ false → is_gt o ≡ false
    by Less is = refl
    by Equal is = refl
    by Greater is = is

-- unless there are no rows, one of them is the first to end
pub some_first : (a next : ℕ) (e : Key × StoredRow) (es : List (Key × StoredRow)) → NumbersRise a next (e ∷ es) → KeysDiffer (e ∷ es) → (first : Key) × IsFirstToEnd (e ∷ es) first
some_first a next e [] rise differ = (e.0, (e.1, cond-true (is_eq (key_cmp e.0 e.0)) (Some e.1) None (ap is_eq (key_cmp-same e.0)), (comes_itself e, tt)))
some_first a next e (x ∷ xs) (least, rise) (apart, differ) = choose (some_first (e.1.number + 1) next x xs rise differ)
  where
    choose : (first : Key) × IsFirstToEnd (x ∷ xs) first → (first : Key) × IsFirstToEnd (e ∷ x ∷ xs) first
    choose (key, (row, at, all)) = elim (cases_Bool (is_gt (ends_cmp e.1.ends row.ends))) [
      | inl later ↦
          let other : is_eq (key_cmp key e.0) ≡ false = differs (is_eq (key_cmp key e.0)) refl in
          (key, (row, cond-false (is_eq (key_cmp key e.0)) (Some e.1) (row_at key (x ∷ xs)) other ∙ at, (comes_sooner (key, row) e later, all)))
      | inr sooner ↦
          (e.0, (e.1, cond-true (is_eq (key_cmp e.0 e.0)) (Some e.1) (row_at e.0 (x ∷ xs)) (ap is_eq (key_cmp-same e.0)), (comes_itself e, all_first (x ∷ xs) all (rise_each (e.1.number + 1) next (x ∷ xs) rise) sooner)))
    ]
      where
        differs : (b : Bool) → is_eq (key_cmp key e.0) ≡ b → is_eq (key_cmp key e.0) ≡ false
        differs false other = other
        differs true one = absurd (some_none row (sym at ∙ ap (λ (k : Key). row_at k (x ∷ xs)) (one_key key e.0 one) ∙ apart))

        all_first : (rows : List (Key × StoredRow)) → AllByRecursion (λ y. is_gt (end_cmp (key, row) y) ≡ false) rows → AllByRecursion (λ (y : Key × StoredRow). (e.1.number + 1 ≤ y.1.number) × (y.1.number < next)) rows
            → is_gt (ends_cmp e.1.ends row.ends) ≡ false → AllByRecursion (λ y. is_gt (end_cmp e y) ≡ false) rows
        all_first [] before above sooner = tt
        all_first (y ∷ ys) (first, rest) ((low, high), others) sooner =
            (comes_first e y (ends_then e.1.ends row.ends y.1.ends sooner (ends_part (key, row) y first)) (omega arith), all_first ys rest others sooner)

some_left : (s : TableState) (key : Key) → IsSound s → (rest : List (Key × StoredRow)) × Leaves s key rest
some_left s key sound = by (has_room s key) refl
  where
    first_of_rows : (rows : List (Key × StoredRow)) → s.rows ≡ rows → has_room s key ≡ false → NumbersRise 1 s.next rows → KeysDiffer rows → (first : Key) × IsFirstToEnd rows first
    first_of_rows [] none no_room rise differ =
        let some = sound.some in
        let size : length s.rows ≡ 0 = ap (λ (l : List (Key × StoredRow)). length l) none in
        let less : nat_lt (length s.rows) s.size ≡ true = lt-ltb (length s.rows) s.size (omega arith) in
        absurd (true≢false (sym (either (has_row key s) (nat_lt (length s.rows) s.size) less) ∙ no_room))
      where
        either : (a b : Bool) → b ≡ true → (a || b) ≡ true
        either true b is = refl
        either false b is = is
    first_of_rows (e ∷ es) is no_room rise differ = some_first 1 s.next e es rise differ

    by : (room : Bool) → has_room s key ≡ room → (rest : List (Key × StoredRow)) × Leaves s key rest
    by true is = (s.rows, subst (λ b. MatchBool b (s.rows ≡ s.rows) ((first : Key) × IsFirstToEnd s.rows first × (s.rows ≡ without first s.rows))) (sym is) refl)
    by false is =
        let found = first_of_rows s.rows refl is sound.numbers sound.keys in
        (without found.0 s.rows, subst (λ b. MatchBool b (without found.0 s.rows ≡ s.rows) ((first : Key) × IsFirstToEnd s.rows first × (without found.0 s.rows ≡ without first s.rows))) (sym is) (found.0, found.1, refl))

-- ---- steps

pub some_step : (s : TableState) (event : CellEvent) → IsSound s → IsGranted s event → (reply : CellReply) × (e : TableState) × Step s event reply e
some_step s (events.Track seat key change now) sound granted = let left = some_left s key sound in (_, _, (granted, left.0, left.1, refl, refl))
some_step s (events.Learn session u now) sound granted = let left = some_left s u.key sound in (_, _, (granted, left.0, left.1, refl, refl))
some_step s (events.Copy session kind limit now) sound granted = (_, _, (granted, refl, refl))
some_step s (events.Ack session number) sound granted = (_, _, (granted, refl, refl))
some_step s (events.Open session version) sound granted = (_, _, (granted, refl, refl))
some_step s (events.Close session) sound granted = (_, _, (granted, refl, refl))
some_step s (events.Purge now) sound granted = (_, _, (granted, refl, refl))
