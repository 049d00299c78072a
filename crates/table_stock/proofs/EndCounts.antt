-- How many ends are not after a moment: as many as rows that aren't live then.
use Rattle.std.proofs.Common.{◌≡◌, ℕ, ◌+◌, ◌<◌, ◌≤◌, ◌^◌, ◌||◌, ◌&&◌, Bool, true, false, not, List, [], ◌∷◌, length, zero, suc, refl, sym, ap, ◌∙◌, arith, inl, inr}
use Rattle.std.specs.Prelude.{filter, map}
use Rattle.std.specs.List.{AllByRecursion, IsDistinct}
use Rattle.std.specs.List.Sorted.{IsStrictlySortedBy}
use Rattle.std.specs.Set.{is_member}
use Rattle.std.specs.BTreeMap.Range.{range_contains}
use Rattle.std.specs.declared.ops.Bound.TheVariants.{Excluded, Unbounded}
use Rattle.std.specs.Iterator.{Drains, Yields}
use Rattle.std.specs.Map.Iter.{TakesFirst}
use Rattle.std.specs.Cmp.{IsEquivalence, eq_by_cmp_equiv, nat_cmp_is}
use Rattle.std.specs.declared.cmp.Ordering.{Ordering}
use Rattle.std.specs.declared.cmp.Ordering.TheVariants.{Less, Equal, Greater}
use Rattle.std.specs.Ordering.{MatchOrdering, eq_by_cmp, is_lt, nat_cmp, ordering_then}
use Rattle.std.proofs.lemmas.Bool.{cases_lt, cond_both}
use Rattle.std.proofs.lemmas.Map.Keys.{IsDistinct-from_sorted}
use Rattle.std.proofs.lemmas.Map.Made.{is_member-filter, length-from_same_keys}
use Rattle.table_types.specs.declared.key.Key.{Key}
use Rattle.table_types.specs.Rows.{StoredRow}
use Rattle.table_rows.specs.declared.row_end.RowEnd.{RowEnd}
use Rattle.table_rows.specs.EndingOrder.{later_cmp_total}
use Rattle.table_rows.specs.Endings.{are_same, end_or_last, ending_of, later_cmp}
use Rattle.table_rows.specs.Rows.{is_live}
use Rattle.table_rows.proofs.EndingLaws.{has_ended, lives, one_ending}
use Rattle.table_stock.specs.NumberedRows.{NumbersRise}
use Rattle.table_stock.specs.Shelves.{AreEnds, has_end}
use Rattle.table_stock.proofs.RowsLaws.{all_filter, all_so, rise_each}
use Rattle.table_stock.proofs.EndLaws.{ends_apart}

-- the end lies in the range, in the order of the ends, after what would be the first end after `now`
abbrev pub is_over : ℕ → RowEnd → Bool
is_over now end = range_contains later_cmp (Excluded (record { end = now + 1; number = 0 })) Unbounded end

abbrev end_of : Key × StoredRow → RowEnd
end_of e = ending_of e.1

laws : IsEquivalence (eq_by_cmp later_cmp)
laws = eq_by_cmp_equiv later_cmp_total

-- ---- which ends these are

over_is : (now : ℕ) (row : StoredRow) → now < 2 ^ 63 → is_over now (ending_of row) ≡ not (is_live now row)
over_is now row short = elim (cases_lt now (end_or_last row.ends)) [
  | inl later ↦ past later ∙ sym (ap not (lives now row later))
  | inr over ↦ by_end Less (omega (arith, over)) ∙ sym (ap not (has_ended now row short over))
]
  where
    by_end : (o : Ordering) → MatchOrdering o (end_or_last row.ends < now + 1) (end_or_last row.ends ≡ now + 1) (now + 1 < end_or_last row.ends) → is_over now (ending_of row) ≡ (is_lt (ordering_then o (nat_cmp row.number 0)) && true)
    by_end o compares = ap (λ (r : Ordering). is_lt (ordering_then r (nat_cmp row.number 0)) && true) (sym (nat_cmp_is (end_or_last row.ends) (now + 1) o compares))

    never : (n : ℕ) → (is_lt (nat_cmp n 0) && true) ≡ false
    never zero = ap (λ (r : Ordering). is_lt r && true) (sym (nat_cmp_is 0 0 Equal refl))
    never (suc n) = ap (λ (r : Ordering). is_lt r && true) (sym (nat_cmp_is (suc n) 0 Greater (omega arith)))

    past : now < end_or_last row.ends → is_over now (ending_of row) ≡ false
    past later = elim (cases_lt (now + 1) (end_or_last row.ends)) [
      | inl more ↦ by_end Greater more
      | inr same ↦ let next : end_or_last row.ends ≡ now + 1 = omega (arith, later, same) in by_end Equal next ∙ never row.number
    ]

rows_over : (now : ℕ) → now < 2 ^ 63 → (rows : List (Key × StoredRow)) → length (filter (is_over now) (map end_of rows)) ≡ length (filter (λ e. not (is_live now e.1)) rows)
rows_over now short [] = refl
rows_over now short (e ∷ es) = by (not (is_live now e.1)) refl (over_is now e.1 short) (rows_over now short es)
  where
    by : (b : Bool) → not (is_live now e.1) ≡ b → is_over now (ending_of e.1) ≡ not (is_live now e.1) → length (filter (is_over now) (map end_of es)) ≡ length (filter (λ f. not (is_live now f.1)) es)
        → length (filter (is_over now) (map end_of (e ∷ es))) ≡ length (filter (λ f. not (is_live now f.1)) (e ∷ es))
    by true ended is rest = rw (is, ended) (ap suc rest)
    by false live is rest = rw (is, live) rest

-- ---- the same ends

member_is : (rows : List (Key × StoredRow)) (end : RowEnd) → is_member (eq_by_cmp later_cmp) (map end_of rows) end ≡ has_end rows end
member_is [] end = refl
member_is (e ∷ es) end = ap (λ (b : Bool). b || is_member (eq_by_cmp later_cmp) (map end_of es) end) (laws.symm end (ending_of e.1)) ∙ ap (λ (b : Bool). are_same (ending_of e.1) end || b) (member_is es end)

over_same : (now : ℕ) (q x : RowEnd) → eq_by_cmp later_cmp q x ≡ true → is_over now q ≡ is_over now x
over_same now q x same = ap (is_over now) (one_ending q x same)

apart_all : (e : Key × StoredRow) (es : List (Key × StoredRow)) → AllByRecursion (λ (f : Key × StoredRow). e.1.number < f.1.number) es → AllByRecursion (λ y. eq_by_cmp later_cmp (end_of e) y ≡ false) (map end_of es)
apart_all e [] above = tt
apart_all e (f ∷ fs) (first, rest) = (ends_apart (ending_of e.1) (ending_of f.1) (λ same. omega (arith, first, same)), apart_all e fs rest)

rows_distinct : (least next : ℕ) (rows : List (Key × StoredRow)) → NumbersRise least next rows → IsDistinct (eq_by_cmp later_cmp) (map end_of rows)
unfolding IsDistinct
rows_distinct least next [] rise = tt
rows_distinct least next (e ∷ es) (first, rest) = (
  apart_all e es (all_so (λ (f : Key × StoredRow). (e.1.number + 1 ≤ f.1.number) × (f.1.number < next)) (λ (f : Key × StoredRow). e.1.number < f.1.number) (λ f bound. omega (arith, bound.0)) es (rise_each (e.1.number + 1) next es rest)),
  rows_distinct (e.1.number + 1) next es rest,
)

kept_distinct : {A : Type 0} (eq : A → A → Bool) (p : A → Bool) (xs : List A) → IsDistinct eq xs → IsDistinct eq (filter p xs)
unfolding IsDistinct
kept_distinct eq p [] distinct = tt
kept_distinct eq p (x ∷ xs) (first, rest) =
    cond_both (p x) (x ∷ filter p xs) (filter p xs) (IsDistinct eq) (λ _. (all_filter (λ y. eq x y ≡ false) p xs first, kept_distinct eq p xs rest)) (λ _. kept_distinct eq p xs rest)

-- as many ends come after it as there are rows that aren't live at `now`
pub ended_count : (now next : ℕ) (rows : List (Key × StoredRow)) (ends : List RowEnd) → now < 2 ^ 63 → NumbersRise 1 next rows → AreEnds rows ends → IsStrictlySortedBy later_cmp ends
    → length (filter (is_over now) ends) ≡ length (filter (λ e. not (is_live now e.1)) rows)
ended_count now next rows ends short rise are sorted =
    length-from_same_keys laws (filter (is_over now) ends) (filter (is_over now) (map end_of rows))
    (kept_distinct (eq_by_cmp later_cmp) (is_over now) ends (IsDistinct-from_sorted later_cmp ends sorted))
    (kept_distinct (eq_by_cmp later_cmp) (is_over now) (map end_of rows) (rows_distinct 1 next rows rise))
    (λ q.
    is_member-filter laws (is_over now) q (over_same now q) ends
    ∙ ap (λ (b : Bool). b && is_over now q) (are.exactly q ∙ sym (member_is rows q))
    ∙ sym (is_member-filter laws (is_over now) q (over_same now q) (map end_of rows)))
    ∙ rows_over now short rows

-- there are as many ends as rows
pub as_many_ends : (next : ℕ) (rows : List (Key × StoredRow)) (ends : List RowEnd) → NumbersRise 1 next rows → AreEnds rows ends → IsStrictlySortedBy later_cmp ends → length ends ≡ length rows
as_many_ends next rows ends rise are sorted =
    length-from_same_keys laws ends (map end_of rows) (IsDistinct-from_sorted later_cmp ends sorted) (rows_distinct 1 next rows rise) (λ q. are.exactly q ∙ sym (member_is rows q))
    ∙ as_many rows
  where
    as_many : (es : List (Key × StoredRow)) → length (map end_of es) ≡ length es
    as_many [] = refl
    as_many (e ∷ es) = ap suc (as_many es)

-- ---- what a run of an iterator over them gives

yields_all : {A X : Type 0} (shows : A → X) (xs : List A) (s t : List X) → Yields (TakesFirst shows) s xs t → length s ≡ length xs + length t
yields_all {X = X} shows [] s t same = let sizes : length s ≡ length t = ap (λ (l : List X). length l) same in omega (arith, sizes)
yields_all {X = X} shows (x ∷ xs) s t (mid, first, rest) =
    let sizes : length s ≡ suc (length mid) = ap (λ (l : List X). length l) first in
    let others : length mid ≡ length xs + length t = yields_all shows xs mid t rest in
    omega (arith, sizes, others)

-- it gives as many as there were
pub drained : {A X : Type 0} (shows : A → X) (s : List X) (xs : List A) → Drains (TakesFirst shows) s xs → length s ≡ length xs
drained {X = X} shows s xs (u, (t, all, (none, left))) =
    let sizes = yields_all shows xs s t all in
    let rest : length t ≡ 0 = ap (λ (l : List X). length l) none in
    omega (arith, sizes, rest)
