-- Runs of rows that pushes pass: how a push uses them, why they stay valid, and how they are found and joined.
use Rattle.std.proofs.Common.{◌≡◌, ℕ, ◌+◌, ◌-◌, ◌<◌, ◌≤◌, Bool, true, false, cond, not, ◌&&◌, ◌||◌, Option, Some, None, List, [], ◌∷◌, ◌++◌, refl, sym, ap, ◌∙◌, subst, arith, inl, inr, true≢false}
use Rattle.std.specs.Prelude.{MatchBool, filter, nat_lt}
use Rattle.std.specs.List.{AllByRecursion}
use Rattle.std.specs.Ordering.{is_eq}
use Rattle.std.proofs.lemmas.Bool.{cases_Bool, cond-true, cond-false, le-ltb, lt-ltb, ltb-true, ltb-false}
use Rattle.table_types.specs.declared.key.Key.{Key}
use Rattle.table_types.specs.Keys.{key_cmp}
use Rattle.table_types.specs.Rows.{StoredRow}
use Rattle.table_types.specs.declared.copies.CopyKind.TheVariants as kinds
use Rattle.table_rows.specs.Rows.{IsFirstToEnd, goes_past, is_live}
use Rattle.table_cell.specs.Machine.{TableState, Leaves, has_room, is_copied, is_unacked, without}
use Rattle.table_cell.specs.Soundness.{NumbersRise}
use Rattle.table_cell.specs.LearnedRuns.{IsLearnedRun, IsPassedWithin, is_passed}
use Rattle.table_stock.proofs.RowsLaws.{all_end, all_filter, all_so, rise_bound, rise_each}

-- ---- how a push uses a run

-- a row that isn't live stays so
still_ended : (latest now : ℕ) (end : Option ℕ) → latest ≤ now → goes_past latest end ≡ false → goes_past now end ≡ false
still_ended latest now None later ended = absurd (true≢false ended)
still_ended latest now (Some end) later ended = let bound = ltb-false latest end ended in le-ltb now end (omega arith)

passed_later : (latest now : ℕ) (e : Key × StoredRow) → latest ≤ now → is_passed latest e.1 ≡ true → is_passed now e.1 ≡ true
passed_later latest now e later passed = by e.1.learned (is_live latest e.1) refl passed
  where
    by : (learned live : Bool) → is_live latest e.1 ≡ live → (learned || not live) ≡ true → (learned || not (is_live now e.1)) ≡ true
    by true live at is = refl
    by false true at is = absurd (true≢false (sym is))
    by false false at is = ap not (still_ended latest now e.1.ends later at)

none_and : (b : Bool) → (b && false) ≡ false
none_and true = refl
none_and false = refl

-- no push includes it
not_pushed : (now : ℕ) (e : Key × StoredRow) (over : Bool) → is_passed now e.1 ≡ true → (over && is_copied kinds.Push e.1 && is_live now e.1) ≡ false
not_pushed now e over passed = by e.1.learned (is_live now e.1) passed over
  where
    by : (learned live : Bool) → (learned || not live) ≡ true → (b : Bool) → (b && not learned && live) ≡ false
    by true live is b = ap (λ x. x && live) (none_and b)
    by false true is b = absurd (true≢false (sym is))
    by false false is b = none_and (b && true)

one_passed : (after last latest number now : ℕ) (e : Key × StoredRow) → after ≤ number → number < last → latest ≤ now → IsPassedWithin after last latest e → is_unacked kinds.Push number now e ≡ is_unacked kinds.Push last now e
one_passed after last latest number now e from below later passed = elim (cases_Bool (nat_lt last e.1.number)) [
  | inl past ↦
      let over : nat_lt number e.1.number ≡ true = lt-ltb number e.1.number (omega (arith, below, ltb-true last e.1.number past)) in
      ap (λ b. b && is_copied kinds.Push e.1 && is_live now e.1) (over ∙ sym past)
  | inr within ↦ none within ∙ sym (ap (λ b. b && is_copied kinds.Push e.1 && is_live now e.1) within)
]
  where
    none : nat_lt last e.1.number ≡ false → is_unacked kinds.Push number now e ≡ false
    none within = elim (cases_Bool (nat_lt number e.1.number)) [
      | inl over ↦
          not_pushed now e (nat_lt number e.1.number) (passed_later latest now e later (passed (omega (arith, from, ltb-true number e.1.number over)) (ltb-false last e.1.number within)))
      | inr under ↦ ap (λ b. b && is_copied kinds.Push e.1 && is_live now e.1) under
    ]

-- a push may as well begin at the end of the run
pub run_passed : (after last number next latest now : ℕ) (rows : List (Key × StoredRow)) → after ≤ number → number < last → latest ≤ now → IsLearnedRun after last next latest rows
    → filter (is_unacked kinds.Push number now) rows ≡ filter (is_unacked kinds.Push last now) rows
run_passed after last number next latest now rows from below later run = skipped rows run.passed
  where
    skipped : (es : List (Key × StoredRow)) → AllByRecursion (IsPassedWithin after last latest) es → filter (is_unacked kinds.Push number now) es ≡ filter (is_unacked kinds.Push last now) es
    skipped [] all = refl
    skipped (e ∷ es) (passed, rest) =
        rw (one_passed after last latest number now e from below later passed) (ap (λ (l : List (Key × StoredRow)). cond (is_unacked kinds.Push last now e) (e ∷ l) l) (skipped es rest))

-- ---- a run stays valid

pub run_kept : (p : Key × StoredRow → Bool) (after last next latest : ℕ) (rows : List (Key × StoredRow)) → IsLearnedRun after last next latest rows → IsLearnedRun after last next latest (filter p rows)
run_kept p after last next latest rows run = record { given = run.given; passed = all_filter (IsPassedWithin after last latest) p rows run.passed }

run_later : (after last next latest now : ℕ) (rows : List (Key × StoredRow)) → latest ≤ now → IsLearnedRun after last next latest rows → IsLearnedRun after last next now rows
run_later after last next latest now rows later run = record {
  given = run.given;
  passed = all_so (IsPassedWithin after last latest) (IsPassedWithin after last now) (λ e passed over under. passed_later latest now e later (passed over under)) rows run.passed;
}

-- ---- finding a run

-- a push that finds nothing passes every row above its number
above_passed : (number now : ℕ) (e : Key × StoredRow) → is_unacked kinds.Push number now e ≡ false → number < e.1.number → is_passed now e.1 ≡ true
above_passed number now e none over = by e.1.learned (is_live now e.1) refl (sym (ap (λ b. b && is_copied kinds.Push e.1 && is_live now e.1) (lt-ltb number e.1.number over)) ∙ none)
  where
    by : (learned live : Bool) → is_live now e.1 ≡ live → (not learned && is_live now e.1) ≡ false → (learned || not (is_live now e.1)) ≡ true
    by true live at is = refl
    by false true at is = absurd (true≢false (sym at ∙ is))
    by false false at is = ap not at

all_passed : (number last now : ℕ) (rows : List (Key × StoredRow)) → filter (is_unacked kinds.Push number now) rows ≡ [] → AllByRecursion (IsPassedWithin number last now) rows
all_passed number last now [] none = tt
all_passed number last now (e ∷ es) none = elim (cases_Bool (is_unacked kinds.Push number now e)) [
  | inl own ↦ absurd (some_left (sym (cond-true (is_unacked kinds.Push number now e) (e ∷ filter (is_unacked kinds.Push number now) es) (filter (is_unacked kinds.Push number now) es) own) ∙ none))
  | inr passed ↦ (
    (λ over under. above_passed number now e passed over),
    all_passed number last now es (sym (cond-false (is_unacked kinds.Push number now e) (e ∷ filter (is_unacked kinds.Push number now) es) (filter (is_unacked kinds.Push number now) es) passed) ∙ none),
  )
]
  where
    some_left : {rest : List (Key × StoredRow)} → e ∷ rest ≡ [] → ⊥
    some_left is = cc

-- if a push from a number finds nothing, the run goes from there to the last number assigned
pub run_at_end : (number next now : ℕ) (rows : List (Key × StoredRow)) → NumbersRise 1 next rows → filter (is_unacked kinds.Push number now) rows ≡ [] → IsLearnedRun number (next - 1) next now rows
run_at_end number next now rows rise none = let some = rise_bound 1 next rows rise in record { given = omega (arith, some); passed = all_passed number (next - 1) now rows none }

-- a run that reaches the number from which another one begins, joined with that
pub run_joined : (after last since number end next now : ℕ) (rows : List (Key × StoredRow)) → number ≤ last → since ≤ now → IsLearnedRun after last next since rows → IsLearnedRun number end next now rows → IsLearnedRun after end next now rows
run_joined after last since number end next now rows reaches later near far = record { given = far.given; passed = joined rows (run_later after last next since now rows later near).passed far.passed }
  where
    joined : (es : List (Key × StoredRow)) → AllByRecursion (IsPassedWithin after last now) es → AllByRecursion (IsPassedWithin number end now) es → AllByRecursion (IsPassedWithin after end now) es
    joined [] low high = tt
    joined (e ∷ es) (low, lows) (high, highs) = (
      (λ over under. elim (cases_Bool (nat_lt number e.1.number)) [
        | inl past ↦ high (ltb-true number e.1.number past) under
        | inr within ↦ let bound = ltb-false number e.1.number within in low over (omega (arith, bound, reaches))
      ]),
      joined es lows highs,
    )

-- ---- a row is stored

run_longer : (after last next latest : ℕ) (rows : List (Key × StoredRow)) (key : Key) (row : StoredRow) → row.number ≡ next → IsLearnedRun after last next latest rows → IsLearnedRun after last (next + 1) latest (rows ++ (key, row) ∷ [])
run_longer after last next latest rows key row is run = record {
  given = omega (arith, run.given);
  passed = all_end (IsPassedWithin after last latest) (key, row) rows run.passed (λ over under. absurd (omega (arith, is, under, run.given)));
}

-- what holds of all rows holds of those that remain when one is stored
left_all : (P : Key × StoredRow → Type 0) (s : TableState) (key : Key) (rest : List (Key × StoredRow)) → Leaves s key rest → AllByRecursion P s.rows → AllByRecursion P (without key rest)
left_all P s key rest leaves all = all_filter P (λ e. not (is_eq (key_cmp key e.0))) rest (left (has_room s key) leaves)
  where
    left : (room : Bool) → MatchBool room (rest ≡ s.rows) ((first : Key) × IsFirstToEnd s.rows first × (rest ≡ without first s.rows)) → AllByRecursion P rest
    left true same = subst (AllByRecursion P) (sym same) all
    left false (first, ends, same) = subst (AllByRecursion P) (sym same) (all_filter P (λ e. not (is_eq (key_cmp first e.0))) s.rows all)

run_left : (after last since : ℕ) (s : TableState) (key : Key) (rest : List (Key × StoredRow)) → Leaves s key rest → IsLearnedRun after last s.next since s.rows → IsLearnedRun after last s.next since (without key rest)
run_left after last since s key rest leaves run = record { given = run.given; passed = left_all (IsPassedWithin after last since) s key rest leaves run.passed }

pub run_stored : (after last since : ℕ) (s : TableState) (key : Key) (row : StoredRow) (rest : List (Key × StoredRow)) → row.number ≡ s.next → Leaves s key rest → IsLearnedRun after last s.next since s.rows
    → IsLearnedRun after last (s.next + 1) since (without key rest ++ (key, row) ∷ [])
run_stored after last since s key row rest is leaves run = run_longer after last s.next since (without key rest) key row is (run_left after last since s key rest leaves run)

-- a run up to the last number assigned goes on to a learned row
pub run_grown : (after last since : ℕ) (s : TableState) (key : Key) (row : StoredRow) (rest : List (Key × StoredRow)) → row.number ≡ s.next → last + 1 ≡ s.next → row.learned ≡ true → NumbersRise 1 s.next s.rows
    → Leaves s key rest → IsLearnedRun after last s.next since s.rows → IsLearnedRun after row.number (s.next + 1) since (without key rest ++ (key, row) ∷ [])
run_grown after last since s key row rest is reaches learned rise leaves run =
    let old = run_left after last since s key rest leaves run in
    let below = left_all (λ (e : Key × StoredRow). (1 ≤ e.1.number) × (e.1.number < s.next)) s key rest leaves (rise_each 1 s.next s.rows rise) in
    record {
      given = omega (arith, is);
      passed = all_end (IsPassedWithin after row.number since) (key, row) (without key rest) (each (without key rest) below old.passed) (λ over under. ap (λ b. b || not (is_live since row)) learned);
    }
  where
    each : (es : List (Key × StoredRow)) → AllByRecursion (λ (e : Key × StoredRow). (1 ≤ e.1.number) × (e.1.number < s.next)) es → AllByRecursion (IsPassedWithin after last since) es → AllByRecursion (IsPassedWithin after row.number since) es
    each [] below passed = tt
    each (e ∷ es) (first, rest) (passed, others) = ((λ over under. passed over (omega (arith, first.1, reaches))), each es rest others)
