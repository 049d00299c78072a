-- If the first row to end is live, all rows are.
use Rattle.std.proofs.Common.{◌≡◌, ℕ, ◌≤◌, Bool, true, false, not, ◌&&◌, ◌||◌, List, [], ◌∷◌, length, Option, Some, None, refl, sym, ap, subst, ◌∙◌, arith, inl, inr, true≢false}
use Rattle.std.specs.Prelude.{MatchBool, nat_lt}
use Rattle.std.specs.List.{AllByRecursion, list_all}
use Rattle.std.specs.Ordering.{is_eq, is_gt, nat_cmp, ordering_then}
use Rattle.std.specs.Cmp.{nat_cmp_is}
use Rattle.std.specs.declared.cmp.Ordering.TheVariants.{Greater}
use Rattle.std.specs.declared.cmp.Ordering.{Ordering}
use Rattle.std.proofs.lemmas.Bool.{cases_Bool, cond-true, cond-false, ltb-true, ltb-false, lt-ltb}
use Rattle.table_types.specs.declared.key.Key.{Key}
use Rattle.table_types.specs.Keys.{key_cmp}
use Rattle.table_types.specs.Rows.{StoredRow}
use Rattle.table_rows.specs.Rows.{IsFirstToEnd, end_cmp, ends_cmp, goes_past, is_live, row_at}
use Rattle.table_stock.specs.Stock.{LeftFor}
use Rattle.table_stock.proofs.RowsLaws.{some_none}
use Rattle.table_cell.specs.Machine.{Leaves, TableState, has_row, without}

pub no_later : (a b : ℕ) (rest : Ordering) → is_gt (ordering_then (nat_cmp a b) rest) ≡ false → a ≤ b
no_later a b rest order = elim (cases_Bool (nat_lt b a)) [
  | inl less ↦
      let greater : nat_cmp a b ≡ Greater = sym (nat_cmp_is a b Greater (ltb-true b a less)) in
      absurd (true≢false (sym (ap (λ o. is_gt (ordering_then o rest)) greater) ∙ order))
  | inr none ↦ ltb-false b a none
]

past_too : (now : ℕ) (a b : Option ℕ) (rest : Ordering) → is_gt (ordering_then (ends_cmp a b) rest) ≡ false → goes_past now a ≡ true → goes_past now b ≡ true
past_too now a None rest order live = refl
past_too now None (Some b) rest order live = absurd (true≢false order)
past_too now (Some a) (Some b) rest order live =
    let first = ltb-true now a live in
    let bound = no_later a b rest order in
    lt-ltb now b (omega arith)

all_past : (now : ℕ) (key : Key) (row : StoredRow) (rows : List (Key × StoredRow)) → AllByRecursion (λ e. is_gt (end_cmp (key, row) e) ≡ false) rows → is_live now row ≡ true
    → list_all (λ e. is_live now e.1) rows ≡ true
all_past now key row [] order live = refl
all_past now key row (e ∷ es) (first, rest) live =
    let this = past_too now row.ends e.1.ends (ordering_then (nat_cmp row.number e.1.number) (key_cmp key e.0)) first live in
    let others = all_past now key row es rest live in
    ap (λ b. b && list_all (λ (x : Key × StoredRow). is_live now x.1) es) this ∙ others

one_past : (now : ℕ) (key : Key) (row : StoredRow) (rows : List (Key × StoredRow)) → row_at key rows ≡ Some row → is_live now row ≡ false → list_all (λ e. is_live now e.1) rows ≡ false
one_past now key row [] at ended = absurd (some_none row (sym at))
one_past now key row (e ∷ es) at ended = elim (cases_Bool (is_eq (key_cmp key e.0))) [
  | inl tied ↦
      let is : e.1 ≡ row = same_some e.1 row (sym (cond-true (is_eq (key_cmp key e.0)) (Some e.1) (row_at key es) tied) ∙ at) in
      ap (λ b. b && list_all (λ (x : Key × StoredRow). is_live now x.1) es) (ap (is_live now) is ∙ ended)
  | inr other ↦ later (is_live now e.1) (one_past now key row es (sym (cond-false (is_eq (key_cmp key e.0)) (Some e.1) (row_at key es) other) ∙ at) ended)
]
  where
    same_some : (p q : StoredRow) → ◌≡◌ {A = Option StoredRow} (Some p) (Some q) → p ≡ q
    same_some p q is = cc

    later : (b : Bool) → list_all (λ (x : Key × StoredRow). is_live now x.1) es ≡ false → (b && list_all (λ (x : Key × StoredRow). is_live now x.1) es) ≡ false
    later true ended_later = ended_later
    later false ended_later = refl

pub first_answers : (now : ℕ) (key : Key) (row : StoredRow) (rows : List (Key × StoredRow)) → IsFirstToEnd rows key → row_at key rows ≡ Some row → is_live now row ≡ list_all (λ e. is_live now e.1) rows
first_answers now key row rows (first, at, order) found = elim (cases_Bool (is_live now row)) [
  | inl live ↦ live ∙ sym (all_past now key row rows (subst (λ (r : StoredRow). AllByRecursion (λ (e : Key × StoredRow). is_gt (end_cmp (key, r) e) ≡ false) rows) (same_some first row (sym at ∙ found)) order) live)
  | inr ended ↦ ended ∙ sym (one_past now key row rows found ended)
]
  where
    same_some : (p q : StoredRow) → ◌≡◌ {A = Option StoredRow} (Some p) (Some q) → p ≡ q
    same_some p q is = cc

-- ---- room for one more row

pub left_leaves : (s : TableState) (key : Key) (full : Bool) (rest : List (Key × StoredRow)) → not full ≡ nat_lt (length s.rows) s.size → LeftFor key full s.rows rest → Leaves s key rest
left_leaves s key full rest room left = subst (λ (b : Bool). MatchBool (has_row key s || b) (rest ≡ s.rows) ((first : Key) × IsFirstToEnd s.rows first × (rest ≡ without first s.rows))) room left
