-- Rows that are counted in parts, in ascending order of number.
use Rattle.std.proofs.Common.{◌≡◌, ℕ, ◌+◌, ◌<◌, ◌≤◌, true, false, ◌||◌, List, [], ◌∷◌, ◌++◌, Some, refl, sym, ap, subst, ◌∙◌, arith, inl, inr}
use Rattle.std.specs.Prelude.{filter, nat_lt}
use Rattle.std.specs.List.{list_any}
use Rattle.std.specs.Option.{unwrap_or}
use Rattle.std.proofs.lemmas.Bool.{cases_Bool, cond-true, cond-false, ltb-true, ltb-false, lt-ltb, le-ltb}
use Rattle.table_types.specs.declared.key.Key.{Key}
use Rattle.table_types.specs.declared.copies.CopyKind.{CopyKind}
use Rattle.table_types.specs.Rows.{StoredRow}
use Rattle.table_cell.specs.Pending.{first_number, is_any_above, pending}
use Rattle.table_cell.specs.Soundness.{NumbersRise}
use Rattle.table_cell.proofs.UnackedLaws.{is_above}
use Rattle.table_cell.proofs.ReachLaws.{chosen_above, is_chosen}

-- ---- the rows above the one that was looked at last

all_above : (a m next : ℕ) (es : List (Key × StoredRow)) → m < a → NumbersRise a next es → filter (is_above m) es ≡ es
all_above a m next [] less rise = refl
all_above a m next (e ∷ es) less (first, rest) =
    let above : nat_lt m e.1.number ≡ true = lt-ltb m e.1.number (omega (arith, less, first)) in
    cond-true (is_above m e) (e ∷ filter (is_above m) es) (filter (is_above m) es) above
    ∙ ap (λ (l : List (Key × StoredRow)). e ∷ l) (all_above (e.1.number + 1) m next es (omega (arith, less, first)) rest)

same_head : {A : Type 0} (x y : A) (xs ys : List A) → x ∷ xs ≡ y ∷ ys → (x ≡ y) × (xs ≡ ys)
same_head x y xs ys is = (cc, cc)

pub rest_above : (a m next : ℕ) (rows : List (Key × StoredRow)) (x : Key × StoredRow) (rest : List (Key × StoredRow)) → NumbersRise a next rows → filter (is_above m) rows ≡ x ∷ rest
    → (m < x.1.number) × (rest ≡ filter (is_above x.1.number) rows)
rest_above a m next [] x rest rise is = absurd cc
rest_above a m next (e ∷ es) x rest (first, later) is = elim (cases_Bool (nat_lt m e.1.number)) [
  | inl above ↦
      let more : m < e.1.number = ltb-true m e.1.number above in
      let same = same_head e x es rest (sym (ap (λ (l : List (Key × StoredRow)). e ∷ l) (all_above (e.1.number + 1) m next es (omega (arith, more)) later)) ∙ sym (cond-true (is_above m e) (e ∷ filter (is_above m) es) (filter (is_above m) es) above) ∙ is) in
      let under : nat_lt e.1.number e.1.number ≡ false = le-ltb e.1.number e.1.number (omega arith) in
      let after : filter (is_above e.1.number) (e ∷ es) ≡ es =
      cond-false (is_above e.1.number e) (e ∷ filter (is_above e.1.number) es) (filter (is_above e.1.number) es) under ∙ all_above (e.1.number + 1) e.1.number next es (omega arith) later in
      (subst (λ (y : Key × StoredRow). m < y.1.number) same.0 more, sym same.1 ∙ sym after ∙ ap (λ (y : Key × StoredRow). filter (is_above y.1.number) (e ∷ es)) same.0)
  | inr below ↦
      let less : e.1.number ≤ m = ltb-false m e.1.number below in
      let inside = rest_above (e.1.number + 1) m next es x rest later (sym (cond-false (is_above m e) (e ∷ filter (is_above m) es) (filter (is_above m) es) below) ∙ is) in
      let under : nat_lt x.1.number e.1.number ≡ false = le-ltb x.1.number e.1.number (omega (arith, less, inside.0)) in
      (inside.0, inside.1 ∙ sym (cond-false (is_above x.1.number e) (e ∷ filter (is_above x.1.number) es) (filter (is_above x.1.number) es) under))
]

-- a row that is left shows that there is one above the number
pub some_above : (m : ℕ) (rows : List (Key × StoredRow)) (x : Key × StoredRow) (rest : List (Key × StoredRow)) → filter (is_above m) rows ≡ x ∷ rest → is_any_above m rows ≡ true
some_above m [] x rest is = absurd cc
some_above m (e ∷ es) x rest is = elim (cases_Bool (nat_lt m e.1.number)) [
  | inl above ↦ ap (λ b. b || list_any (is_above m) es) above
  | inr below ↦
      ap (λ b. b || list_any (is_above m) es) below
      ∙ some_above m es x rest (sym (cond-false (is_above m e) (e ∷ filter (is_above m) es) (filter (is_above m) es) below) ∙ is)
]

-- ---- the rows that are still to be counted

pub one_pending : (kind : CopyKind) (bound m now : ℕ) (rows : List (Key × StoredRow)) (x : Key × StoredRow) (rest : List (Key × StoredRow))
    → filter (is_above m) rows ≡ x ∷ rest → rest ≡ filter (is_above x.1.number) rows → is_chosen kind bound now x ≡ true
    → pending kind bound m now rows ≡ x ∷ pending kind bound x.1.number now rows
one_pending kind bound m now rows x rest is after chosen =
    sym (chosen_above kind bound m now rows) ∙ ap (filter (is_chosen kind bound now)) is
    ∙ cond-true (is_chosen kind bound now x) (x ∷ filter (is_chosen kind bound now) rest) (filter (is_chosen kind bound now) rest) chosen
    ∙ ap (λ (l : List (Key × StoredRow)). x ∷ filter (is_chosen kind bound now) l) after
    ∙ ap (λ (l : List (Key × StoredRow)). x ∷ l) (chosen_above kind bound x.1.number now rows)

pub none_pending : (kind : CopyKind) (bound m now : ℕ) (rows : List (Key × StoredRow)) (x : Key × StoredRow) (rest : List (Key × StoredRow))
    → filter (is_above m) rows ≡ x ∷ rest → rest ≡ filter (is_above x.1.number) rows → is_chosen kind bound now x ≡ false
    → pending kind bound m now rows ≡ pending kind bound x.1.number now rows
none_pending kind bound m now rows x rest is after passed =
    sym (chosen_above kind bound m now rows) ∙ ap (filter (is_chosen kind bound now)) is
    ∙ cond-false (is_chosen kind bound now x) (x ∷ filter (is_chosen kind bound now) rest) (filter (is_chosen kind bound now) rest) passed
    ∙ ap (filter (is_chosen kind bound now)) after ∙ chosen_above kind bound x.1.number now rows

-- if no row is above the number, none is to be counted
pub end_pending : (kind : CopyKind) (bound m now : ℕ) (rows : List (Key × StoredRow)) → filter (is_above m) rows ≡ [] → pending kind bound m now rows ≡ []
end_pending kind bound m now rows none = sym (chosen_above kind bound m now rows) ∙ ap (filter (is_chosen kind bound now)) none

-- ---- the rows that were counted

pub first_with : (counted : List (Key × StoredRow)) (x : Key × StoredRow) → first_number (counted ++ x ∷ []) ≡ Some (unwrap_or (first_number counted) x.1.number)
first_with [] x = refl
first_with (e ∷ es) x = refl
