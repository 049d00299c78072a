-- The rows in the reach of a copy.
use Rattle.std.proofs.Common.{◌≡◌, ℕ, ◌≤◌, Bool, true, false, ◌&&◌, List, [], ◌∷◌, refl, sym, ap, ◌∙◌}
use Rattle.std.specs.Prelude.{filter, nat_le}
use Rattle.std.specs.List.{AllByRecursion}
use Rattle.std.proofs.lemmas.Bool.{cond_both, leb-true}
use Rattle.table_types.specs.declared.key.Key.{Key}
use Rattle.table_types.specs.Rows.{StoredRow}
use Rattle.table_types.specs.declared.copies.CopyKind.{CopyKind}
use Rattle.table_types.specs.declared.copies.CopyKind.TheVariants as kinds
use Rattle.table_cell.specs.Machine.{in_reach, is_unacked}
use Rattle.table_cell.specs.Parts.{is_in_reach}
use Rattle.table_cell.specs.Soundness.{NumbersRise}
use Rattle.table_stock.proofs.RowsLaws.{all_filter, rise_filter}
use Rattle.table_cell.proofs.UnackedLaws.{due_above, is_above, is_due}

-- ---- one filter after another

filter_and : {A : Type 0} (p q : A → Bool) (xs : List A) → filter (λ x. p x && q x) xs ≡ filter q (filter p xs)
filter_and p q [] = refl
filter_and p q (x ∷ xs) = by (p x) refl (q x) refl (filter_and p q xs)
  where
    by : (a : Bool) → p x ≡ a → (b : Bool) → q x ≡ b → filter (λ y. p y && q y) xs ≡ filter q (filter p xs) → filter (λ y. p y && q y) (x ∷ xs) ≡ filter q (filter p (x ∷ xs))
    by true passes true too rest = rw (passes, too) (ap (λ (l : List _). x ∷ l) rest)
    by true passes false stops rest = rw (passes, stops) rest
    by false stops b is rest = rw stops rest

filter_swap : {A : Type 0} (p q : A → Bool) (xs : List A) → filter p (filter q xs) ≡ filter q (filter p xs)
filter_swap p q [] = refl
filter_swap p q (x ∷ xs) = by (p x) refl (q x) refl (filter_swap p q xs)
  where
    by : (a : Bool) → p x ≡ a → (b : Bool) → q x ≡ b → filter p (filter q xs) ≡ filter q (filter p xs) → filter p (filter q (x ∷ xs)) ≡ filter q (filter p (x ∷ xs))
    by true passes true too rest = rw (too, passes, too) (ap (λ (l : List _). x ∷ l) rest)
    by true passes false stops rest = rw (stops, passes, stops) rest
    by false stops true too rest = rw (too, stops) rest
    by false stops false both rest = rw (both, stops) rest

-- ---- the rows in reach

abbrev pub is_up_to : ℕ → Key × StoredRow → Bool
is_up_to bound e = nat_le e.1.number bound

-- a copy of `kind` at `now` includes the row if it is above the number acknowledged
abbrev pub is_chosen : CopyKind → ℕ → ℕ → Key × StoredRow → Bool
is_chosen kind bound now e = is_in_reach kind bound e.1 && is_due kind now e

pub reach_all : (P : Key × StoredRow → Type 0) (kind : CopyKind) (bound : ℕ) (rows : List (Key × StoredRow)) → AllByRecursion P rows → AllByRecursion P (in_reach kind bound rows)
reach_all P kinds.Push bound rows all = all
reach_all P kinds.Resync bound rows all = all
reach_all P kinds.Standing bound rows all = all_filter P (is_up_to bound) rows all

pub reach_rise : (kind : CopyKind) (bound a next : ℕ) (rows : List (Key × StoredRow)) → NumbersRise a next rows → NumbersRise a next (in_reach kind bound rows)
reach_rise kinds.Push bound a next rows rise = rise
reach_rise kinds.Resync bound a next rows rise = rise
reach_rise kinds.Standing bound a next rows rise = rise_filter (is_up_to bound) a next rows rise

-- what chooses the same of all rows chooses the same of those in reach
pub reach_same : (kind : CopyKind) (bound : ℕ) (p q : Key × StoredRow → Bool) (rows : List (Key × StoredRow)) → filter p rows ≡ filter q rows → filter p (in_reach kind bound rows) ≡ filter q (in_reach kind bound rows)
reach_same kinds.Push bound p q rows same = same
reach_same kinds.Resync bound p q rows same = same
reach_same kinds.Standing bound p q rows same =
    filter_swap p (is_up_to bound) rows ∙ ap (filter (is_up_to bound)) same ∙ sym (filter_swap q (is_up_to bound) rows)

-- the rows above a number that a copy includes
pub chosen_above : (kind : CopyKind) (bound n now : ℕ) (rows : List (Key × StoredRow)) → filter (is_chosen kind bound now) (filter (is_above n) rows) ≡ filter (is_unacked kind n now) (in_reach kind bound rows)
chosen_above kinds.Push bound n now rows = due_above kinds.Push n now rows
chosen_above kinds.Resync bound n now rows = due_above kinds.Resync n now rows
chosen_above kinds.Standing bound n now rows =
    filter_and (is_up_to bound) (is_due kinds.Standing now) (filter (is_above n) rows)
    ∙ ap (filter (is_due kinds.Standing now)) (filter_swap (is_up_to bound) (is_above n) rows)
    ∙ due_above kinds.Standing n now (filter (is_up_to bound) rows)

-- the numbers of the rows up to a bound
pub all_up_to : (bound : ℕ) (rows : List (Key × StoredRow)) → AllByRecursion (λ (e : Key × StoredRow). e.1.number ≤ bound) (filter (is_up_to bound) rows)
all_up_to bound [] = tt
all_up_to bound (e ∷ es) =
    let rest = all_up_to bound es in
    cond_both (nat_le e.1.number bound) (e ∷ filter (is_up_to bound) es) (filter (is_up_to bound) es) (AllByRecursion (λ (x : Key × StoredRow). x.1.number ≤ bound)) (λ within. (leb-true e.1.number bound within, rest)) (λ _. rest)
