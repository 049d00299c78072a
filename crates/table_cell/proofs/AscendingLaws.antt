-- The updates of a copy ascend in number.
use Rattle.std.proofs.Common.{◌≡◌, ℕ, zero, suc, ◌+◌, ◌<◌, ◌≤◌, List, [], ◌∷◌, sym, arith}
use Rattle.std.specs.Prelude.{filter, map, take}
use Rattle.std.specs.List.{AllByRecursion}
use Rattle.std.specs.List.Sorted.{IsStrictlySortedBy}
use Rattle.std.specs.Ordering.{nat_cmp}
use Rattle.std.specs.Cmp.{nat_cmp_is}
use Rattle.std.specs.declared.cmp.Ordering.TheVariants.{Less}
use Rattle.table_types.specs.declared.key.Key.{Key}
use Rattle.table_types.specs.declared.update.Update.{Update}
use Rattle.table_types.specs.declared.version.Version.{Version}
use Rattle.table_types.specs.declared.copies.CopyKind.{CopyKind}
use Rattle.table_types.specs.Rows.{StoredRow}
use Rattle.table_types.specs.Tables.{Definition}
use Rattle.table_cell.specs.Copying.{update_of}
use Rattle.table_cell.specs.Machine.{TableState, acknowledged_by, bound_by, in_reach, is_unacked, progress_of, unacked, version_by}
use Rattle.table_cell.specs.Soundness.{NumbersRise}
use Rattle.table_cell.specs.Histories.{AreAscending}
use Rattle.table_stock.proofs.RowsLaws.{rise_each, rise_filter}
use Rattle.table_cell.proofs.ReachLaws.{reach_rise}

all_above : (version : Version) (d : Definition) (now number next : ℕ) (es : List (Key × StoredRow)) → AllByRecursion (λ (e : Key × StoredRow). (number + 1 ≤ e.1.number) × (e.1.number < next)) es
    → AllByRecursion (λ y. nat_cmp number y ≡ Less) (map (λ (u : Update). u.number) (map (update_of version d now) es))
all_above version d now number next [] all = tt
all_above version d now number next (e ∷ es) (first, rest) = (sym (nat_cmp_is number e.1.number Less (omega (arith, first.0))), all_above version d now number next es rest)

updates_ascend : (version : Version) (d : Definition) (now least next : ℕ) (es : List (Key × StoredRow)) → NumbersRise least next es → AreAscending (map (update_of version d now) es)
unfolding IsStrictlySortedBy
updates_ascend version d now least next [] rise = tt
updates_ascend version d now least next (e ∷ es) (first, rest) =
    (all_above version d now e.1.number next es (rise_each (e.1.number + 1) next es rest), updates_ascend version d now (e.1.number + 1) next es rest)

all_taken : (P : ℕ → Type 0) (n : ℕ) (us : List Update) → AllByRecursion P (map (λ (u : Update). u.number) us) → AllByRecursion P (map (λ (u : Update). u.number) (take n us))
all_taken P zero us all = tt
all_taken P (suc n) [] all = tt
all_taken P (suc n) (u ∷ us) (first, rest) = (first, all_taken P n us rest)

taken_ascend : (n : ℕ) (us : List Update) → AreAscending us → AreAscending (take n us)
unfolding IsStrictlySortedBy
taken_ascend zero us rise = tt
taken_ascend (suc n) [] rise = tt
taken_ascend (suc n) (u ∷ us) (first, rest) = (all_taken (λ y. nat_cmp u.number y ≡ Less) n us first, taken_ascend n us rest)

pub unacked_ascend : (s : TableState) (session : ℕ) (kind : CopyKind) (limit now : ℕ) → NumbersRise 1 s.next s.rows → AreAscending (unacked s session kind now limit)
unacked_ascend s session kind limit now rise =
    let low = acknowledged_by (progress_of session s) in
    let reach = in_reach kind (bound_by (progress_of session s)) s.rows in
    let due = filter (is_unacked kind low now) reach in
    taken_ascend limit (map (update_of (version_by (progress_of session s)) s.definition now) due) (updates_ascend (version_by (progress_of session s)) s.definition now 1 s.next due (rise_filter (is_unacked kind low now) 1 s.next reach (reach_rise kind (bound_by (progress_of session s)) 1 s.next s.rows rise)))
