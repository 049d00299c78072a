use Rattle.std.proofs.Common.{◌≡◌, ◌<◌, ◌≤◌, List, length, get_or, option_copied, option_map, subst, ◌∙◌}
use Rattle.std.specs.Prelude.{is_some}
use Rattle.std.specs.List.Sorted.{IsStrictlySortedBy}
use Rattle.std.specs.Map.{keys_of}
use Rattle.table_types.specs.declared.key.Key.{Key}
use Rattle.table_types.specs.Keys.{key_cmp}
use Rattle.table_types.specs.Rows.{StoredRow}
use Rattle.table_rows.proofs.FirstLaws.{all_taken, any_found, key_found, next_taken}
use Rattle.table_rows.proofs.list_rows.ListRowsRows.first_to_end.Goals as goal

pub loop-entry-preserved : goal.loop-entry-preserved
loop-entry-preserved c =
    let first = option_map (λ e. (e.0.now, e.1.now)) c.loop-entry.first in
    let same = c.deref-entry-items.ensures.value ∙ c.self.view_is in
    let i = c.loop-entry.entry-index in
    let x : Key × StoredRow = c.entry-item.result in
    next_taken c.args.self.now i first x (c.first_of.result.0.now, c.first_of.result.1.now)
    (subst (λ (l : List (Key × StoredRow)). i < length l) same c.loop-entry-test.true) (subst (λ (l : List (Key × StoredRow)). x ≡ get_or l i x) same c.entry-item.is)
    c.first_of.ensures c.loop-entry.invariant

pub returns-clause-first : goal.returns-clause-first
returns-clause-first c =
    let rising : IsStrictlySortedBy key_cmp (keys_of c.args.self.now) = subst (λ (l : List (Key × StoredRow)). IsStrictlySortedBy key_cmp (keys_of l)) c.self.view_is c.self.invariant in
    key_found (λ e. (e.0.now, e.1.now)) c.loop-entry.first (option_copied c.key_of.result) c.args.self.now rising c.key_of.ensures.key
    (all_taken c.args.self.now c.loop-entry.entry-index (option_map (λ e. (e.0.now, e.1.now)) c.loop-entry.first)
    (subst (λ (l : List (Key × StoredRow)). length l ≤ c.loop-entry.entry-index) (c.deref-entry-items.ensures.value ∙ c.self.view_is) c.loop-entry-test.false) c.loop-entry.invariant)

pub returns-clause-some : goal.returns-clause-some
returns-clause-some c =
    any_found (λ e. (e.0.now, e.1.now)) c.loop-entry.first (is_some c.key_of.result) c.args.self.now c.key_of.ensures.some
    (all_taken c.args.self.now c.loop-entry.entry-index (option_map (λ e. (e.0.now, e.1.now)) c.loop-entry.first)
    (subst (λ (l : List (Key × StoredRow)). length l ≤ c.loop-entry.entry-index) (c.deref-entry-items.ensures.value ∙ c.self.view_is) c.loop-entry-test.false) c.loop-entry.invariant)
