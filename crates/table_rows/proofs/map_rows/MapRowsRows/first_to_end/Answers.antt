use Rattle.std.proofs.Common.{List, option_copied, option_map, subst}
use Rattle.std.specs.Prelude.{is_some}
use Rattle.std.specs.List.Sorted.{IsStrictlySortedBy}
use Rattle.std.specs.Map.{keys_of}
use Rattle.table_types.specs.declared.key.Key.{Key}
use Rattle.table_types.specs.Keys.{key_cmp}
use Rattle.table_types.specs.Rows.{StoredRow}
use Rattle.table_rows.proofs.FirstLaws.{all_passed, any_found, key_found, next_passed}
use Rattle.table_rows.proofs.map_rows.MapRowsRows.first_to_end.Goals as goal

pub loop-entry-preserved : goal.loop-entry-preserved
loop-entry-preserved c =
    let first = option_map (λ e. (e.0.now, e.1.now)) c.loop-entry.first in
    next_passed c.loop-entry.entry-iterator c.next.new.self c.args.self.now first _ (c.first_of.result.0.now, c.first_of.result.1.now) c.in-Some.ensures.steps c.first_of.ensures c.loop-entry.invariant

pub returns-clause-first : goal.returns-clause-first
returns-clause-first c =
    let rising : IsStrictlySortedBy key_cmp (keys_of c.args.self.now) = subst (λ (l : List (Key × StoredRow)). IsStrictlySortedBy key_cmp (keys_of l)) c.self.view_is c.self.invariant in
    let first = option_map (λ e. (e.0.now, e.1.now)) c.loop-entry.first in
    key_found (λ e. (e.0.now, e.1.now)) c.loop-entry.first (option_copied c.key_of.result) c.args.self.now rising c.key_of.ensures.key
    (all_passed c.loop-entry.entry-iterator c.args.self.now first c.in-None.ensures.steps.0 c.loop-entry.invariant)

pub returns-clause-some : goal.returns-clause-some
returns-clause-some c =
    let first = option_map (λ e. (e.0.now, e.1.now)) c.loop-entry.first in
    any_found (λ e. (e.0.now, e.1.now)) c.loop-entry.first (is_some c.key_of.result) c.args.self.now c.key_of.ensures.some
    (all_passed c.loop-entry.entry-iterator c.args.self.now first c.in-None.ensures.steps.0 c.loop-entry.invariant)
