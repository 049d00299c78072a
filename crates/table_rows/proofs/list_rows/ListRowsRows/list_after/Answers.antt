use Rattle.std.proofs.Common.{◌≡◌, ◌<◌, ◌+◌, ◌∷◌, ◌++◌, [], length, option_copied, true, ap, arith, rules, subst, take, List, slice_index_or, ◌∙◌}
use Rattle.std.proofs.lemmas.List.{length-append}
use Rattle.table_types.specs.declared.key.Key.{Key}
use Rattle.table_types.specs.Rows.{StoredRow}
use Rattle.table_rows.specs.Rows.{follows, rows_after}
use Rattle.table_rows.proofs.ListLaws.{one_listed}
use Rattle.table_rows.proofs.list_rows.ListRowsRows.list_after.Goals as goal

pub loop-entry-preserved : goal.loop-entry-preserved
loop-entry-preserved c =
    let e = c.entry-item.result in
    let done = c.loop-entry.list.items in
    let after = option_copied c.args.after in
    let rows : c.deref-entry-items.result.now ≡ c.args.self.now = c.deref-entry-items.ensures.value ∙ c.self.view_is in
    let within : c.loop-entry.entry-index < length c.args.self.now = subst (λ (l : List (Key × StoredRow)). c.loop-entry.entry-index < length l) rows c.loop-entry-test.true in
    let is : e ≡ slice_index_or c.args.self.now c.loop-entry.entry-index e = subst (λ (l : List (Key × StoredRow)). e ≡ slice_index_or l c.loop-entry.entry-index e) rows c.entry-item.is in
    let longer : c.push.new.self.items ≡ done ++ e ∷ [] = search rules in
    let passes : follows after e.0 ≡ true = search rules in
    let below : length done < c.args.most = omega (arith, c.if-len-most.false, c.len.ensures, c.loop-entry.list.ok.0, c.loop-entry.invariant.1) in
    let sizes : length c.push.new.self.items ≡ length done + 1 = ap length longer ∙ length-append done (e ∷ []) in (
      one_listed (λ x. follows after x.0) c.args.self.now done (take c.args.most (rows_after after c.args.self.now)) c.args.most c.loop-entry.entry-index e within is c.push.new.self.items passes longer below c.loop-entry.invariant.0,
      omega (arith, sizes, below),
    )
