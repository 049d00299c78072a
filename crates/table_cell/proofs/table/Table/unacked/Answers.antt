use Rattle.std.proofs.Common.{◌≡◌, ◌∷◌, ◌<◌, true, List, length, sym, ap, subst, ◌∙◌, arith}
use Rattle.std.specs.Prelude.{filter, map, take}
use Rattle.std.specs.List.{AllByRecursion}
use Rattle.table_types.specs.declared.key.Key.{Key}
use Rattle.table_types.specs.Rows.{StoredRow}
use Rattle.table_cell.specs.Copying.{update_of}
use Rattle.table_cell.specs.Machine.{TableState, in_reach, is_unacked}
use Rattle.table_cell.specs.Soundness.{EntryFits}
use Rattle.table_stock.proofs.RowsLaws.{all_filter}
use Rattle.table_cell.proofs.StepLaws.{later_sound}
use Rattle.table_cell.proofs.UnackedLaws.{is_above, next_chosen, none_done, one_done}
use Rattle.table_cell.proofs.ReachLaws.{chosen_above, is_chosen, reach_same}
use Rattle.table_cell.proofs.table.Table.unacked.Goals as goal

pub loop-key-init : goal.loop-key-init
loop-key-init c =
    let rows : c.above-key-items.result ≡ filter (is_above c.copy_start.result) c.args.self.now.rows =
    subst (λ (s : TableState). c.above-key-items.result ≡ filter (is_above c.copy_start.result) s.rows) c.self.view_is c.above-key-items.ensures in
    let is : c.into_iter-key-iterator.result ≡ filter (is_above c.copy_start.result) c.args.self.now.rows = c.into_iter-key-iterator.ensures.into_iter_gives ∙ rows in (
      none_done (update_of c.args.progress.version c.args.self.now.definition c.args.now) c.new-updates.result.items c.args.limit (filter (is_chosen c.args.kind c.args.progress.bound c.args.now) c.into_iter-key-iterator.result)
          (filter (is_unacked c.args.kind c.args.progress.acknowledged c.args.now) (in_reach c.args.kind c.args.progress.bound c.args.self.now.rows)) c.new-updates.ensures.items
          (ap (filter (is_chosen c.args.kind c.args.progress.bound c.args.now)) is ∙ chosen_above c.args.kind c.args.progress.bound c.copy_start.result c.args.now c.args.self.now.rows
          ∙ sym (reach_same c.args.kind c.args.progress.bound (is_unacked c.args.kind c.args.progress.acknowledged c.args.now) (is_unacked c.args.kind c.copy_start.result c.args.now) c.args.self.now.rows c.copy_start.ensures.same)),
      subst (λ (l : List (Key × StoredRow)). AllByRecursion (EntryFits c.args.self.now.definition c.args.now) l) (sym is)
          (all_filter (EntryFits c.args.self.now.definition c.args.now) (is_above c.copy_start.result) c.args.self.now.rows (later_sound c.args.self.now c.args.now c.requires.sound c.requires.later)),
    )

pub loop-key-preserved-in_ok-push : goal.loop-key-preserved-in_ok-push
loop-key-preserved-in_ok-push c =
    let due : is_chosen c.args.kind c.args.progress.bound c.args.now (c.in-Some.key.now, c.in-Some.row.now) ≡ true = sym c.is_chosen.ensures ∙ c.if-is_chosen.true in
    let same : c.in_ok-update_of.field-0 ≡ update_of c.args.progress.version c.args.self.now.definition c.args.now (c.in-Some.key.now, c.in-Some.row.now) =
    subst (λ (s : TableState). c.in_ok-update_of.field-0 ≡ update_of c.args.progress.version s.definition c.args.now (c.in-Some.key.now, c.in-Some.row.now)) c.self.view_is c.in_ok-update_of.ensures in
    let below : length c.loop-key.updates.items < c.args.limit = omega (arith, c.if-len-limit.false, c.len.ensures, c.loop-key.updates.ok.0) in
    let left : AllByRecursion (EntryFits c.args.self.now.definition c.args.now) ((c.in-Some.key.now, c.in-Some.row.now) ∷ c.next.new.self) =
    subst (λ (l : List (Key × StoredRow)). AllByRecursion (EntryFits c.args.self.now.definition c.args.now) l) c.in-Some.ensures.steps c.loop-key.invariant.1 in (
      one_done (update_of c.args.progress.version c.args.self.now.definition c.args.now) c.loop-key.updates.items c.push.new.self.items
          (take c.args.limit (map (update_of c.args.progress.version c.args.self.now.definition c.args.now) (filter (is_unacked c.args.kind c.args.progress.acknowledged c.args.now) (in_reach c.args.kind c.args.progress.bound c.args.self.now.rows))))
          c.args.limit (c.in-Some.key.now, c.in-Some.row.now) c.in_ok-update_of.field-0
          (filter (is_chosen c.args.kind c.args.progress.bound c.args.now) c.loop-key.key-iterator) (filter (is_chosen c.args.kind c.args.progress.bound c.args.now) c.next.new.self)
          c.in_ok-push.ensures.items same (next_chosen (is_chosen c.args.kind c.args.progress.bound c.args.now) (c.in-Some.key.now, c.in-Some.row.now) c.loop-key.key-iterator c.next.new.self c.in-Some.ensures.steps due) below c.loop-key.invariant.0,
      left.1,
    )
