use Rattle.std.proofs.Common.{◌≡◌, List, sym, ap, subst, ◌∙◌}
use Rattle.std.specs.Prelude.{filter, slice_get}
use Rattle.table_types.specs.declared.key.Key.{Key}
use Rattle.table_types.specs.Rows.{StoredRow}
use Rattle.table_cell.specs.Machine.{TableState, is_unacked}
use Rattle.table_cell.proofs.UnackedLaws.{is_above}
use Rattle.table_cell.proofs.ReachLaws.{chosen_above, is_chosen, reach_same}
use Rattle.table_cell.proofs.table.Table.first_unacked.Goals as goal

pub loop-key-init : goal.loop-key-init
loop-key-init c =
    let rows : c.above-key-items.result ≡ filter (is_above c.copy_start.result) c.args.self.now.rows =
    subst (λ (s : TableState). c.above-key-items.result ≡ filter (is_above c.copy_start.result) s.rows) c.self.view_is c.above-key-items.ensures in
    ap (λ (l : List (Key × StoredRow)). slice_get l 0) (ap (filter (is_chosen c.args.kind c.args.bound c.args.now)) (c.into_iter-key-iterator.ensures.into_iter_gives ∙ rows) ∙ chosen_above c.args.kind c.args.bound c.copy_start.result c.args.now c.args.self.now.rows
    ∙ sym (reach_same c.args.kind c.args.bound (is_unacked c.args.kind c.args.number c.args.now) (is_unacked c.args.kind c.copy_start.result c.args.now) c.args.self.now.rows c.copy_start.ensures.same))
