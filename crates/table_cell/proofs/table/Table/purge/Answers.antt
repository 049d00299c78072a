use Rattle.table_rows.specs.Rows.{is_live}
use Rattle.table_cell.proofs.LearnedLaws.{run_kept}
use Rattle.table_cell.proofs.table.Table.purge.Goals as goal

pub invariant_of-self : goal.invariant_of-self
invariant_of-self c =
    let run = c.self.inside.learned_run in
    let stock = c.self.inside.stock in
    rw c.drop_ended.ensures (run_kept (λ e. is_live c.args.now e.1) run.after run.last stock.next run.since stock.rows c.self.invariant)
