use Rattle.std.proofs.Common.{◌≤◌, arith}
use Rattle.table_cell.proofs.LearnedLaws.{run_passed}
use Rattle.table_cell.proofs.table.Table.copy_start.Goals as goal

pub returns-in-Push-clause-same : goal.returns-in-Push-clause-same
returns-in-Push-clause-same c =
    let run = c.self.inside.learned_run in
    let later : run.since ≤ c.args.now = omega (arith, c.if-milliseconds.true, c.milliseconds.ensures.value, c.milliseconds-then-number-last.ensures.value) in
    rw (c.in-Push.is, ← c.self.view_is) (run_passed run.after run.last c.args.number c.self.inside.stock.next run.since c.args.now c.self.inside.stock.rows c.if-after-number.true c.if-number-last.true later c.self.invariant)
