use Rattle.table_cell.specs.Histories as histories
use Rattle.table_cell.specs.declared.events.CellEvent.TheVariants as events
use Rattle.table_cell.specs.declared.events.CellReply.TheVariants as replies
use Rattle.node_commands.proofs.LoadingLaws.{leaves_ok, one_learned}
use Rattle.node_commands.proofs.node.loading.learn.Goals as goal

pub returns-in-Ok-clause-learned : goal.returns-in-Ok-clause-learned
returns-in-Ok-clause-learned g c =
    let s = c.args.seat.now in
    let e = c.learn.new.seat in
    let cell = c.deref_mut.result.now in
    let own = c.in_ok-own.own in
    let now = c.least-now.result in
    let left = leaves_ok (λ d r e. histories.Learns d 1 own now r e) (events.Learn 1 own now) replies.Learn c.args.table cell c.learn.new.locked s e c.learn.result c.in-Ok.is c.learn.ensures in
    one_learned c.args.table now c.args.update.now own s e cell (replies.Learn left.0) c.in_ok-own.ensures c.least-now.ensures left.1
