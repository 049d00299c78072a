use Rattle.table_types.specs.declared.version.Version.TheVariants as versions
use Rattle.table_cell.specs.Histories as histories
use Rattle.table_cell.specs.declared.events.CellEvent.TheVariants as events
use Rattle.table_cell.specs.declared.events.CellReply.TheVariants as replies
use Rattle.table_shards.specs.Holding.{receipted}
use Rattle.node_commands.proofs.LoadingLaws.{one_gained}
use Rattle.node_commands.proofs.TrackLaws.{held_ok}
use Rattle.node_commands.proofs.node.loading.open_one.Goals as goal

pub returns-in-Ok-clause-opened : goal.returns-in-Ok-clause-opened
returns-in-Ok-clause-opened g c =
    let s = c.args.seat.now in
    let e = c.open_session.new.seat in
    let cell = c.deref_mut.result.now in
    one_gained c.args.table (events.Open c.args.session versions.V21) s e cell replies.Open
    (held_ok (λ d r e. histories.Opens d c.args.session versions.V21 r e) (λ done. receipted c.args.table cell s (events.Open c.args.session versions.V21) replies.Open)
    c.args.table cell c.open_session.new.locked s e c.open_session.result tt c.in-Ok.is c.open_session.ensures)
