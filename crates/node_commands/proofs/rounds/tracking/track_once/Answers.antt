use Rattle.table_cell.specs.Histories as histories
use Rattle.table_cell.specs.declared.events.CellEvent.TheVariants as events
use Rattle.table_cell.specs.declared.events.CellReply.TheVariants as replies
use Rattle.table_types.specs.declared.change.Change.TheVariants as changes
use Rattle.table_types.specs.declared.data_type.DataType.TheVariants as types
use Rattle.table_types.specs.declared.key.Key.TheVariants as keys
use Rattle.node_commands.proofs.LoadingLaws.{leaves_ok}
use Rattle.node_commands.proofs.TrackLaws.{one_tracked}
use Rattle.node_commands.proofs.rounds.tracking.track_once.Goals as goal

pub returns-in-Ok : goal.returns-in-Ok
returns-in-Ok g c =
    let s = c.args.seat.now in
    let e = c.track.new.seat in
    let cell = c.deref_mut.result.now in
    let event = events.Track s.number (keys.Int c.args.key) (changes.Add types.Gpc0 1) c.least-now.result in
    let left = leaves_ok (λ d r e. histories.Tracks d s.number (keys.Int c.args.key) (changes.Add types.Gpc0 1) c.least-now.result r e) event replies.Track 1 cell c.track.new.locked s e c.track.result c.in-Ok.is c.track.ensures in
    one_tracked c.args.key c.least-now.result s e cell (replies.Track left.0) c.least-now.ensures left.1
