use Rattle.std.proofs.Common.{refl}
use Rattle.table_types.specs.declared.version.Version.TheVariants as versions
use Rattle.table_cell.specs.Histories.{Opens}
use Rattle.table_cell.specs.declared.events.CellEvent.TheVariants as events
use Rattle.table_cell.specs.declared.events.CellReply.TheVariants as replies
use Rattle.node_commands.proofs.TrackLaws.{held_worked}
use Rattle.node_commands.proofs.rounds.open.Goals as goal

pub returns-in-Ok : goal.returns-in-Ok
returns-in-Ok g c =
    held_worked (λ d r e. Opens d 1 versions.V21 r e) (events.Open 1 versions.V21) (λ done. replies.Open) c.deref_mut.result.now c.open_session.new.locked c.args.seat.now c.open_session.new.seat c.open_session.result c.in-Ok.field-0 refl c.in-Ok.is c.open_session.ensures
