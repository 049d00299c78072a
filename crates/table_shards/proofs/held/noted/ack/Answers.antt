use Rattle.std.proofs.Common.{ap, ◌∙◌}
use Rattle.table_cell.specs.Histories.{events_of}
use Rattle.table_shards.proofs.NotedLaws.{noted_as}
use Rattle.table_shards.proofs.held.noted.ack.Goals as goal

pub returns : goal.returns
returns c =
    let events = c.events-events.ensures.events ∙ ap events_of c.cell.ensures in
    let left = noted_as c.args.table c.args.session c.events-events.result (events_of c.args.locked.now) c.if_untaken.result _ c.ack-settled.new.seat c.note.new.self c.note.ensures events c.if_untaken.ensures in
    (c.ack-settled.new.seat, c.ack-settled.ensures, left)
