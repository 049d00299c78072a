use Rattle.std.proofs.Common.{◌<◌, ap, arith, length, sym, ◌∙◌}
use Rattle.std.specs.Prelude.{nat_lt}
use Rattle.table_stock.specs.Shelves.{ListInLog}
use Rattle.table_stock.proofs.LogLaws.{room_after, room_over}
use Rattle.table_stock.proofs.log.Log.make_room.Goals as goal

pub returns-then-self-len-clause-room : goal.returns-then-self-len-clause-room
returns-then-self-len-clause-room c =
    let log = c.self.inside in
    sym (ap (λ (l : ListInLog). l.has_room) c.self.view_is) ∙ room_over log.end (length log.entries.items) log.entries.has_room (omega (arith, c.if-self-len.true, c.len.ensures))

pub returns-clause-room : goal.returns-clause-room
returns-clause-room c = room_after (nat_lt c.self.inside.end (length c.reserve_one.new.self.items)) c.reserve_one.new.self.has_room c.in_ok-reserve_one.ensures.room
