use Rattle.std.proofs.Common.{refl}
use Rattle.interleave_core.specs.Acks.{pairs_of}
use Rattle.interleave_core.proofs.Arriving.{no_room_asked, room_at}
use Rattle.interleave_core.proofs.acks.has_room.Goals as goal

pub returns-in-Some : goal.returns-in-Some
returns-in-Some c =
    room_at _ c.args.table c.in-Some.index c.count_of.result c.room.result c.args.cells.now c.index-cells-index.result c.args.acks.now c.in-Some.ensures.found c.index-cells-index.is c.count_of.ensures c.room.ensures refl

pub returns-in-None : goal.returns-in-None
returns-in-None c = no_room_asked c.args.table c.args.cells.now (pairs_of c.args.acks.now) c.in-None.ensures.none
