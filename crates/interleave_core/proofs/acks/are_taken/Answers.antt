use Rattle.interleave_core.specs.Acks.{pairs_of}
use Rattle.interleave_core.proofs.Arriving.{not_taken, taken_with_room}
use Rattle.interleave_core.proofs.acks.are_taken.Goals as goal

pub returns-then-are_taught : goal.returns-then-are_taught
returns-then-are_taught c =
    taken_with_room c.have_room.result c.args.session (pairs_of c.args.acks.now) c.args.cells.now c.if-are_taught.ensures c.have_room.ensures

pub returns-else-are_taught : goal.returns-else-are_taught
returns-else-are_taught c =
    not_taken c.are_taught.result c.args.session (pairs_of c.args.acks.now) c.args.cells.now c.if-are_taught.false c.are_taught.ensures
