use Rattle.interleave_core.proofs.Arriving.{taught_at, untaught}
use Rattle.interleave_core.proofs.acks.is_taught.Goals as goal

pub returns-in-Some : goal.returns-in-Some
returns-in-Some c =
    taught_at c.can_ack.result c.args.session c.args.ack.table c.args.ack.number c.in-Some.index c.args.cells.now c.index-cells-index.result c.in-Some.ensures.found c.index-cells-index.is c.can_ack.ensures

pub returns-in-None : goal.returns-in-None
returns-in-None c = untaught c.args.session c.args.ack.table c.args.ack.number c.args.cells.now c.in-None.ensures.none
