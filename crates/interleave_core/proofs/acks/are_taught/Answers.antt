use Rattle.interleave_core.specs.Acks.{IsTaught}
use Rattle.interleave_core.proofs.Arriving.{pair_at, pairs_more}
use Rattle.interleave_core.proofs.acks.are_taught.Goals as goal

pub returns-then-not-is_taught : goal.returns-then-not-is_taught
returns-then-not-is_taught c = λ all.
    c.if-not-is_taught.ensures (pair_at (IsTaught c.args.session c.args.cells.now) c.args.acks.now c.loop-ack.ack-index _ c.loop-ack-test.true all)

pub loop-ack-preserved : goal.loop-ack-preserved
loop-ack-preserved c =
    pairs_more (IsTaught c.args.session c.args.cells.now) c.args.acks.now c.loop-ack.ack-index _ c.loop-ack-test.true c.loop-ack.invariant c.if-not-is_taught.ensures
