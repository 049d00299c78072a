use Rattle.interleave_core.specs.Bytes.{IsOfBytes}
use Rattle.interleave_core.proofs.Running.{all_further}
use Rattle.interleave_core.proofs.byte_laws.a_batch_is_of_bytes.Goals as goal

pub loop-update-preserved : goal.loop-update-preserved
loop-update-preserved c =
    all_further IsOfBytes c.updates-update-items.result.now c.loop-update.update-index c.update-item.result c.loop-update-test.true c.update-item.is c.update_is_bytes.ensures c.loop-update.invariant
