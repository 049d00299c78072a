use Rattle.std.proofs.Common.{subst}
use Rattle.peers_msg.specs.Integers.{IsBytes}
use Rattle.interleave_core.specs.Bytes.{IsNamedInBytes}
use Rattle.interleave_core.proofs.Running.{all_further}
use Rattle.interleave_core.proofs.byte_laws.a_roster_is_named_in_bytes.Goals as goal

pub loop-table-preserved : goal.loop-table-preserved
loop-table-preserved c =
    all_further IsNamedInBytes c.tables-table-items.result.now c.loop-table.table-index c.table-item.result c.loop-table-test.true c.table-item.is (subst IsBytes c.name.ensures c.slice_is_bytes.ensures) c.loop-table.invariant
