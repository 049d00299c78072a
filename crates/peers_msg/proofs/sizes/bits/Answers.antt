use Rattle.std.proofs.Common.{◌≡◌, ◌^◌, None, arith, ap, ℕ}
use Rattle.table_types.specs.DataTypes.{id_of}
use Rattle.table_types.specs.declared.data_type.DataType.TheVariants.{ServerId}
use Rattle.std.specs.Prelude.{slice_index_or}
use Rattle.peers_msg.proofs.DataLengths.{bit_fits}
use Rattle.peers_msg.proofs.sizes.bits.Goals as goal

pub overflow_add-bits : goal.overflow_add-bits
overflow_add-bits c =
    let fits = bit_fits c.args.types.now c.loop-entry.entry-index c.loop-entry.bits (ServerId, None) c.requires c.loop-entry-test.true c.loop-entry.invariant in
    let same : 2 ^ c.id.result ≡ 2 ^ id_of (slice_index_or c.args.types.now c.loop-entry.entry-index (ServerId, None)).0 = ap (λ (k : ℕ). 2 ^ k) c.id.ensures in
    omega (arith, fits, same)
