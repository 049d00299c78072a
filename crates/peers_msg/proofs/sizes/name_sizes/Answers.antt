use Rattle.std.proofs.Common.{arith}
use Rattle.peers_msg.proofs.DataLengths.{name_grows}
use Rattle.peers_msg.proofs.sizes.name_sizes.Goals as goal

pub returns-clause-less : goal.returns-clause-less
returns-clause-less c =
    let less = name_grows 1 c.len.result c.written_size.result c.as_slice.result.now c.len.ensures.exact c.written_size.ensures.exact in
    omega (arith, c.counted_size.ensures.exact, c.counted_size-2.ensures.exact, less)
