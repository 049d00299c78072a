use Rattle.std.proofs.Common.{arith}
use Rattle.peers_msg.proofs.DataLengths.{framed_grows}
use Rattle.peers_msg.proofs.sizes.named_sizes.Goals as goal

pub returns-clause-less : goal.returns-clause-less
returns-clause-less c =
    framed_grows _ _ c.framed_size.result c.framed_size-2.result c.framed_size.ensures.exact c.framed_size-2.ensures.exact (omega (arith, c.name_sizes-read.ensures.less))
