use Rattle.interleave_core.proofs.SoundConnections.{read_whole}
use Rattle.interleave_core.proofs.connection_laws.acknowledgements_are_read.Goals as goal

pub returns : goal.returns
returns c = read_whole
