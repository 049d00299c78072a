use Rattle.interleave_core.proofs.SoundConnections.{ended}
use Rattle.interleave_core.proofs.connection_laws.the_learner_ends_as_known.Goals as goal

pub returns : goal.returns
returns c = ended
