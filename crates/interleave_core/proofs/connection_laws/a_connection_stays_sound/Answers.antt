use Rattle.interleave_core.proofs.SoundConnections.{acknowledged, arrived, begun, copied, delivered, taught}
use Rattle.interleave_core.proofs.connection_laws.a_connection_stays_sound.Goals as goal

pub returns-clause-begun : goal.returns-clause-begun
returns-clause-begun c = begun

pub returns-clause-copied : goal.returns-clause-copied
returns-clause-copied c = copied

pub returns-clause-taught : goal.returns-clause-taught
returns-clause-taught c = taught

pub returns-clause-delivered : goal.returns-clause-delivered
returns-clause-delivered c = delivered

pub returns-clause-acknowledged : goal.returns-clause-acknowledged
returns-clause-acknowledged c = acknowledged

pub returns-clause-arrived : goal.returns-clause-arrived
returns-clause-arrived c = arrived
