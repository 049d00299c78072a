use Rattle.peers_msg.proofs.CuttingIndependence.{whole}
use Rattle.peers_msg.proofs.SameEndHoweverCut.{same_end, same_breach}
use Rattle.peers_msg.proofs.laws.any_cutting.Goals as goal

pub returns-clause-whole : goal.returns-clause-whole
returns-clause-whole c = whole

pub returns-clause-same : goal.returns-clause-same
returns-clause-same c = same_end

pub returns-clause-breach : goal.returns-clause-breach
returns-clause-breach c = same_breach
