use Rattle.retention_flow.proofs.CalmHeights.{calm_is_accepted}
use Rattle.retention_flow.proofs.laws.calm_heights_are_accepted.Goals as goal

pub returns : goal.returns
returns c = calm_is_accepted
