use Rattle.std.proofs.Common.{◌≡◌, ◌<◌, false, List, length, Option, subst}
use Rattle.retention_flow.specs.declared.steps.Step.{Step}
use Rattle.retention_flow.specs.declared.steps.ResidualArc.TheVariants as residuals
use Rattle.retention_flow.specs.Network.{is_reached}
use Rattle.retention_flow.proofs.SearchGoesOn.{fewer_unreached}
use Rattle.retention_flow.proofs.distances.find_distances.Goals as goal

pub loop-node-smaller : goal.loop-node-smaller
loop-node-smaller c =
    let node = c.in-Some.node in
    let fresh = subst (λ (l : List (Option Step)). (node < length l) × (is_reached l node ≡ false)) c.deref.ensures.value c.in-Some.ensures in
    fewer_unreached c.loop-node.steps.items node (record { rank = 0; arc = residuals.Start }) fresh.0 fresh.1
