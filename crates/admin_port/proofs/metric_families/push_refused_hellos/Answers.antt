use Rattle.admin_port.specs.Metrics.{refused_hellos_family}
use Rattle.admin_port.proofs.Chains.{before_rest}
use Rattle.admin_port.proofs.metric_families.push_refused_hellos.Goals as goal

pub loop-hellos-init : goal.loop-hellos-init
unfolding refused_hellos_family
loop-hellos-init c = before_rest _ _ _ _ c.in_ok-push_head.ensures
