use Rattle.admin_port.specs.Metrics.{faults_family}
use Rattle.admin_port.proofs.Chains.{before_rest}
use Rattle.admin_port.proofs.metric_families.push_faults.Goals as goal

pub loop-fault-init : goal.loop-fault-init
unfolding faults_family
loop-fault-init c = before_rest _ _ _ _ c.in_ok-push_head.ensures
