use Rattle.admin_port.specs.PeerMetrics.{resyncs_family}
use Rattle.admin_port.proofs.Chains.{before_rest}
use Rattle.admin_port.proofs.peer_metrics.push_resyncs.Goals as goal

pub loop-peer-init : goal.loop-peer-init
unfolding resyncs_family
loop-peer-init c = before_rest _ _ _ _ c.in_ok-push_head.ensures
