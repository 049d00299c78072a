use Rattle.std.proofs.Common.{◌≡◌, ◌||◌, not, drop}
use Rattle.std.specs.List.{list_all}
use Rattle.node_core.specs.CatchingUp.{can_be_asked, is_no_later}
use Rattle.node_core.proofs.asking.is_first_of.Given as goal

-- whether all are such is whether those not yet looked at are
abbrev pub invariant-loop-other : goal.invariant-loop-other
invariant-loop-other l = list_all (λ q. not (can_be_asked l.now q) || is_no_later l.one.asked_at q.asked_at) (drop l.other-index l.peers) ≡ list_all (λ q. not (can_be_asked l.now q) || is_no_later l.one.asked_at q.asked_at) l.peers
