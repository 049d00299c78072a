use Rattle.std.proofs.Common.{◌≡◌, drop}
use Rattle.std.specs.List.{list_any}
use Rattle.node_core.specs.CatchingUp.{has_answered}
use Rattle.node_core.proofs.asking.any_answered.Given as goal

-- whether one is such is whether one not yet looked at is
abbrev pub invariant-loop-peer : goal.invariant-loop-peer
invariant-loop-peer l = list_any (λ p. has_answered p.standing) (drop l.peer-index l.peers) ≡ list_any (λ p. has_answered p.standing) l.peers
