use Rattle.std.proofs.Common.{◌≡◌, not, drop}
use Rattle.std.specs.List.{list_all}
use Rattle.node_core.specs.CatchingUp.{is_away}
use Rattle.node_core.proofs.asking.are_there.Given as goal

-- whether all are such is whether those not yet looked at are
abbrev pub invariant-loop-peer : goal.invariant-loop-peer
invariant-loop-peer l = list_all (λ p. not (is_away p.standing)) (drop l.peer-index l.peers) ≡ list_all (λ p. not (is_away p.standing)) l.peers
