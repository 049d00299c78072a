use Rattle.std.proofs.Common.{◌≡◌, ◌||◌, drop}
use Rattle.std.specs.List.{list_all}
use Rattle.node_core.specs.CatchingUp.{is_away, has_answered}
use Rattle.node_core.proofs.asking.all_answered.Given as goal

-- whether all are such is whether those not yet looked at are
abbrev pub invariant-loop-peer : goal.invariant-loop-peer
invariant-loop-peer l = list_all (λ p. is_away p.standing || has_answered p.standing) (drop l.peer-index l.peers) ≡ list_all (λ p. is_away p.standing || has_answered p.standing) l.peers
