use Rattle.std.proofs.Common.{ℕ, List}
use Rattle.known_state.specs.Requests.{Asked}
use Rattle.known_state.specs.Plans.{at_start}
use Rattle.retention_flow.specs.Network.{AreArcs, IsCalm, IsRoomFrom, IsSearch}
use Rattle.retention_flow.proofs.PathIsTurned.{IsWalk, rank_at}
use Rattle.retention_flow.proofs.augmenting.augment.Given as goal

abbrev pub invariant-loop-node : goal.invariant-loop-node
invariant-loop-node l = record {
  walk : (hs : List ℕ) (count slots : ℕ) → IsCalm hs l.fn.room l.fn.arcs → IsSearch hs l.fn.room l.fn.arcs l.fn.steps l.ends.source count → IsRoomFrom l.ends.target slots l.fn.room l.fn.arcs → IsWalk hs slots l.room l.arcs l.steps l.ends.source l.node;
  arcs : (held : List (List ℕ)) (rs : List Asked) → AreArcs (at_start held) rs l.fn.arcs → AreArcs (at_start held) rs l.arcs;
}

abbrev pub decreases-loop-node : goal.decreases-loop-node
decreases-loop-node l = rank_at l.steps l.node
