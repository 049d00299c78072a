use Rattle.std.proofs.Common.{◌≡◌, List, ℕ, take}
use Rattle.std.specs.BTreeMap.{get_by}
use Rattle.std.specs.Cmp.Lexicographic.{slice_cmp}
use Rattle.std.specs.Ordering.{nat_cmp}
use Rattle.known_state.specs.Plans.{at_start}
use Rattle.retention_flow.proofs.arcs.held_at_start.Given as goal

abbrev pub invariant-loop-name : goal.invariant-loop-name
invariant-loop-name l = (name : List ℕ) → get_by (λ key. slice_cmp nat_cmp name key.now) l.last ≡ (at_start (take l.name-index l.held)).last name
