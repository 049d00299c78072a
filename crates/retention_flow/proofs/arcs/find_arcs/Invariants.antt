use Rattle.std.proofs.Common.{◌≡◌, ◌++◌, drop}
use Rattle.std.specs.BTreeMap.{get_by}
use Rattle.std.specs.Cmp.Lexicographic.{slice_cmp}
use Rattle.std.specs.Ordering.{nat_cmp}
use Rattle.known_state.specs.Plans.{at_start}
use Rattle.retention_flow.specs.Network.{arcs_from, SaveLittle}
use Rattle.retention_flow.proofs.arcs.find_arcs.Given as goal

abbrev pub invariant-loop-index : goal.invariant-loop-index
invariant-loop-index l = record {
  are : l.arcs.items ++ arcs_from (record { place = l.index; last = λ name. get_by (λ key. slice_cmp nat_cmp name key.now) l.last }) (drop l.index l.requests)
      ≡ arcs_from (at_start l.held) l.requests;
  little : SaveLittle l.arcs.items;
}
