use Rattle.std.proofs.Common.{◌≡◌, ℕ, ◌^◌, ◌<◌, ◌≤◌, List, length, slice_index}
use Rattle.known_state.specs.Requests.{Asked}
use Rattle.known_state.specs.Plans.{at_start}
use Rattle.retention_flow.specs.Network.{AreArcs, GoBack, SaveLittle, IsCalm, IsRoom}
use Rattle.retention_flow.proofs.adding.add_slots.Given as goal

abbrev pub invariant-loop : goal.invariant-loop
invariant-loop l = record {
  calm : IsCalm l.heights l.room l.arcs;
  low : slice_index l.heights (length l.fn.arcs) ≤ 2 ^ 27;
  back : GoBack l.arcs;
  little : SaveLittle l.arcs;
  many : length l.arcs ≡ length l.fn.arcs;
  later : (length l.later.items ≡ length l.arcs) × ((node : ℕ) → node < length l.arcs → slice_index l.later.items node < length l.arcs);
  first_arcs : (place : ℕ) → place < length l.first.items → slice_index l.first.items place < length l.arcs;
  room : IsRoom l.counter l.room l.arcs;
  arcs : (held : List (List ℕ)) (rs : List Asked) → AreArcs (at_start held) rs l.fn.arcs → AreArcs (at_start held) rs l.arcs;
}
