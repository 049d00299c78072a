use Rattle.std.proofs.Common.{◌≡◌, ℕ, ◌+◌, length, drop, slice_index}
use Rattle.known_state.specs.Plans.{kept_from}
use Rattle.retention_flow.specs.Network.{links_of}
use Rattle.retention_flow.proofs.room.kept_from.Given as goal

abbrev pub invariant-loop-arc : goal.invariant-loop-arc
invariant-loop-arc l = record {
  long : length l.begun.items ≡ length l.arcs;
  counted : (place : ℕ) → slice_index l.begun.items place + kept_from (links_of l.arc-index (drop l.arc-index l.arcs)) place ≡ kept_from (links_of 0 l.arcs) place;
}
