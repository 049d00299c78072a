use Rattle.std.proofs.Common.{◌≡◌, ◌≤◌, ℕ, List, length, drop}
use Rattle.known_state.specs.Plans.{keeps_next}
use Rattle.teach_writer.specs.NextRequests.{is_first_kept, kept_next}
use Rattle.teach_writer.proofs.next_requests.next_kept.Given as goal

abbrev pub invariant-loop-index : goal.invariant-loop-index
invariant-loop-index l = record {
  within : l.index ≤ length l.requests;
  long : length l.next.items ≡ length l.requests;
  later : length l.later.items ≡ length l.requests;
  next : drop l.index l.next.items ≡ kept_next (drop l.index l.requests) (drop l.index l.keep);
  first : (name : List ℕ) → is_first_kept l.first name ≡ keeps_next name (drop l.index l.requests) (drop l.index l.keep);
}

abbrev pub decreases-loop-index : goal.decreases-loop-index
decreases-loop-index l = l.index
