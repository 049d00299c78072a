use Rattle.std.proofs.Common.{◌≡◌, ◌↔◌, ◌≤◌, ℕ, true, length}
use Rattle.table_types.specs.SlotIds.{is_slot}
use Rattle.teach_writer.specs.Retained.{retained_at}
use Rattle.teach_writer.specs.NextRequests.{is_first_kept, IsRetainedFirst}
use Rattle.teach_writer.proofs.next_requests.retained_first.Given as goal

abbrev pub invariant-loop-index : goal.invariant-loop-index
invariant-loop-index l = record {
  count : length l.retained ≡ 128;
  retained : (slot : ℕ) → is_slot slot ≡ true → slot ≤ l.index → (retained_at l.retained slot ≡ true) ↔ IsRetainedFirst l.slots (λ name. is_first_kept l.first name) slot;
}
