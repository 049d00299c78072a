use Rattle.std.proofs.Common.{◌≢◌, ℕ, ◌<◌, Some, None, slice_index_or}
use Rattle.dict_slots.proofs.slots.Slots.find.Given as goal

abbrev pub invariant-loop-index : goal.invariant-loop-index
invariant-loop-index l = (index : ℕ) → index < l.index → slice_index_or l.held-items index None ≢ Some l.name
