use Rattle.std.proofs.Common.{◌≡◌, length, take}
use Rattle.table_types.specs.SlotIds.{slot_count}
use Rattle.dict_slots.proofs.slots.Slots.copy.Given as goal

abbrev pub invariant-loop-index : goal.invariant-loop-index
invariant-loop-index l = (length l.copy-inside.names ≡ slot_count) × (take l.index l.copy-inside.names ≡ take l.index l.held-items)
