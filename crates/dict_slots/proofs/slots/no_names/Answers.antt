use Rattle.std.specs.Prelude.{None}
use Rattle.table_types.specs.SlotIds.{slot_count}
use Rattle.dict_slots.proofs.Repeated.{all_same}
use Rattle.dict_slots.proofs.slots.no_names.Goals as goal

pub returns : goal.returns
returns c = all_same slot_count None c.default.result c.default.ensures.long (λ k. c.default.ensures.at k None)
