use Rattle.known_state.proofs.ReadsNeedSlots.{reads_linked, reads_room}
use Rattle.known_state.proofs.plan_laws.reads_need_slots.Goals as goal

pub returns-clause-linked : goal.returns-clause-linked
returns-clause-linked c = reads_linked

pub returns-clause-room : goal.returns-clause-room
returns-clause-room c = reads_room
