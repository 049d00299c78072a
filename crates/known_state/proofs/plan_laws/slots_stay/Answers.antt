use Rattle.known_state.proofs.ReadsNeedSlots.{slots_stay_all}
use Rattle.known_state.proofs.plan_laws.slots_stay.Goals as goal

pub returns : goal.returns
returns c = slots_stay_all
