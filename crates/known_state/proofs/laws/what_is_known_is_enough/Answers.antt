use Rattle.known_state.proofs.TeacherAndLearnerInStep.{known_enough}
use Rattle.known_state.proofs.laws.what_is_known_is_enough.Goals as goal

pub returns : goal.returns
returns c = known_enough
