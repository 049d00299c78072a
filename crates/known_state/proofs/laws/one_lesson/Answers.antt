use Rattle.known_state.proofs.StepIsDeterministic.{one_lesson}
use Rattle.known_state.proofs.laws.one_lesson.Goals as goal

pub returns : goal.returns
returns c = one_lesson
