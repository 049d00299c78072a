use Rattle.tolerant_intake.proofs.ReadingGoesOn.{reads_redue}
use Rattle.tolerant_intake.proofs.laws.due_ids_change_nothing.Goals as goal

pub returns : goal.returns
returns c = reads_redue
