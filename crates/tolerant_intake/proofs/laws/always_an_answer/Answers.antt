use Rattle.tolerant_intake.proofs.ReadingGoesOn.{always_reads}
use Rattle.tolerant_intake.proofs.laws.always_an_answer.Goals as goal

pub returns : goal.returns
returns c = always_reads
