use Rattle.tolerant_intake.proofs.ReadingGoesOn.{memory_stays, reads_once}
use Rattle.tolerant_intake.proofs.laws.one_answer.Goals as goal

pub returns-clause-memory : goal.returns-clause-memory
returns-clause-memory c = memory_stays

pub returns-clause-once : goal.returns-clause-once
returns-clause-once c = reads_once
