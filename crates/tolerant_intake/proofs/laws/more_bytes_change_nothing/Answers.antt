use Rattle.tolerant_intake.proofs.ReadingGoesOn.{reads_more, faulty_more}
use Rattle.tolerant_intake.proofs.laws.more_bytes_change_nothing.Goals as goal

pub returns-clause-reads : goal.returns-clause-reads
returns-clause-reads c = reads_more

pub returns-clause-stops : goal.returns-clause-stops
returns-clause-stops c = faulty_more
