use Rattle.teach_writer.proofs.MarksAreReads.{marks_read}
use Rattle.teach_writer.proofs.laws.marks_are_reads.Goals as goal

pub returns : goal.returns
returns c = marks_read
