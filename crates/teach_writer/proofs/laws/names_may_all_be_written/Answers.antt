use Rattle.teach_writer.proofs.WrittenLesson.{written_teaches, written_size, written_most}
use Rattle.teach_writer.proofs.laws.names_may_all_be_written.Goals as goal

pub returns-clause-lesson : goal.returns-clause-lesson
returns-clause-lesson c = written_teaches

pub returns-clause-size : goal.returns-clause-size
returns-clause-size c = written_size

pub returns-clause-most : goal.returns-clause-most
returns-clause-most c = written_most
