use Rattle.teach_writer.proofs.LessonsAppend.{lesson-append}
use Rattle.teach_writer.proofs.UpdateStepsAreLegal.{legal-append, stream-append}
use Rattle.teach_writer.proofs.laws.lessons_append.Goals as goal

pub returns-clause-legal : goal.returns-clause-legal
returns-clause-legal c = legal-append

pub returns-clause-stream : goal.returns-clause-stream
returns-clause-stream c = stream-append

pub returns-clause-lesson : goal.returns-clause-lesson
returns-clause-lesson c = lesson-append
