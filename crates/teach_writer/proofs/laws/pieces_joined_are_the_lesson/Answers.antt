use Rattle.teach_writer.proofs.OneLesson.{pieces_joined, pieces_of_lesson}
use Rattle.teach_writer.proofs.laws.pieces_joined_are_the_lesson.Goals as goal

pub returns-clause-joined : goal.returns-clause-joined
returns-clause-joined c = pieces_joined

pub returns-clause-lesson : goal.returns-clause-lesson
returns-clause-lesson c = pieces_of_lesson
