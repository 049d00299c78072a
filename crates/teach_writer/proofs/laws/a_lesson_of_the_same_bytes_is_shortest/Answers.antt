use Rattle.teach_writer.proofs.LessonsAppend.{shortest_lesson}
use Rattle.teach_writer.proofs.laws.a_lesson_of_the_same_bytes_is_shortest.Goals as goal

pub returns : goal.returns
returns c = shortest_lesson
