use Rattle.teach_writer.proofs.OneLesson.{one_lesson_by, one_sending}
use Rattle.teach_writer.proofs.laws.a_plan_has_one_lesson.Goals as goal

pub returns-clause-messages : goal.returns-clause-messages
returns-clause-messages c = one_sending

pub returns-clause-bytes : goal.returns-clause-bytes
returns-clause-bytes c = one_lesson_by
