use Rattle.interleave_core.proofs.LessonBytes.{lesson_is}
use Rattle.interleave_core.proofs.byte_laws.a_lesson_is_bytes.Goals as goal

pub returns : goal.returns
returns c = lesson_is
