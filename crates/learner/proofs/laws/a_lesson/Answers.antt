use Rattle.std.proofs.Common.{refl}
use Rattle.learner.proofs.KnownLessons.{lesson_learned, lesson_in_pieces, lesson_in_time, lesson_faultless}
use Rattle.learner.proofs.laws.a_lesson.Goals as goal

pub returns-clause-fresh : goal.returns-clause-fresh
returns-clause-fresh c = λ roster sound. ((sound, tt, refl, refl), tt, refl)

pub returns-clause-whole : goal.returns-clause-whole
returns-clause-whole c = lesson_learned

pub returns-clause-pieces : goal.returns-clause-pieces
returns-clause-pieces c = lesson_in_pieces

pub returns-clause-moments : goal.returns-clause-moments
returns-clause-moments c = lesson_in_time

pub returns-clause-faultless : goal.returns-clause-faultless
returns-clause-faultless c = lesson_faultless
