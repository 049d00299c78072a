use Rattle.teach_writer.specs.Pieces.{bytes_left}
use Rattle.teach_writer.proofs.LessonsAppend.{shortest_lesson}
use Rattle.peers_engine.proofs.doing.plan.Goals as goal

pub returns-in-Ok-clause-lesson : goal.returns-in-Ok-clause-lesson
returns-in-Ok-clause-lesson g c =
    shortest_lesson c.args.known.now c.in-Ok.pieces.known c.args.batch.now (bytes_left c.in-Ok.pieces) c.in-Ok.ensures.taught c.in-Ok.ensures.shortest
