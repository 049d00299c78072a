use Rattle.peers_engine.proofs.CallLaws.{learn_ends, learn_number}
use Rattle.peers_engine.proofs.tables.learn_at.Goals as goal

pub returns-clause-learned : goal.returns-clause-learned
returns-clause-learned c =
    (learn_ends c.args.number c.args.now c.args.seat.now c.learn.new.seat c.args.update c.args.locked.now c.learn.new.locked c.learn.result c.learn_end.result c.learn_end.ensures c.note_sound.ensures c.learn.ensures).0

pub returns-clause-refused : goal.returns-clause-refused
returns-clause-refused c =
    (learn_ends c.args.number c.args.now c.args.seat.now c.learn.new.seat c.args.update c.args.locked.now c.learn.new.locked c.learn.result c.learn_end.result c.learn_end.ensures c.note_sound.ensures c.learn.ensures).1

pub returns-clause-seat : goal.returns-clause-seat
returns-clause-seat c =
    learn_number c.args.number c.args.now c.args.seat.now c.learn.new.seat c.args.update c.args.locked.now c.learn.new.locked c.learn.result c.learn.ensures
