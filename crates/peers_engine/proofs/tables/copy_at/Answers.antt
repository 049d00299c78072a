use Rattle.peers_engine.proofs.CallLaws.{copy_ends, copy_number}
use Rattle.peers_engine.proofs.tables.copy_at.Goals as goal

pub returns-clause-answer : goal.returns-clause-answer
returns-clause-answer c =
    (copy_ends c.args.number c.args.now c.args.seat.now c.copy.new.seat c.args.table c.args.kind c.args.locked.now c.copy.result c.copy_end.result c.copy_end.ensures (c.note_sound.ensures, c.copy.new.locked, c.copy.ensures)).0

pub returns-clause-refused : goal.returns-clause-refused
returns-clause-refused c =
    (copy_ends c.args.number c.args.now c.args.seat.now c.copy.new.seat c.args.table c.args.kind c.args.locked.now c.copy.result c.copy_end.result c.copy_end.ensures (c.note_sound.ensures, c.copy.new.locked, c.copy.ensures)).1

pub returns-clause-seat : goal.returns-clause-seat
returns-clause-seat c =
    copy_number c.args.number c.args.now c.args.seat.now c.copy.new.seat c.args.table c.args.kind c.args.locked.now c.copy.result (c.note_sound.ensures, c.copy.new.locked, c.copy.ensures)
