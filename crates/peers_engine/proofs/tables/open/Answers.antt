use Rattle.std.proofs.Common.{inl, inr, refl}
use Rattle.std.proofs.lemmas.Result.{err_from_is_err_and}
use Rattle.peers_engine.proofs.CallLaws.{open_ends, open_number, refusal_weaker, refused_weaker}
use Rattle.peers_engine.proofs.tables.open.Goals as goal

pub returns-clause-opened : goal.returns-clause-opened
returns-clause-opened g c =
    (open_ends c.args.context.now.number c.args.version c.args.seat.now c.open_session.new.seat c.args.table c.open_session.result c.open_end.result c.open_end.ensures (c.deref_mut-locked.result.now, c.note_sound.ensures, c.open_session.new.locked, c.open_session.ensures)).0

pub returns-clause-refused : goal.returns-clause-refused
returns-clause-refused g c =
    refused_weaker c.open_end.result (λ left. left) (λ refuses. inr refuses)
    (open_ends c.args.context.now.number c.args.version c.args.seat.now c.open_session.new.seat c.args.table c.open_session.result c.open_end.result c.open_end.ensures (c.deref_mut-locked.result.now, c.note_sound.ensures, c.open_session.new.locked, c.open_session.ensures)).1

pub returns-in_err-guard-clause-refused : goal.returns-in_err-guard-clause-refused
returns-in_err-guard-clause-refused g c =
    let p = err_from_is_err_and c.from_residual.result c.from_residual.ensures.1 in
    rw (p.1, p.2) (refusal_weaker (λ never. absurd never) (λ missing. inl (missing, refl)) c.in_err-guard.field-0.0 c.in_err-guard.ensures.refused)

pub returns-clause-seat : goal.returns-clause-seat
returns-clause-seat g c =
    open_number c.args.context.now.number c.args.version c.args.seat.now c.open_session.new.seat c.args.table c.open_session.result (c.deref_mut-locked.result.now, c.note_sound.ensures, c.open_session.new.locked, c.open_session.ensures)
