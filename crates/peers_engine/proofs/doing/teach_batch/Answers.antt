use Rattle.std.proofs.Common.{Some, refl, sym, subst, inl, inr}
use Rattle.std.proofs.lemmas.Result.{err_from_is_err_and}
use Rattle.table_types.specs.Batches.{IsBatchFor}
use Rattle.known_state.specs.Known.{KnownState}
use Rattle.session_core.specs.declared.action.Action.TheVariants as actions
use Rattle.session_core.specs.declared.event.Event.TheVariants as events
use Rattle.teach_writer.specs.Pieces.{bytes_left}
use Rattle.peers_devices.specs.Writing.{written}
use Rattle.peers_engine.specs.declared.errors.EngineError.TheVariants as errors
use Rattle.peers_engine.proofs.AnswerLaws.{falls_short, lesson_cut, lesson_from, refused_as}
use Rattle.peers_engine.proofs.CallLaws.{refusal_weaker}
use Rattle.peers_engine.proofs.doing.teach_batch.Goals as goal

pub returns-in_err-pieces-clause-failed : goal.returns-in_err-pieces-clause-failed
returns-in_err-pieces-clause-failed g c =
    let p = err_from_is_err_and c.from_residual.result c.from_residual.ensures.1 in
    λ stays session same.
    rw (p.1, p.2)
    (refused_as c.args.context.now.shards.now stays c.in_err-pieces.field-0.0 c.args.context.now.number c.args.context.now.moment session c.args.seat.now c.args.seat.now (actions.Teach c.args.batch.now) (written (g.W.Write.contents c.args.output.now) c.args.writes.now)
    (refusal_weaker (λ some. refl) (λ other. inl (subst (λ (k : KnownState). IsBatchFor k.roster c.args.batch.now → ⊥) (sym same) other, refl)) c.in_err-pieces.field-0.0 c.in_err-pieces.ensures.refused) tt)

pub returns-in_err-settle-clause-failed : goal.returns-in_err-settle-clause-failed
returns-in_err-settle-clause-failed g c =
    let p = err_from_is_err_and c.from_residual-in_err-settle.result c.from_residual-in_err-settle.ensures.1 in
    λ stays session same.
    rw (p.1, p.2)
    (refused_as c.args.context.now.shards.now stays c.in_err-settle.field-0.0 c.args.context.now.number c.args.context.now.moment session c.args.seat.now c.settle.new.seat (actions.Teach c.args.batch.now) (written (g.W.Write.contents c.args.output.now) c.args.writes.now) (refusal_weaker (λ left. left) (λ unsettled. inr unsettled) c.in_err-settle.field-0.0 c.in_err-settle.ensures.refused) tt)

pub returns-in-Err-Write-clause-failed : goal.returns-in-Err-Write-clause-failed
returns-in-Err-Write-clause-failed g c =
    let pieces = c.in_ok-pieces.pieces in
    let fault = c.in-Err-Write in
    λ stays session same.
    falls_short c.args.context.now.shards.now stays (errors.Write fault.sent) c.args.context.now.number c.args.context.now.moment session c.args.seat.now c.settle.new.seat (actions.Teach c.args.batch.now) (bytes_left pieces) (Some (events.Written pieces.known))
    (written (g.W.Write.contents c.args.output.now) c.args.writes.now) (written (g.W.Write.contents c.write_pieces_counted.new.output) c.write_pieces_counted.new.writes)
    (pieces.known, lesson_from c.args.known.now session.known c.args.batch.now (bytes_left pieces) pieces.known (sym same) c.in_ok-pieces.ensures.lesson, refl, c.in_ok-settle.ensures.settled) (rw fault.field-0-is at fault.ensures.within, rw fault.field-0-is at fault.ensures.sent)

pub returns-in-Err-Memory-clause-failed : goal.returns-in-Err-Memory-clause-failed
returns-in-Err-Memory-clause-failed g c =
    let pieces = c.in_ok-pieces.pieces in
    let fault = c.in-Err-Memory in
    λ stays session same.
    lesson_cut c.args.context.now.shards.now stays c.args.context.now.number c.args.context.now.moment session c.args.seat.now c.settle.new.seat c.args.batch.now (bytes_left pieces) (Some (events.Written pieces.known)) fault.field-0-0
    (written (g.W.Write.contents c.args.output.now) c.args.writes.now) (written (g.W.Write.contents c.write_pieces_counted.new.output) c.write_pieces_counted.new.writes)
    (pieces.known, lesson_from c.args.known.now session.known c.args.batch.now (bytes_left pieces) pieces.known (sym same) c.in_ok-pieces.ensures.lesson, refl, c.in_ok-settle.ensures.settled) (rw fault.field-0-is at fault.ensures.within) (rw fault.field-0-is at fault.ensures.sent)
