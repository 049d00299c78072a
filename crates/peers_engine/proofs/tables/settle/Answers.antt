use Rattle.std.proofs.Common.{◌∙◌, List, ap, sym, inl, inr, refl}
use Rattle.std.proofs.lemmas.Result.{err_from_is_err_and}
use Rattle.std.specs.Prelude.{slice_get}
use Rattle.table_types.specs.declared.update.Update.{Update}
use Rattle.peers_engine.proofs.CallLaws.{refusal_weaker, refused_weaker, settle_ends, settle_number}
use Rattle.peers_engine.proofs.tables.settle.Goals as goal

pub returns-clause-settled : goal.returns-clause-settled
returns-clause-settled g c =
    (settle_ends c.args.context.now.number c.args.seat.now c.settle.new.seat c.args.batch.now c.in-Some.first.now c.deref_mut-locked.result.now c.settle.new.locked c.settle.result c.settle_end.result c.settle_end.ensures (ap (λ (us : List Update). slice_get us 0) (sym c.updates.ensures.updates) ∙ sym c.in-Some.ensures.value) c.note_sound.ensures c.settle.ensures).0

pub returns-clause-refused : goal.returns-clause-refused
returns-clause-refused g c =
    refused_weaker c.settle_end.result (λ left. left) (λ refuses. inr (c.in-Some.first.now, (ap (λ (us : List Update). slice_get us 0) (sym c.updates.ensures.updates) ∙ sym c.in-Some.ensures.value), inr refuses))
    (settle_ends c.args.context.now.number c.args.seat.now c.settle.new.seat c.args.batch.now c.in-Some.first.now c.deref_mut-locked.result.now c.settle.new.locked c.settle.result c.settle_end.result c.settle_end.ensures (ap (λ (us : List Update). slice_get us 0) (sym c.updates.ensures.updates) ∙ sym c.in-Some.ensures.value) c.note_sound.ensures c.settle.ensures).1

pub returns-in_err-guard-clause-refused : goal.returns-in_err-guard-clause-refused
returns-in_err-guard-clause-refused g c =
    let p = err_from_is_err_and c.from_residual.result c.from_residual.ensures.1 in
    rw (p.1, p.2) (refusal_weaker (λ never. absurd never) (λ missing. inr (c.in-Some.first.now, (ap (λ (us : List Update). slice_get us 0) (sym c.updates.ensures.updates) ∙ sym c.in-Some.ensures.value), inl (missing, refl))) c.in_err-guard.field-0.0 c.in_err-guard.ensures.refused)

pub returns-clause-seat : goal.returns-clause-seat
returns-clause-seat g c =
    settle_number c.args.context.now.number c.args.seat.now c.settle.new.seat c.args.batch.now c.in-Some.first.now.table c.deref_mut-locked.result.now c.settle.new.locked c.settle.result c.settle.ensures
