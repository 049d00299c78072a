use Rattle.std.proofs.Common.{ℕ, inl, inr, refl, subst}
use Rattle.std.proofs.lemmas.Result.{IfOk-weaker, err_from_is_err_and}
use Rattle.peers_engine.specs.Calls.{RefusesCopyOn}
use Rattle.peers_engine.proofs.CallLaws.{refusal_weaker, refused_weaker}
use Rattle.peers_engine.proofs.tables.copy.Goals as goal

pub returns-clause-answer : goal.returns-clause-answer
returns-clause-answer g c =
    IfOk-weaker c.copy_at.result _ _ (λ event copied. (c.deref_mut-locked.result.now, c.moment_at-now.result, c.moment_at-now.ensures, copied)) c.copy_at.ensures.answer

pub returns-clause-refused : goal.returns-clause-refused
returns-clause-refused g c =
    refused_weaker c.copy_at.result
    (λ left. left) (λ refuses. inr (c.deref_mut-locked.result.now, subst (λ (at : ℕ). RefusesCopyOn c.deref_mut-locked.result.now c.args.context.now.number at c.args.seat.now c.args.table c.args.kind c.copy_at.new.seat) c.moment_at-now.ensures refuses))
    c.copy_at.ensures.refused

pub returns-in_err-guard-clause-refused : goal.returns-in_err-guard-clause-refused
returns-in_err-guard-clause-refused g c =
    let p = err_from_is_err_and c.from_residual.result c.from_residual.ensures.1 in
    rw (p.1, p.2) (refusal_weaker (λ never. absurd never) (λ missing. inl (missing, refl)) c.in_err-guard.field-0.0 c.in_err-guard.ensures.refused)
