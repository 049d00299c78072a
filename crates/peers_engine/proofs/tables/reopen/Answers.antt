use Rattle.std.proofs.Common.{Ok, inl, inr, subst, sym}
use Rattle.std.proofs.lemmas.Result.{err_from_is_err_and}
use Rattle.table_shards.specs.Receipts.{SeatState}
use Rattle.peers_engine.specs.Calls.{CallsClose}
use Rattle.peers_engine.proofs.CallLaws.{refusal_weaker, refused_weaker}
use Rattle.peers_engine.proofs.tables.reopen.Goals as goal

pub returns-clause-refused : goal.returns-clause-refused
returns-clause-refused g c =
    refused_weaker c.open.result
    (λ left. inr (subst (λ (t : SeatState). CallsClose c.args.context.now.number c.args.seat.now c.args.table (Ok tt) t) (sym left) c.in_ok-close.ensures.closed))
    (λ barred. inr (c.close.new.seat, c.in_ok-close.ensures.closed, barred))
    c.open.ensures.refused

pub returns-in_err-close-clause-refused : goal.returns-in_err-close-clause-refused
returns-in_err-close-clause-refused g c =
    let p = err_from_is_err_and c.from_residual.result c.from_residual.ensures.1 in
    rw (p.1, p.2) (refusal_weaker (λ left. inl left) (λ barred. inl barred) c.in_err-close.field-0.0 c.in_err-close.ensures.refused)
