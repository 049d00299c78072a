use Rattle.std.proofs.Common.{◌∙◌, ◌+◌, ap, arith, ℕ, Ok, Err, Result, subst, sym, inl, inr}
use Rattle.peers_devices.specs.declared.writes.Unwritten.{Unwritten}
use Rattle.peers_devices.specs.declared.writes.Unwritten.TheVariants as unwritten
use Rattle.peers_devices.specs.Writing.{IsOneWrite, most_retries, written}
use Rattle.peers_devices.proofs.Written.{rest_of, stays_within}
use Rattle.peers_devices.proofs.WritingLaws.{HasRetried, retried_once_more, worn_out, writes_more, writes_no_more, writes_nothing, wrote_none, wrote_some}
use Rattle.peers_devices.proofs.output.write_all_counted.Goals as goal

pub loop-sent-preserved-in-Ok : goal.loop-sent-preserved-in-Ok
loop-sent-preserved-in-Ok g c =
    let before = c.loop-sent.invariant in
    let wrote : IsOneWrite (written (g.W.Write.contents c.loop-sent.output) c.loop-sent.writes) (rest_of c.loop-sent.sent c.args.bytes.now) (Ok c.in-Ok.count) (written (g.W.Write.contents c.write_once.new.output) c.write_once.new.writes) =
    subst (λ (r : Result ℕ Unwritten). IsOneWrite (written (g.W.Write.contents c.loop-sent.output) c.loop-sent.writes) (rest_of c.loop-sent.sent c.args.bytes.now) r (written (g.W.Write.contents c.write_once.new.output) c.write_once.new.writes)) c.in-Ok.is c.write_once.ensures.once in
    record {
      so_far = writes_more _ _ _ _ _ c.args.bytes.now before.so_far (wrote_some _ _ _ _ wrote);
      within = stays_within _ _ c.args.bytes.now before.within wrote.0;
      tries = before.tries;
      retried = subst (λ (n : ℕ). HasRetried c.args.writes.now.retried c.loop-sent.retries n) (sym wrote.4) before.retried;
    }

pub loop-sent-init : goal.loop-sent-init
loop-sent-init g c = record {
  so_far = writes_nothing (written (g.W.Write.contents c.args.output.now) c.args.writes.now);
  within = omega arith;
  tries = omega arith;
  retried = inl (omega arith);
}

pub returns-then-retries-eq-MOST_RETRIES-clause-balks : goal.returns-then-retries-eq-MOST_RETRIES-clause-balks
returns-then-retries-eq-MOST_RETRIES-clause-balks g c =
    let before = c.loop-sent.invariant in
    let wrote : IsOneWrite (written (g.W.Write.contents c.loop-sent.output) c.loop-sent.writes) (rest_of c.loop-sent.sent c.args.bytes.now) (Err unwritten.Uncounted) (written (g.W.Write.contents c.write_once.new.output) c.write_once.new.writes) =
    subst (λ (r : Result ℕ Unwritten). IsOneWrite (written (g.W.Write.contents c.loop-sent.output) c.loop-sent.writes) (rest_of c.loop-sent.sent c.args.bytes.now) r (written (g.W.Write.contents c.write_once.new.output) c.write_once.new.writes)) (c.in-Err-Uncounted.is ∙ ap (λ (w : Unwritten). Err w) c.in-Err-Uncounted.field-0-is) c.write_once.ensures.once in
    let retried = retried_once_more _ _ _ _ before.retried wrote.3 in
    let full : HasRetried c.args.writes.now.retried (most_retries + 1) c.write_once.new.writes.retried =
    subst (λ (n : ℕ). HasRetried c.args.writes.now.retried (n + 1) c.write_once.new.writes.retried) c.if-retries-eq-MOST_RETRIES.true retried in
    inr (worn_out _ _ full)

pub loop-sent-preserved : goal.loop-sent-preserved
loop-sent-preserved g c =
    let before = c.loop-sent.invariant in
    let wrote : IsOneWrite (written (g.W.Write.contents c.loop-sent.output) c.loop-sent.writes) (rest_of c.loop-sent.sent c.args.bytes.now) (Err unwritten.Uncounted) (written (g.W.Write.contents c.write_once.new.output) c.write_once.new.writes) =
    subst (λ (r : Result ℕ Unwritten). IsOneWrite (written (g.W.Write.contents c.loop-sent.output) c.loop-sent.writes) (rest_of c.loop-sent.sent c.args.bytes.now) r (written (g.W.Write.contents c.write_once.new.output) c.write_once.new.writes)) (c.in-Err-Uncounted.is ∙ ap (λ (w : Unwritten). Err w) c.in-Err-Uncounted.field-0-is) c.write_once.ensures.once in
    record {
      so_far = writes_no_more _ _ _ _ before.so_far (wrote_none _ _ (rest_of c.loop-sent.sent c.args.bytes.now) unwritten.Uncounted wrote);
      within = before.within;
      tries = omega (arith, before.tries, c.if-retries-eq-MOST_RETRIES.false);
      retried = retried_once_more _ _ _ _ before.retried wrote.3;
    }
