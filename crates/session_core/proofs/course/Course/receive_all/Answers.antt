use Rattle.std.proofs.Common.{◌++◌, ◌∷◌, [], List, Err, sym, ap, subst, ◌∙◌, append_assoc, inr}
use Rattle.std.proofs.lemmas.Result.{err_from_is_err_and}
use Rattle.session_core.specs.declared.action.Action.{Action}
use Rattle.session_core.specs.Courses.{Course, message_received, Receives, AreReceived}
use Rattle.session_core.specs.declared.halt.Halt.{Halt}
use Rattle.session_core.specs.HeardCounts.{message_counted}
use Rattle.session_core.proofs.ReceivingLemmas.{counted_more, received_more}
use Rattle.session_core.proofs.course.Course.receive_all.Goals as goal

pub returns-in_err-taken-clause-received : goal.returns-in_err-taken-clause-received
returns-in_err-taken-clause-received c =
    let before = c.loop-taken.invariant in
    let p = err_from_is_err_and c.from_residual.result c.from_residual.ensures.1 in
    λ _. (before.1, rw (p.1, p.2) (before.0, c.loop-taken.self, before.2, c.in_err-taken.ensures.halted), before.3)

pub returns-in_err-taken-clause-heard : goal.returns-in_err-taken-clause-heard
returns-in_err-taken-clause-heard c =
    let before = c.loop-taken.invariant in
    let p = err_from_is_err_and c.from_residual.result c.from_residual.ensures.1 in
    λ other. (before.0, (before.1, c.loop-taken.self, before.2, inr (c.in_err-taken.field-0.0, (λ same. other (rw (p.1, p.2) (ap (λ (h : Halt). Err h) same))), c.in_err-taken.ensures.halted), c.in_err-taken.ensures.passed), before.4)

pub loop-taken-preserved : goal.loop-taken-preserved
loop-taken-preserved c =
    let before = c.loop-taken.invariant in
    let receives : Receives c.loop-taken.self c.in-Some.taken c.next.new.self = rw c.in-Some.is at c.in_ok-taken.ensures.receives in
    let more = received_more c.args.self.now c.loop-taken.self c.next.new.self before.0 c.in-Some.taken before.1 before.2 receives in
    let added : List Action = (message_received c.next.new.self c.in-Some.taken).0 in (
      before.0 ++ (c.in-Some.taken ∷ []),
      before.1 ++ added,
      subst (λ (x : Course). AreReceived c.args.self.now (before.0 ++ (c.in-Some.taken ∷ [])) (before.1 ++ added) x) (sym c.in_ok-receive.ensures.course) more,
      c.in_ok-receive.ensures.actions ∙ ap (λ (x : List Action). x ++ added) before.3 ∙ simp append_assoc,
      c.count_message.ensures ∙ ap (message_counted c.in-Some.taken) before.4 ∙ sym (counted_more before.0 c.in-Some.taken c.args.controls.now),
    )
