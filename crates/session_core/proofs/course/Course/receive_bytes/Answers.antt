use Rattle.std.proofs.Common.{◌≢◌, [], Err, refl, sym, ap, ◌∙◌, subst, inr}
use Rattle.std.proofs.lemmas.List.{append-nil}
use Rattle.std.proofs.lemmas.Result.{err_from_is_err_and}
use Rattle.learner.specs.Intake.{IntakeFeeds}
use Rattle.tolerant_intake.specs.Reading.{passed_by}
use Rattle.session_core.specs.declared.halt.Halt.TheVariants as halts
use Rattle.session_core.specs.Courses.{Course, course_fed, halt_of}
use Rattle.session_core.proofs.ReceivingLemmas.{feed_halts}
use Rattle.session_core.proofs.course.Course.receive_bytes.Goals as goal

pub returns-in_err-feed-clause-received : goal.returns-in_err-feed-clause-received
returns-in_err-feed-clause-received c =
    let p = err_from_is_err_and c.from_residual.result c.from_residual.ensures.1 in
    let feeds = subst (λ (x : Course). IntakeFeeds x.intake c.args.bytes.now (Err c.in_err-feed.field-0.0) c.feed.new.self.intake) c.self.view_is c.in_err-feed.ensures.feeds in
    λ other.
    let is_fault : halt_of c.in_err-feed.field-0.0 ≢ halts.Memory = λ same. other (rw (p.1, p.2, same) refl) in
    ([], rw (p.1, p.2) ([], course_fed c.args.self.now c.args.bytes.now, (refl, refl), feed_halts c.args.self.now c.args.bytes.now c.in_err-feed.field-0.0 c.feed.new.self.intake feeds is_fault), sym (append-nil c.args.actions.now.items))

pub returns-in_err-feed-clause-heard : goal.returns-in_err-feed-clause-heard
returns-in_err-feed-clause-heard c =
    let p = err_from_is_err_and c.from_residual.result c.from_residual.ensures.1 in
    let feeds = subst (λ (x : Course). IntakeFeeds x.intake c.args.bytes.now (Err c.in_err-feed.field-0.0) c.feed.new.self.intake) c.self.view_is c.in_err-feed.ensures.feeds in
    λ other.
    let is_fault : halt_of c.in_err-feed.field-0.0 ≢ halts.Memory = λ same. other (rw (p.1, p.2, same) refl) in
    ([], ([], course_fed c.args.self.now c.args.bytes.now, (refl, refl), inr (halt_of c.in_err-feed.field-0.0, is_fault, feed_halts c.args.self.now c.args.bytes.now c.in_err-feed.field-0.0 c.feed.new.self.intake feeds is_fault), ap passed_by (c.in_err-feed.ensures.stays ∙ ap (λ (x : Course). x.tolerance) c.self.view_is)), refl)
