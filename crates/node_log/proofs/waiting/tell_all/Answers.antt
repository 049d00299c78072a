use Rattle.std.proofs.Common.{◌<◌, ◌∙◌, [], arith, get_or, length, refl, sym}
use Rattle.std.specs.Prelude.{None}
use Rattle.node_log.specs.declared.waiting.Limited.{Limited}
use Rattle.node_log.proofs.Telling.{due_one, if_err, passed_one, told_up_to}
use Rattle.node_log.proofs.waiting.tell_all.Goals as goal
use Rattle.node_log.proofs.waiting.tell_all.Goals.{then-is_due+in_ok-tell, else-is_due}

pub returns-in_err-tell-clause-so_far : goal.returns-in_err-tell-clause-so_far
returns-in_err-tell-clause-so_far c =
    let other : Limited = record { event = record { ref_ptr = (0, 0); now = [] }; peer = None; limit = record { said = []; omitted = 0; since = None } } in
    let here : Limited = get_or c.loop-limited.limits c.loop-limited.limited-index other in
    let within : c.loop-limited.limited-index < length c.loop-limited.limits = omega (arith, c.loop-limited.auto.limits, c.loop-limited-test.true) in
    if_err c.from_residual.result _
    (told_up_to c.args.form c.args.names.now c.args.now c.args.last c.args.limits.now c.loop-limited.limits c.args.text.now.items c.loop-limited.text.items c.tell.new.text.items c.loop-limited.limited-index other here c.tell.new.self
    within refl c.in_err-tell.ensures.stays (sym c.is_due.ensures ∙ c.if-is_due.true) c.in_err-tell.ensures.same c.loop-limited.invariant.told)

pub loop-limited-preserved : goal.loop-limited-preserved
loop-limited-preserved c =
    let other : Limited = record { event = record { ref_ptr = (0, 0); now = [] }; peer = None; limit = record { said = []; omitted = 0; since = None } } in
    let here : Limited = get_or c.loop-limited.limits c.loop-limited.limited-index other in
    let within : c.loop-limited.limited-index < length c.loop-limited.limits = omega (arith, c.loop-limited.auto.limits, c.loop-limited-test.true) in
    elim c.if-is_due.branch [
      | then-is_due+in_ok-tell w ↦ record {
        told = rw (w.limits-is, w.text-is)
            (due_one c.args.form c.args.names.now c.args.now c.args.last c.args.limits.now c.loop-limited.limits c.args.text.now.items c.loop-limited.text.items w.tell.new.text.items c.loop-limited.limited-index other here w.tell.new.self
            within refl (sym c.is_due.ensures ∙ w.if-is_due.true) w.in_ok-tell.ensures.told w.in_ok-tell.ensures.line c.loop-limited.invariant.told);
        bound = λ _. rw w.text-is w.in_ok-tell.ensures.bound;
      }
      | else-is_due w ↦ record {
        told = rw (w.limits-is, w.text-is)
            (passed_one c.args.form c.args.names.now c.args.now c.args.last c.args.limits.now c.loop-limited.limits c.args.text.now.items c.loop-limited.text.items c.loop-limited.limited-index other here
            within refl (sym c.is_due.ensures ∙ w.if-is_due.false) c.loop-limited.invariant.told);
        bound = λ fits. rw w.text-is (c.loop-limited.invariant.bound fits);
      }
    ]

pub returns-in_err-tell-clause-bound : goal.returns-in_err-tell-clause-bound
returns-in_err-tell-clause-bound c = λ fits. rw c.in_err-tell.ensures.same (c.loop-limited.invariant.bound fits)
