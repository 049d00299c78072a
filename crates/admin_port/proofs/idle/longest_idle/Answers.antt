use Rattle.std.proofs.Common.{◌∙◌, ◌+◌, arith, subst, sym}
use Rattle.admin_port.proofs.IdleLaws.{AreSeen, first, longer, no_longer}
use Rattle.admin_port.proofs.idle.longest_idle.Goals as goal
use Rattle.admin_port.proofs.idle.longest_idle.Goals.{in-Some-longest, in_default-longest-2, in_default-longest}

pub loop-place-preserved : goal.loop-place-preserved
loop-place-preserved c =
    let idle = c.args.idle.now in
    let place = c.loop-place.place in
    let since = c.in-Some.since in
    elim c.match-longest.branch [
      | in-Some-longest w ↦
          subst (AreSeen idle (place + 1)) (sym (w.longest-is ∙ w.in-Some-longest.is))
          (no_longer idle place w.in-Some-longest.field-0-0 w.in-Some-longest.own since c.loop-place-test.true c.in-Some.is w.if-own-since.true
          (subst (AreSeen idle place) w.in-Some-longest.is c.loop-place.invariant))
      | in_default-longest-2 w ↦
          subst (AreSeen idle (place + 1)) (sym w.longest-is)
          (longer idle place w.in-Some-longest.field-0-0 w.in-Some-longest.own since c.loop-place-test.true c.in-Some.is
          (omega (arith, w.if-own-since.false)) (subst (AreSeen idle place) w.in-Some-longest.is c.loop-place.invariant))
      | in_default-longest w ↦
          subst (AreSeen idle (place + 1)) (sym w.longest-is)
          (first idle place since c.loop-place-test.true c.in-Some.is (subst (AreSeen idle place) w.in_default-longest.is c.loop-place.invariant))
    ]
