use Rattle.std.proofs.Common.{◌≡◌, ◌<◌, true, false, length, get_or, rules, sym, ◌∙◌}
use Rattle.price_checker.proofs.ComparisonGoesOn.{same_so_far, apart_from_here}
use Rattle.price_checker.proofs.comparison.after_update.Goals as goal

pub returns-in-Some : goal.returns-in-Some
returns-in-Some c = λ carried one e compares step.
    let us = c.args.updates.now in
    let u = c.in-Some.update.now in
    let lt : c.args.count < length us = search rules in
    let at : u ≡ get_or us c.args.count u = c.in-Some.ensures.lookup.1 in
    same_so_far us carried one c.args.count u lt at compares.0 ((c.carries.ensures one e step).0 c.if-carries.true)

pub returns-in_default : goal.returns-in_default
returns-in_default c = λ carried one e compares step.
    let us = c.args.updates.now in
    let u = c.in-Some.update.now in
    let lt : c.args.count < length us = search rules in
    let at : u ≡ get_or us c.args.count u = c.in-Some.ensures.lookup.1 in
    apart_from_here c.args.state.now e c.args.sent.now us carried one c.args.count u lt at compares.0 step (λ is. let bad : true ≡ false = sym ((c.carries.ensures one e step).1 is) ∙ c.if-carries.false in cc)
