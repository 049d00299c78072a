use Rattle.std.proofs.Common.{◌≡◌, rules, true, false}
use Rattle.std.proofs.lemmas.Result.{err_from_is_err_and}
use Rattle.tolerant_intake.specs.Planning.{defines_further}
use Rattle.tolerant_intake.proofs.PlansMade.{further_planned, memory_planned, takes_planned}
use Rattle.tolerant_intake.proofs.tolerance.Tolerance.plan_taken.Goals as goal

pub returns-then-defines_further : goal.returns-then-defines_further
returns-then-defines_further c =
    let further : defines_further c.args.intake.now.state.received c.args.advance.effect ≡ true = search rules in
    further_planned c.args.self.now c.args.intake.now c.args.taken c.args.advance c.requires.strict c.requires.looks further

pub returns-in_err-taken : goal.returns-in_err-taken
returns-in_err-taken c =
    let p = err_from_is_err_and c.from_residual.result c.from_residual.ensures.1 in
    let known : defines_further c.args.intake.now.state.received c.args.advance.effect ≡ false = search rules in
    rw (p.1, p.2) (memory_planned c.args.self.now c.args.intake.now c.args.taken c.args.advance c.requires.strict c.requires.looks known)

pub returns : goal.returns
returns c =
    let known : defines_further c.args.intake.now.state.received c.args.advance.effect ≡ false = search rules in
    takes_planned c.args.self.now c.args.intake.now c.args.taken c.args.advance c.in_ok-taken.taken c.requires.strict c.requires.looks known c.in_ok-taken.ensures
