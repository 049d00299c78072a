use Rattle.std.proofs.lemmas.Result.{err_from_is_err_and}
use Rattle.known_state.specs.declared.effect.Effect.TheVariants as effects
use Rattle.tolerant_intake.specs.declared.plan.Plan.TheVariants as plans
use Rattle.tolerant_intake.specs.Policy.{passage_of}
use Rattle.tolerant_intake.specs.Planning.{IsPlan}
use Rattle.tolerant_intake.proofs.PlansMade.{memory_left, within_takes, within_counts, within_stands, fewer, takes_made, counts_made, stands_made}
use Rattle.tolerant_intake.proofs.tolerance.Tolerance.make.Goals as goal

pub returns-in_err-take-in-Takes-clause-stays : goal.returns-in_err-take-in-Takes-clause-stays
returns-in_err-take-in-Takes-clause-stays c =
    let l = c.args.self.now in
    let t = c.args.intake.now in
    let stays = c.in_err-take-in-Takes.ensures.stays in
    let p = err_from_is_err_and c.from_residual.result c.from_residual.ensures.1 in
    rw (p.1, stays.0, stays.1) (memory_left (passage_of l t) l t c.args.plan c.requires)

pub pass_over-requires : goal.pass_over-requires
pass_over-requires c =
    let plan : IsPlan (passage_of c.args.self.now c.args.intake.now) c.args.intake.now (plans.Counts c.in-Counts.update c.in-Counts.cause c.in-Counts.used) = rw c.in-Counts.is at c.requires in
    (within_counts (passage_of c.args.self.now c.args.intake.now) c.args.intake.now c.in-Counts.update c.in-Counts.cause c.in-Counts.used plan).0

pub replace-requires : goal.replace-requires
replace-requires c =
    let plan : IsPlan (passage_of c.args.self.now c.args.intake.now) c.args.intake.now (plans.StandsIn c.in-StandsIn.table c.in-StandsIn.loose c.in-StandsIn.cause c.in-StandsIn.used) = rw c.in-StandsIn.is at c.requires in
    (within_stands (passage_of c.args.self.now c.args.intake.now) c.args.intake.now c.in-StandsIn.table c.in-StandsIn.loose c.in-StandsIn.cause c.in-StandsIn.used plan).0

pub returns-in_ok-take-in-Takes-clause-made : goal.returns-in_ok-take-in-Takes-clause-made
returns-in_ok-take-in-Takes-clause-made c =
    let l = c.args.self.now in
    let t = c.args.intake.now in
    let plan : IsPlan (passage_of l t) t (plans.Takes c.in-Takes.taken c.in-Takes.advance) = rw c.in-Takes.is at c.requires in
    let made = c.in_ok-take-in-Takes.ensures.taken in
    takes_made (passage_of l t) l c.take.new.self t c.take.new.intake c.in-Takes.taken c.in-Takes.advance plan made.0 made.1

pub returns-in_ok-take-in-Takes-clause-fewer : goal.returns-in_ok-take-in-Takes-clause-fewer
returns-in_ok-take-in-Takes-clause-fewer c =
    let l = c.args.self.now in
    let t = c.args.intake.now in
    let plan : IsPlan (passage_of l t) t (plans.Takes c.in-Takes.taken c.in-Takes.advance) = rw c.in-Takes.is at c.requires in
    fewer t c.take.new.intake c.in-Takes.advance (within_takes (passage_of l t) t c.in-Takes.taken c.in-Takes.advance plan) c.in_ok-take-in-Takes.ensures.taken.0

pub returns-in_ok-pass_over-in-Counts-clause-made : goal.returns-in_ok-pass_over-in-Counts-clause-made
returns-in_ok-pass_over-in-Counts-clause-made c =
    let l = c.args.self.now in
    let t = c.args.intake.now in
    let plan : IsPlan (passage_of l t) t (plans.Counts c.in-Counts.update c.in-Counts.cause c.in-Counts.used) = rw c.in-Counts.is at c.requires in
    let made = c.in_ok-pass_over-in-Counts.ensures.passed in
    counts_made (passage_of l t) l c.pass_over.new.self t c.pass_over.new.intake c.in-Counts.update c.in-Counts.cause c.in-Counts.used plan made.0 made.1

pub returns-in_ok-pass_over-in-Counts-clause-fewer : goal.returns-in_ok-pass_over-in-Counts-clause-fewer
returns-in_ok-pass_over-in-Counts-clause-fewer c =
    let l = c.args.self.now in
    let t = c.args.intake.now in
    let plan : IsPlan (passage_of l t) t (plans.Counts c.in-Counts.update c.in-Counts.cause c.in-Counts.used) = rw c.in-Counts.is at c.requires in
    fewer t c.pass_over.new.intake (record { effect = effects.Update c.in-Counts.update; used = c.in-Counts.used }) (within_counts (passage_of l t) t c.in-Counts.update c.in-Counts.cause c.in-Counts.used plan) c.in_ok-pass_over-in-Counts.ensures.passed.0

pub returns-in_ok-replace-in-StandsIn-clause-made : goal.returns-in_ok-replace-in-StandsIn-clause-made
returns-in_ok-replace-in-StandsIn-clause-made c =
    let l = c.args.self.now in
    let t = c.args.intake.now in
    let plan : IsPlan (passage_of l t) t (plans.StandsIn c.in-StandsIn.table c.in-StandsIn.loose c.in-StandsIn.cause c.in-StandsIn.used) = rw c.in-StandsIn.is at c.requires in
    let made = c.in_ok-replace-in-StandsIn.ensures.replaced in
    stands_made (passage_of l t) l c.replace.new.self t c.replace.new.intake c.in-StandsIn.table c.in-StandsIn.loose c.in-StandsIn.cause c.in-StandsIn.used plan made.0 made.1

pub returns-in_ok-replace-in-StandsIn-clause-fewer : goal.returns-in_ok-replace-in-StandsIn-clause-fewer
returns-in_ok-replace-in-StandsIn-clause-fewer c =
    let l = c.args.self.now in
    let t = c.args.intake.now in
    let plan : IsPlan (passage_of l t) t (plans.StandsIn c.in-StandsIn.table c.in-StandsIn.loose c.in-StandsIn.cause c.in-StandsIn.used) = rw c.in-StandsIn.is at c.requires in
    fewer t c.replace.new.intake (record { effect = effects.Define c.in-StandsIn.table; used = c.in-StandsIn.used }) (within_stands (passage_of l t) t c.in-StandsIn.table c.in-StandsIn.loose c.in-StandsIn.cause c.in-StandsIn.used plan) c.in_ok-replace-in-StandsIn.ensures.replaced.0
