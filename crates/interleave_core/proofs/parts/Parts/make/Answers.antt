use Rattle.std.proofs.Common.{◌∙◌, ap, subst, sym}
use Rattle.std.specs.Prelude.{OnOk}
use Rattle.std.proofs.lemmas.Result.{on_ok_weaker}
use Rattle.interleave_core.specs.declared.step.Step.TheVariants as steps
use Rattle.interleave_core.specs.Moves.{Moves}
use Rattle.interleave_core.specs.Parts.{world_of}
use Rattle.interleave_core.specs.SoundWorlds.{IsTimelyStep}
use Rattle.interleave_core.proofs.WorldTracks.{all_on_track}
use Rattle.interleave_core.proofs.parts.Parts.make.Goals as goal

pub returns-in-Teach-clause-moves : goal.returns-in-Teach-clause-moves
returns-in-Teach-clause-moves c =
    subst (λ step. OnOk c.teach.result (Moves (world_of c.args.self.now) step (world_of c.teach.new.self))) (sym c.in-Teach.is)
    (c.teach.ensures (all_on_track (world_of c.args.self.now) c.requires.order.sound))

pub returns-in-ToLearner-clause-moves : goal.returns-in-ToLearner-clause-moves
returns-in-ToLearner-clause-moves c =
    let is = c.in-Deliver.is ∙ ap (λ way. steps.Deliver c.in-Deliver.session way c.in-Deliver.count c.in-Deliver.moment) c.in-ToLearner.is in
    subst (λ step. OnOk c.deliver_to_learner.result (Moves (world_of c.args.self.now) step (world_of c.deliver_to_learner.new.self))) (sym is)
    (c.deliver_to_learner.ensures.moves (all_on_track (world_of c.args.self.now) c.requires.order.sound))

pub returns-in-ToTeacher-clause-moves : goal.returns-in-ToTeacher-clause-moves
returns-in-ToTeacher-clause-moves c =
    let is = c.in-Deliver.is ∙ ap (λ way. steps.Deliver c.in-Deliver.session way c.in-Deliver.count c.in-Deliver.moment) c.in-ToTeacher.is in
    subst (λ step. OnOk c.deliver_to_teacher.result (Moves (world_of c.args.self.now) step (world_of c.deliver_to_teacher.new.self))) (sym is)
    (on_ok_weaker c.deliver_to_teacher.result (λ moves. moves c.in-Deliver.moment)
    (c.deliver_to_teacher.ensures (all_on_track (world_of c.args.self.now) c.requires.order.sound)))

pub returns-in-ToLearner-clause-timely : goal.returns-in-ToLearner-clause-timely
returns-in-ToLearner-clause-timely c =
    let is = c.in-Deliver.is ∙ ap (λ way. steps.Deliver c.in-Deliver.session way c.in-Deliver.count c.in-Deliver.moment) c.in-ToLearner.is in
    subst IsTimelyStep (sym is) c.deliver_to_learner.ensures.timely

pub returns-in-ToTeacher-clause-timely : goal.returns-in-ToTeacher-clause-timely
returns-in-ToTeacher-clause-timely c =
    let is = c.in-Deliver.is ∙ ap (λ way. steps.Deliver c.in-Deliver.session way c.in-Deliver.count c.in-Deliver.moment) c.in-ToTeacher.is in
    subst IsTimelyStep (sym is) tt
