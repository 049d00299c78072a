use Rattle.std.proofs.Common.{ap, ◌∙◌}
use Rattle.learner.specs.Intake.{Taking}
use Rattle.learner.specs.Learning.{Learning, shut_off}
use Rattle.learner.proofs.ReadInPlace.{front_stops}
use Rattle.learner.proofs.keeper.Keeper.learn_message.Goals as goal

pub returns-in-Err-clause-learns : goal.returns-in-Err-clause-learns
returns-in-Err-clause-learns c =
    let closed : Learning = record { intake = c.close.new.self; rows = c.self.inside.rows_of_tables.items } in
    front_stops c.args.now c.args.self.now c.take_message.new.self closed c.args.bytes.now c.in-Err.fault c.in-Err.ensures.finds
    (ap (λ (t : Taking). record { intake = t; rows = c.self.inside.rows_of_tables.items }) c.close.ensures ∙ ap shut_off c.self.view_is)
