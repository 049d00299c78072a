use Rattle.session_core.specs.Standing.{stood}
use Rattle.session_core.proofs.StandingExactly.{step_refuses}
use Rattle.session_core.proofs.stay.Stay.on.Goals as goal

pub returns-in-Ok-clause-exactly : goal.returns-in-Ok-clause-exactly
returns-in-Ok-clause-exactly c = λ e other refuses.
    step_refuses (λ acts. acts.items) (stood c.args.machine.now c.args.self.now) (stood c.step-given.new.machine c.step-given.new.self) c.args.now c.args.event c.step-given.result e other refuses c.step-given.ensures.stands c.step-given.ensures.refused
