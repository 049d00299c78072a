use Rattle.session_core.proofs.OneManner.{plain_kept, staying_kept}
use Rattle.session_core.proofs.session.Session.on.Goals as goal

pub invariant_of-self : goal.invariant_of-self
invariant_of-self c =
    plain_kept (λ acts. acts.items) c.on.result c.self.inside.stay c.self.inside.machine c.on.new.self c.args.event c.in-None.is c.self.invariant c.on.ensures.goes c.on.ensures.ended

pub invariant_of-self-in-Some : goal.invariant_of-self-in-Some
invariant_of-self-in-Some c =
    staying_kept (λ acts. acts.items) c.on-in-Some.result c.self.inside.stay c.in-Some.stay c.self.inside.machine c.on-in-Some.new.machine _ c.on-in-Some.new.self _ c.args.event c.in-Some.is c.self.invariant c.on-in-Some.ensures.stands c.on-in-Some.ensures.ended
