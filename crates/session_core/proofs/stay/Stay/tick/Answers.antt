use Rattle.std.proofs.Common.{◌≡◌, true, rules}
use Rattle.session_core.specs.declared.event.Event.TheVariants as events
use Rattle.session_core.specs.Sessions.{is_asked, seen}
use Rattle.session_core.specs.Standing.{stood}
use Rattle.session_core.proofs.TickTaken.{heard_takes, silent_takes}
use Rattle.session_core.proofs.stay.Stay.tick.Goals as goal

pub returns-then-has_passed-clause-ticks : goal.returns-then-has_passed-clause-ticks
returns-then-has_passed-clause-ticks c =
    let asked : is_asked (seen c.args.machine.now).phase events.Tick ≡ true = search rules in
    silent_takes (λ acts. acts.items) c.close.result c.args.machine.now c.close.new.self c.args.self.now c.args.now asked (search rules) c.close.ensures.actions c.close.ensures.session

pub returns-else-has_passed-clause-ticks : goal.returns-else-has_passed-clause-ticks
returns-else-has_passed-clause-ticks c =
    let asked : is_asked (seen c.args.machine.now).phase events.Tick ≡ true = search rules in
    heard_takes (λ acts. acts.items) c.tick_heard.result (stood c.args.machine.now c.args.self.now) (stood c.tick_heard.new.machine c.tick_heard.new.self) c.args.now asked (search rules) c.tick_heard.ensures.ticks
