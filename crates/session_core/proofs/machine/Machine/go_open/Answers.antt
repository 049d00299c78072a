use Rattle.session_core.specs.Sessions.{seen, going}
use Rattle.session_core.proofs.machine.Machine.go_open.Goals as goal

pub returns-in-Turn-clause-goes : goal.returns-in-Turn-clause-goes
returns-in-Turn-clause-goes c = rw (c.requires, c.in-Turn.is) (c.turn.ensures.goes (going (seen c.args.self.now) c.args.self.now.course))

pub returns-in-Copied-clause-goes : goal.returns-in-Copied-clause-goes
returns-in-Copied-clause-goes c = rw (c.requires, c.in-Copied.is) (c.copied.ensures.goes (going (seen c.args.self.now) c.args.self.now.course))

pub returns-in-Nothing-clause-goes : goal.returns-in-Nothing-clause-goes
returns-in-Nothing-clause-goes c = rw (c.requires, c.in-Nothing.is) (c.nothing.ensures.goes (going (seen c.args.self.now) c.args.self.now.course))

pub returns-in-Settled-clause-goes : goal.returns-in-Settled-clause-goes
returns-in-Settled-clause-goes c = rw (c.requires, c.in-Settled.is) (c.settled.ensures.goes (going (seen c.args.self.now) c.args.self.now.course))

pub returns-in-Tick-clause-goes : goal.returns-in-Tick-clause-goes
returns-in-Tick-clause-goes c = rw (c.requires, c.in-Tick.is) (c.tick.ensures.goes (going (seen c.args.self.now) c.args.self.now.course))

pub returns-in-Ask-clause-goes : goal.returns-in-Ask-clause-goes
returns-in-Ask-clause-goes c = rw (c.requires, c.in-Ask.is) (c.ask.ensures.goes (going (seen c.args.self.now) c.args.self.now.course))

pub returns-in-CaughtUp-clause-goes : goal.returns-in-CaughtUp-clause-goes
returns-in-CaughtUp-clause-goes c = rw (c.requires, c.in-CaughtUp.is) (c.caught_up.ensures.goes (going (seen c.args.self.now) c.args.self.now.course))
