use Rattle.std.proofs.Common.{Some, refl}
use Rattle.peers_engine.proofs.ActLaws.{given_steps}
use Rattle.peers_engine.proofs.answering.give_answer.Goals as goal

pub returns-in-Ok-clause-given : goal.returns-in-Ok-clause-given
returns-in-Ok-clause-given c =
    given_steps c.args.session.now c.on.new.self c.args.now (Some c.args.answer) c.args.answer c.args.given.now.items c.append.new.self.items refl (c.in_ok-more.more.items, c.in_ok-more.ensures.steps, c.in-Ok.ensures.items)
