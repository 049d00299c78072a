use Rattle.node_log.proofs.SenderLaws.{all_before, is_before}
use Rattle.node_log.proofs.senders.before.Goals as goal

pub returns-in-Some : goal.returns-in-Some
returns-in-Some c =
    is_before c.args.byte c.args.text.now c.in-Some.before.now c.in-Some.field-0-1.now c.in-Some.ensures.0 c.in-Some.ensures.1

pub returns-in-None : goal.returns-in-None
returns-in-None c = all_before c.args.byte c.args.text.now c.in-None.ensures
