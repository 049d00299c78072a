use Rattle.node_log.proofs.SenderLaws.{is_behind, none_behind}
use Rattle.node_log.proofs.senders.behind.Goals as goal

pub returns-in-Some : goal.returns-in-Some
returns-in-Some c =
    is_behind c.args.byte c.args.text.now c.in-Some.field-0-0.now c.in-Some.behind.now c.in-Some.ensures.0 c.in-Some.ensures.1

pub returns-in-None : goal.returns-in-None
returns-in-None c = none_behind c.args.byte c.args.text.now c.in-None.ensures
