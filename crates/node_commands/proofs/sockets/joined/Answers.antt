use Rattle.std.proofs.Common.{ℕ, List, subst}
use Rattle.node_commands.specs.FallingBack.{IsMeeting}
use Rattle.node_commands.specs.Turning.{Sending}
use Rattle.node_commands.specs.declared.node.falling_back.Meeting.{Meeting}
use Rattle.node_commands.proofs.EndingLaws.{then_ok}
use Rattle.node_commands.proofs.FallingBackLaws.{again_at_last, over_at_last}
use Rattle.node_commands.proofs.sockets.joined.Goals as goal

pub returns-in-Over-clause-printed : goal.returns-in-Over-clause-printed
returns-in-Over-clause-printed g c =
    let node = c.in_ok-node.ensures.node in
    let met = subst (λ (m : Meeting). (received : List ℕ) × (sent : Sending) × IsMeeting c.in_ok-node.node c.args.link.turns m received sent) c.in-Over.is c.in_ok-meeting.ensures.met in
    (node.0, (c.in_ok-node.node, node.1, over_at_last c.in_ok-node.node c.args.link.turns c.in-Over.report met.0 met.1 met.2))

pub returns-in-FellBack-clause-printed : goal.returns-in-FellBack-clause-printed
returns-in-FellBack-clause-printed g c =
    let node = c.in_ok-node.ensures.node in
    let met = subst (λ (m : Meeting). (received : List ℕ) × (sent : Sending) × IsMeeting c.in_ok-node.node c.args.link.turns m received sent) c.in-FellBack.is c.in_ok-meeting.ensures.met in
    then_ok _ _ c.met.result
    (λ report printed. (node.0, (c.in_ok-node.node, node.1, again_at_last c.in_ok-node.node c.in-FellBack.again c.args.link.turns report.ending met.0 met.1 printed.0 printed.1 report.text.items met.2 printed.2)))
    c.met.ensures.printed
