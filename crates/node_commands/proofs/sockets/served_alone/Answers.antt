use Rattle.node_commands.proofs.EndingLaws.{then_ok}
use Rattle.node_commands.proofs.sockets.served_alone.Goals as goal

pub returns-clause-printed : goal.returns-clause-printed
returns-clause-printed g c =
    let node = c.in_ok-node.ensures.node in
    then_ok _ _ c.met.result (λ report printed. (node.0, (c.in_ok-node.node, printed.0, printed.1, node.1, printed.2))) c.met.ensures.printed
