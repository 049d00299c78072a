use Rattle.peers_node.proofs.command_line.link_met.Goals as goal

pub returns-in_default-clause-none : goal.returns-in_default-clause-none
returns-in_default-clause-none c = λ _ link has. c.number_met.ensures.none c.in_default.is link.turns has.0

pub returns-in_default-number_met-clause-none : goal.returns-in_default-number_met-clause-none
returns-in_default-number_met-clause-none c = λ _ link has. c.number_met-2.ensures.none c.in_default-number_met.is link.port has.1
