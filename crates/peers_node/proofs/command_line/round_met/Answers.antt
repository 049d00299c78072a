use Rattle.peers_node.proofs.command_line.round_met.Goals as goal

pub returns-in_default-clause-none : goal.returns-in_default-clause-none
returns-in_default-clause-none c = λ _ threads tracks rounds has. c.number_met.ensures.none c.in_default.is threads has.0

pub returns-in_default-number_met-clause-none : goal.returns-in_default-number_met-clause-none
returns-in_default-number_met-clause-none c = λ _ threads tracks rounds has. c.number_met-2.ensures.none c.in_default-number_met.is tracks has.1

pub returns-in_default-number_or-clause-none : goal.returns-in_default-number_or-clause-none
returns-in_default-number_or-clause-none c = λ _ threads tracks rounds has. c.number_or.ensures.none c.in_default-number_or.is rounds has.2
