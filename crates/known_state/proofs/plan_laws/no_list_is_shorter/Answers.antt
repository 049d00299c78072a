use Rattle.known_state.proofs.AcceptedIsShortest.{links_pay, none_below_bound}
use Rattle.known_state.proofs.plan_laws.no_list_is_shorter.Goals as goal

pub returns-clause-reads : goal.returns-clause-reads
returns-clause-reads c = links_pay

pub returns-clause-bound : goal.returns-clause-bound
returns-clause-bound c = none_below_bound
