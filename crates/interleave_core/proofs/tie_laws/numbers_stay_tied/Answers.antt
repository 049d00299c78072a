use Rattle.interleave_core.proofs.TieNumbers.{ack_sent, ack_taken, copied, learned, none_tied}
use Rattle.interleave_core.proofs.tie_laws.numbers_stay_tied.Goals as goal

pub returns-clause-begun : goal.returns-clause-begun
returns-clause-begun c = none_tied

pub returns-clause-copied : goal.returns-clause-copied
returns-clause-copied c = copied

pub returns-clause-learned : goal.returns-clause-learned
returns-clause-learned c = learned

pub returns-clause-sent : goal.returns-clause-sent
returns-clause-sent c = ack_sent

pub returns-clause-taken : goal.returns-clause-taken
returns-clause-taken c = ack_taken
