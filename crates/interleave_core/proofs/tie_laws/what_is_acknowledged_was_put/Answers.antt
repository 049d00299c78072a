use Rattle.interleave_core.proofs.TieAnswers.{not_ahead}
use Rattle.interleave_core.proofs.TieTold.{handed_front, number_put, rest_above, taught_copied}
use Rattle.interleave_core.proofs.tie_laws.what_is_acknowledged_was_put.Goals as goal

pub returns-clause-number : goal.returns-clause-number
returns-clause-number c = number_put

pub returns-clause-rest : goal.returns-clause-rest
returns-clause-rest c = rest_above

pub returns-clause-handed : goal.returns-clause-handed
returns-clause-handed c = handed_front

pub returns-clause-granted : goal.returns-clause-granted
returns-clause-granted c = not_ahead

pub returns-clause-copied : goal.returns-clause-copied
returns-clause-copied c = taught_copied
