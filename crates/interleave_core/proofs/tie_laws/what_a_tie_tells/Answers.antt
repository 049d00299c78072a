use Rattle.interleave_core.proofs.TieNumbers.{all_done, is_granted, is_quiet}
use Rattle.interleave_core.proofs.tie_laws.what_a_tie_tells.Goals as goal

pub returns-clause-done : goal.returns-clause-done
returns-clause-done c = all_done

pub returns-clause-granted : goal.returns-clause-granted
returns-clause-granted c = is_granted

pub returns-clause-quiet : goal.returns-clause-quiet
returns-clause-quiet c = is_quiet
