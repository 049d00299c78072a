use Rattle.learner.proofs.SameFaultHoweverCut.{same_stop, it_comes, closed_then}
use Rattle.learner.proofs.SamePlaceHoweverCut.{same_place}
use Rattle.learner.proofs.MomentFaults.{same_fault_in_time, same_place_in_time}
use Rattle.learner.proofs.laws.one_fault.Goals as goal

pub returns-clause-same : goal.returns-clause-same
returns-clause-same c = same_stop

pub returns-clause-place : goal.returns-clause-place
returns-clause-place c = same_place

pub returns-clause-comes : goal.returns-clause-comes
returns-clause-comes c = it_comes

pub returns-clause-closed : goal.returns-clause-closed
returns-clause-closed c = closed_then

pub returns-clause-moments : goal.returns-clause-moments
returns-clause-moments c = same_fault_in_time

pub returns-clause-place_in_time : goal.returns-clause-place_in_time
returns-clause-place_in_time c = same_place_in_time
