use Rattle.session_core.proofs.EitherRuns.{ends_before, ends_finished, ends_left, ends_out, ends_plain}
use Rattle.session_core.proofs.laws.resyncs_end_taught.Goals as goal

pub returns-clause-out : goal.returns-clause-out
returns-clause-out c = ends_out

pub returns-clause-left : goal.returns-clause-left
returns-clause-left c = ends_left

pub returns-clause-finished : goal.returns-clause-finished
returns-clause-finished c = ends_finished

pub returns-clause-before : goal.returns-clause-before
returns-clause-before c = ends_before

pub returns-clause-plain : goal.returns-clause-plain
returns-clause-plain c = ends_plain
