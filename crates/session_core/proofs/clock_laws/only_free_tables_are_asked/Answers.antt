use Rattle.session_core.proofs.EitherClock.{free_out, free_quiet, turns_copy}
use Rattle.session_core.proofs.clock_laws.only_free_tables_are_asked.Goals as goal

pub returns-clause-turn : goal.returns-clause-turn
returns-clause-turn c = turns_copy

pub returns-clause-out : goal.returns-clause-out
returns-clause-out c = free_out

pub returns-clause-quiet : goal.returns-clause-quiet
returns-clause-quiet c = free_quiet
