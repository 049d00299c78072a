use Rattle.session_core.proofs.EitherClock.{closes, tick_beats, tick_only, tick_plain, tick_reopens}
use Rattle.session_core.proofs.clock_laws.what_a_tick_gives.Goals as goal

pub returns-clause-closes : goal.returns-clause-closes
returns-clause-closes c = closes

pub returns-clause-leaves : goal.returns-clause-leaves
returns-clause-leaves c = tick_reopens

pub returns-clause-beats : goal.returns-clause-beats
returns-clause-beats c = tick_beats

pub returns-clause-only : goal.returns-clause-only
returns-clause-only c = tick_only

pub returns-clause-plain : goal.returns-clause-plain
returns-clause-plain c = tick_plain
