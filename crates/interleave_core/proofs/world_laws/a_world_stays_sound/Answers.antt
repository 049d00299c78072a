use Rattle.std.proofs.Common.{[], sym}
use Rattle.interleave_core.proofs.TiePairs.{open_tied}
use Rattle.interleave_core.proofs.WorldSteps.{between_sound, run_sound, step_sound}
use Rattle.interleave_core.proofs.WorldTold.{new_sound}
use Rattle.interleave_core.proofs.world_laws.a_world_stays_sound.Goals as goal

pub returns-clause-new : goal.returns-clause-new
returns-clause-new c = new_sound

pub returns-clause-step : goal.returns-clause-step
returns-clause-step c = step_sound

pub returns-clause-run : goal.returns-clause-run
returns-clause-run c = run_sound

pub returns-clause-between : goal.returns-clause-between
returns-clause-between c = between_sound

pub returns-clause-opened : goal.returns-clause-opened
returns-clause-opened x session version c e reply made = let tie = open_tied session version [] c e reply made tt in (tie.progress, sym tie.same)
