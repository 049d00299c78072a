use Rattle.table_cell.proofs.StepLaws.{step_sound, run_sound, new_sound}
use Rattle.table_cell.proofs.laws.a_table_stays_sound.Goals as goal

pub returns-clause-step : goal.returns-clause-step
returns-clause-step c = step_sound

pub returns-clause-run : goal.returns-clause-run
returns-clause-run c = run_sound

pub returns-clause-new : goal.returns-clause-new
returns-clause-new c = new_sound
