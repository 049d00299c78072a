use Rattle.interleave_core.proofs.Beginning.{new_is_open}
use Rattle.interleave_core.proofs.OpenWorlds.{a_run_keeps_open, a_step_keeps_open}
use Rattle.interleave_core.proofs.laws.sessions_stay_open.Goals as goal

pub returns-clause-new : goal.returns-clause-new
returns-clause-new c cells count few begin = new_is_open count cells few begin

pub returns-clause-step : goal.returns-clause-step
returns-clause-step c w e step all moves = a_step_keeps_open w e step moves all

pub returns-clause-run : goal.returns-clause-run
returns-clause-run c w e steps all runs = a_run_keeps_open w e steps runs all
