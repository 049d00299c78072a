use Rattle.interleave_core.proofs.VersionsKept.{new_keeps, keeps_run, keeps_step}
use Rattle.interleave_core.proofs.version_laws.sessions_keep_to_their_versions.Goals as goal

pub returns-clause-new : goal.returns-clause-new
returns-clause-new c = new_keeps

pub returns-clause-step : goal.returns-clause-step
returns-clause-step c = keeps_step

pub returns-clause-run : goal.returns-clause-run
returns-clause-run c = keeps_run
