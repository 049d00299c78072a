use Rattle.interleave_core.proofs.TieTables.{table_changed, tables_acked, tables_reopened}
use Rattle.interleave_core.proofs.tie_laws.tables_stay_sound.Goals as goal

pub returns-clause-changed : goal.returns-clause-changed
returns-clause-changed c = table_changed

pub returns-clause-acknowledged : goal.returns-clause-acknowledged
returns-clause-acknowledged c = tables_acked

pub returns-clause-reopened : goal.returns-clause-reopened
returns-clause-reopened c = tables_reopened
