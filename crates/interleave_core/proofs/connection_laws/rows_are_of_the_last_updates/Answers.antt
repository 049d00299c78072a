use Rattle.interleave_core.proofs.RowsLeft.{each_row, last_row}
use Rattle.interleave_core.proofs.connection_laws.rows_are_of_the_last_updates.Goals as goal

pub returns-clause-each : goal.returns-clause-each
returns-clause-each c roster s acks d key row sound listed found = each_row roster s.applied s.learner.rows d key row sound.rows listed found

pub returns-clause-stands : goal.returns-clause-stands
returns-clause-stands c roster s acks before after u d sound is listed others = last_row roster s.applied before after s.learner.rows u d sound.rows is listed others
