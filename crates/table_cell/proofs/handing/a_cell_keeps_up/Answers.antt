use Rattle.table_cell.proofs.HandingSteps.{closed_keeps, history_keeps, made_keeps}
use Rattle.table_cell.proofs.handing.a_cell_keeps_up.Goals as goal

pub returns-clause-event : goal.returns-clause-event
returns-clause-event c = made_keeps

pub returns-clause-closed : goal.returns-clause-closed
returns-clause-closed c = closed_keeps

pub returns-clause-history : goal.returns-clause-history
returns-clause-history c = history_keeps
