use Rattle.table_cell.proofs.HandingTaken.{all_taken, front_taken, nothing_left}
use Rattle.table_cell.proofs.handing.acknowledged_rows_were_handed_out.Goals as goal

pub returns-clause-all : goal.returns-clause-all
returns-clause-all c = all_taken

pub returns-clause-front : goal.returns-clause-front
returns-clause-front c = front_taken

pub returns-clause-nothing : goal.returns-clause-nothing
returns-clause-nothing c = nothing_left
