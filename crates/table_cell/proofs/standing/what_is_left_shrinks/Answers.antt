use Rattle.table_cell.proofs.StandingLaws.{left_shrinks, stays_open}
use Rattle.table_cell.proofs.standing.what_is_left_shrinks.Goals as goal

pub returns-clause-stays : goal.returns-clause-stays
returns-clause-stays c = stays_open

pub returns-clause-left : goal.returns-clause-left
returns-clause-left c = left_shrinks
