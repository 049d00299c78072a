use Rattle.table_cell.proofs.StandingLaws.{standings_end}
use Rattle.table_cell.proofs.standing.standing_resyncs_end.Goals as goal

pub returns : goal.returns
returns c = standings_end
