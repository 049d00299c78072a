use Rattle.table_cell.proofs.HandingSessions.{others_stay}
use Rattle.table_cell.proofs.handing.other_events_hand_nothing.Goals as goal

pub returns : goal.returns
returns c = others_stay
