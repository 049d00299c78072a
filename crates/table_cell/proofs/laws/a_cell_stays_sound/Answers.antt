use Rattle.table_cell.proofs.AnewLaws.{begun_sound}
use Rattle.table_cell.proofs.RenumberLaws.{renumbered_cell}
use Rattle.table_cell.proofs.RunLaws.{made_sound, new_cell_sound}
use Rattle.table_cell.proofs.laws.a_cell_stays_sound.Goals as goal

pub returns-clause-step : goal.returns-clause-step
returns-clause-step c = made_sound

pub returns-clause-new : goal.returns-clause-new
returns-clause-new c = new_cell_sound

pub returns-clause-anew : goal.returns-clause-anew
returns-clause-anew c = begun_sound

pub returns-clause-renumbered : goal.returns-clause-renumbered
returns-clause-renumbered c = renumbered_cell
