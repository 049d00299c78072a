use Rattle.table_cell.proofs.SlideLaws.{settled_whole}
use Rattle.table_cell.proofs.laws.what_settles_is_the_latest.Goals as goal

pub returns : goal.returns
returns c = λ k session us. settled_whole k session us
