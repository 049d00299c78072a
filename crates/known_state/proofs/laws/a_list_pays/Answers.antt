use Rattle.known_state.proofs.FullIsCost.{list_pays_full}
use Rattle.known_state.proofs.laws.a_list_pays.Goals as goal

pub returns : goal.returns
returns c = list_pays_full
