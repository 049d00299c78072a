use Rattle.price_checker.proofs.ShortestIsSaid.{accepted_said}
use Rattle.price_checker.proofs.laws.accepted_is_said.Goals as goal

pub returns : goal.returns
returns c = accepted_said
