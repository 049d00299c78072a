use Rattle.price_checker.proofs.ShortestIsSaid.{shortest_said}
use Rattle.price_checker.proofs.laws.shortest_is_said.Goals as goal

pub returns : goal.returns
returns c = shortest_said
