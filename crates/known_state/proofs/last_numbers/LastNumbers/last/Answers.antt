use Rattle.std.proofs.Common.{◌∙◌}
use Rattle.known_state.proofs.LastNumbersInMap.{found}
use Rattle.known_state.proofs.last_numbers.LastNumbers.last.Goals as goal

pub returns : goal.returns
returns c = rw (← c.self.view_is) (c.copied.ensures ∙ c.get.ensures.value ∙ found c.args.id c.self.inside.numbers.entries)
