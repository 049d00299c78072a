use Rattle.std.proofs.Common.{◌∙◌}
use Rattle.known_state.proofs.last_numbers.LastNumbers.define.Goals as goal

pub returns : goal.returns
returns c = c.forget.ensures ∙ c.at.ensures c.args.self.now
