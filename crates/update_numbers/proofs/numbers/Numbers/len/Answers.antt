use Rattle.std.proofs.Common.{length, sym, ap, ◌∙◌}
use Rattle.update_numbers.specs.Numbers.{Numbering}
use Rattle.update_numbers.proofs.RisingLaws.{length_rising}
use Rattle.update_numbers.proofs.numbers.Numbers.len.Goals as goal

pub returns : goal.returns
returns c = c.len.ensures.len ∙ sym (length_rising c.self.inside.keys.entries) ∙ ap (λ (s : Numbering). length s.pairs) c.self.view_is
