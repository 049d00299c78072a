use Rattle.std.proofs.Common.{ap, rules, ◌∙◌}
use Rattle.update_numbers.specs.Numbers.{Numbering, above}
use Rattle.update_numbers.specs.Rising.{rising}
use Rattle.update_numbers.proofs.RisingLaws.{above_rising}
use Rattle.update_numbers.proofs.numbers.Numbers.iter_above.Goals as goal

pub returns : goal.returns
returns c =
    c.new.ensures ∙ ap rising (c.range.ensures.between (search rules)) ∙ above_rising c.self.inside.keys.entries c.args.number
    ∙ ap (λ (s : Numbering). above c.args.number s.pairs) c.self.view_is
