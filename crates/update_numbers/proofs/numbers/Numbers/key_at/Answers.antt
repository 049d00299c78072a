use Rattle.std.proofs.Common.{ap, ◌∙◌}
use Rattle.update_numbers.specs.Numbers.{Numbering, key_at}
use Rattle.update_numbers.proofs.RisingLaws.{found_rising}
use Rattle.update_numbers.proofs.numbers.Numbers.key_at.Goals as goal

pub returns : goal.returns
returns c =
    c.get.ensures.value ∙ found_rising c.self.inside.keys.entries (record { 0 = c.args.number }) c.self.invariant.rising
    ∙ ap (λ (s : Numbering). key_at s.pairs c.args.number) c.self.view_is
