use Rattle.std.proofs.Common.{ap, ◌∙◌}
use Rattle.update_numbers.specs.Numbers.{Numbering, key_at}
use Rattle.update_numbers.specs.Rising.{rising}
use Rattle.update_numbers.proofs.NumberLaws.{numbering, removed}
use Rattle.update_numbers.proofs.RisingLaws.{found_rising, removed_rising, sorted_rising}
use Rattle.update_numbers.proofs.numbers.Numbers.remove.Goals as goal

pub invariant_of-self : goal.invariant_of-self
invariant_of-self c =
    let before = c.self.inside.keys.entries in
    removed (rising before) (rising c.remove.new.self.entries) c.args.number c.self.inside.next c.self.invariant
    (ap rising c.remove.ensures.entries ∙ removed_rising before (record { 0 = c.args.number }) c.self.invariant.rising)
    (sorted_rising c.remove.new.self.entries c.remove.ensures.ordered)

pub returns-clause-key : goal.returns-clause-key
returns-clause-key c =
    c.remove.ensures.value ∙ found_rising c.self.inside.keys.entries (record { 0 = c.args.number }) c.self.invariant.rising
    ∙ ap (λ (s : Numbering). key_at s.pairs c.args.number) c.self.view_is

pub returns-clause-removed : goal.returns-clause-removed
returns-clause-removed c =
    rw (← c.self.view_is)
    (ap (numbering c.self.inside.next) (ap rising c.remove.ensures.entries ∙ removed_rising c.self.inside.keys.entries (record { 0 = c.args.number }) c.self.invariant.rising))
