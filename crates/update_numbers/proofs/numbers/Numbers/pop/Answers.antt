use Rattle.std.proofs.Common.{ℕ, ap, subst, sym}
use Rattle.update_numbers.specs.Numbers.{AreNumbered}
use Rattle.update_numbers.specs.Rising.{rising}
use Rattle.update_numbers.proofs.NumberLaws.{popped}
use Rattle.update_numbers.proofs.RisingLaws.{sorted_rising}
use Rattle.update_numbers.proofs.numbers.Numbers.pop.Goals as goal

pub invariant_of-self-2 : goal.invariant_of-self-2
invariant_of-self-2 c =
    let left = c.pop_first.new.self.entries in
    subst (λ (n : ℕ). AreNumbered (rising left) n) (sym c.from-self-inside.ensures)
    (popped (rising c.self.inside.keys.entries) (rising left) c.in_ok-number.field-0-0.0 c.self.inside.next c.in_ok-number.key c.self.invariant (ap rising c.in_ok-number.ensures.removal) (sorted_rising left c.in_ok-number.ensures.ordered))
