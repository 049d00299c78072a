use Rattle.std.proofs.Common.{ap, sym, rules, ◌∙◌}
use Rattle.update_numbers.specs.Rising.{rising}
use Rattle.update_numbers.proofs.RisingLaws.{rising_end}
use Rattle.update_numbers.proofs.rising.RisingIterator.next.Goals as goal

pub returns-clause-steps : goal.returns-clause-steps
returns-clause-steps c = sym c.self.view_is ∙ ap rising c.in-Some.ensures.steps ∙ rising_end c.next_back.new.self (c.in-Some.number.now, c.in-Some.key.now)

pub returns-clause-goes : goal.returns-clause-goes
returns-clause-goes c = rw (returns-clause-steps c) (search rules)
