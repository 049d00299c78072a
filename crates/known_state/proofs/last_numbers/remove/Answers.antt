use Rattle.std.proofs.Common.{◌≡◌, ◌∙◌, None, rules, sym}
use Rattle.known_state.proofs.LastNumbersInMap.{none_dropped, removed}
use Rattle.known_state.proofs.last_numbers.remove.Goals as goal

pub returns-in-Some : goal.returns-in-Some
returns-in-Some c = rw c.in-Some.is (c.remove.ensures.entries ∙ removed c.in-Some.id c.args.numbers.now.entries c.requires)

pub returns-in_default : goal.returns-in_default
returns-in_default c = let none : c.args.id ≡ None = search rules in rw none (sym (none_dropped c.args.numbers.now.entries))
