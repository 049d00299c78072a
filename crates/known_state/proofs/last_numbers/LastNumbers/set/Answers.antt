use Rattle.std.proofs.Common.{◌∙◌, sym, subst}
use Rattle.known_state.specs.LastNumbers.{AreRising}
use Rattle.known_state.proofs.LastNumbersInMap.{put}
use Rattle.known_state.proofs.LastNumbersRise.{rising-put}
use Rattle.known_state.proofs.last_numbers.LastNumbers.set.Goals as goal

pub invariant_of-self-2 : goal.invariant_of-self-2
invariant_of-self-2 c =
    let ls = c.self.inside.numbers.entries in
    subst AreRising (sym (c.in_ok-insert.ensures.entries ∙ put c.args.id c.args.number ls)) (rising-put c.args.id c.args.number ls c.self.invariant)

pub returns-clause-set : goal.returns-clause-set
returns-clause-set c = rw (← c.self.view_is) (c.in_ok-insert.ensures.entries ∙ put c.args.id c.args.number c.self.inside.numbers.entries)
