use Rattle.std.proofs.Common.{ℕ, List, ◌++◌, sym, ap, ◌∙◌, subst}
use Rattle.known_state.specs.LastNumbers.{AreRising}
use Rattle.known_state.proofs.LastNumbersInMap.{next_copied}
use Rattle.known_state.proofs.last_numbers.LastNumbers.copy.Goals as goal

pub loop-id-preserved : goal.loop-id-preserved
loop-id-preserved c =
    next_copied c.args.self.now c.loop-id.copy c.next.new.self c.set.new.self _ _
    (subst AreRising c.self.view_is c.self.invariant)
    (ap (λ (rest : List (ℕ × ℕ)). c.loop-id.copy ++ rest) (sym c.in-Some.ensures.steps) ∙ c.loop-id.invariant)
    c.in_ok-set.ensures.set
