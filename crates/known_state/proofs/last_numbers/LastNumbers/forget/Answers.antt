use Rattle.std.proofs.Common.{ℕ, List, not, ap, ◌∙◌, sym, subst}
use Rattle.std.specs.Prelude.{filter}
use Rattle.peers_msg.specs.ReceivedIndex.{is_id}
use Rattle.known_state.specs.LastNumbers.{AreRising}
use Rattle.known_state.proofs.LastNumbersInMap.{filter_both}
use Rattle.known_state.proofs.LastNumbersRise.{rising-filter}
use Rattle.known_state.proofs.last_numbers.LastNumbers.forget.Goals as goal

pub remove-requires-2 : goal.remove-requires-2
remove-requires-2 c = subst AreRising (sym c.remove.ensures) (rising-filter _ c.self.inside.numbers.entries c.self.invariant)

pub invariant_of-self : goal.invariant_of-self
invariant_of-self c =
    subst AreRising (sym c.remove-2.ensures) (rising-filter _ c.remove.new.numbers.entries (subst AreRising (sym c.remove.ensures) (rising-filter _ c.self.inside.numbers.entries c.self.invariant)))

pub returns : goal.returns
returns c =
    rw (← c.self.view_is) (c.remove-2.ensures
    ∙ ap (λ (ls : List (ℕ × ℕ)). filter (λ last. not (is_id c.args.lost.other last.0)) ls) c.remove.ensures
    ∙ filter_both (is_id c.args.lost.defined) (is_id c.args.lost.other) c.self.inside.numbers.entries)
