use Rattle.std.proofs.Common.{subst, sym}
use Rattle.known_state.specs.State.{State}
use Rattle.known_state.specs.Known.{AreOwn}
use Rattle.known_state.proofs.known.Known.from_parts.Goals as goal

pub invariant_of-result : goal.invariant_of-result
invariant_of-result c = subst (λ (s : State). AreOwn c.args.roster s.received.tables) (sym c.in_ok-state.ensures.ok) c.requires
