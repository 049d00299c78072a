use Rattle.std.proofs.Common.{◌≡◌, ap, subst, sym, ◌∙◌, rules}
use Rattle.peers_msg.specs.Received.{Received}
use Rattle.peers_msg.specs.OwnTables.{own_part}
use Rattle.known_state.specs.State.{State}
use Rattle.known_state.specs.Known.{AreOwn}
use Rattle.known_state.proofs.KnownIsOwn.{AreOwn-own}
use Rattle.known_state.proofs.known.Known.of_learner.Goals as goal

pub from_parts-requires : goal.from_parts-requires
from_parts-requires c =
    let is : c.in_ok-received.received ≡ own_part c.args.roster c.args.state.now.received = search rules in
    let here : c.of-known.result.received ≡ own_part c.args.roster c.args.state.now.received = ap (λ (s : State). s.received) c.of-known.ensures ∙ is in
    subst (λ (h : Received). AreOwn c.args.roster h.tables) (sym here) (AreOwn-own c.args.roster c.args.state.now.received.tables)
