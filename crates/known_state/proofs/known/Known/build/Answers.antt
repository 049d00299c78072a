use Rattle.std.proofs.Common.{◌≡◌, ap, subst, sym, ◌∙◌}
use Rattle.peers_msg.specs.Received.{Received, resumed}
use Rattle.known_state.specs.State.{State}
use Rattle.known_state.specs.Known.{AreOwn}
use Rattle.known_state.proofs.ReceivedIsOwn.{AreOwn-resumed}
use Rattle.known_state.proofs.known.Known.build.Goals as goal

pub from_parts-requires : goal.from_parts-requires
from_parts-requires c =
    let is : c.in_ok-received.received ≡ resumed c.args.roster c.args.defined.items c.args.selected = cc (c.in_ok-received.ensures) in
    let here : c.of-state.result.received ≡ resumed c.args.roster c.args.defined.items c.args.selected = ap (λ (s : State). s.received) c.of-state.ensures ∙ is in
    subst (λ (h : Received). AreOwn c.args.roster h.tables) (sym here) (AreOwn-resumed c.args.roster c.args.defined.items c.args.selected)
