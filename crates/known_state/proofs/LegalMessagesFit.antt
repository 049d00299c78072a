-- Messages that make their steps fit, each in its state.
use Rattle.std.proofs.Common.{◌≡◌, true, List, [], ◌∷◌, ap, subst, ◌∙◌}
use Rattle.std.specs.Prelude.{fold}
use Rattle.table_types.specs.declared.update.Update.{Update}
use Rattle.peers_msg.specs.declared.message.Message.{Message}
use Rattle.peers_msg.specs.declared.message.Message.TheVariants as messages
use Rattle.peers_msg.specs.Received.{Received, received_after}
use Rattle.peers_msg.specs.Fitting.{fits}
use Rattle.peers_msg.specs.Stream.{AllFit}
use Rattle.known_state.specs.State.{State, Step, Teaches}

-- a message that makes its step fits, and is received
pub step_fits : (s e : State) (m : Message) (us : List Update) → Step s m us e → (fits s.received m ≡ true) × (e.received ≡ received_after s.received m)
step_fits s e (messages.Update u) us step = (step.0, step.8)
step_fits s e (messages.Control c) us step = (step.0, ap (λ (x : State). x.received) step.2)
step_fits s e (messages.Error k) us step = (step.0, ap (λ (x : State). x.received) step.2)
step_fits s e (messages.Define d) us step = (step.0, ap (λ (x : State). x.received) step.2)
step_fits s e (messages.Switch id) us step = (step.0, ap (λ (x : State). x.received) step.2)
step_fits s e (messages.Ack table number) us step = (step.0, ap (λ (x : State). x.received) step.2)
step_fits s e (messages.Other o) us step = (step.0, ap (λ (x : State). x.received) step.2)

pub steps_fit : (s e : State) (ms : List Message) (us : List Update) → Teaches s ms us e → AllFit s.received ms × (e.received ≡ fold received_after s.received ms)
steps_fit s e [] us (none, here) = (tt, ap (λ (x : State). x.received) here)
steps_fit s e (m ∷ ms) us (one, rest, mid, joined, step, later) =
    let first = step_fits s mid m one step in
    let others = steps_fit mid e ms rest later in (
      (first.0, subst (λ (h : Received). AllFit h ms) first.1 others.0),
      others.1 ∙ ap (λ (h : Received). fold received_after h ms) first.1,
    )
