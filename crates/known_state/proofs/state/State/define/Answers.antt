use Rattle.std.proofs.Common.{◌≡◌, ◌∙◌, ℕ, List, Option, refl}
use Rattle.peers_msg.specs.Received.{Received}
use Rattle.known_state.specs.State.{State}
use Rattle.known_state.proofs.state.State.define.Goals as goal

same_parts : (one other : Received) (ls ms : List (ℕ × ℕ)) (slots : List (Option (List ℕ))) → one ≡ other → ls ≡ ms
    → ◌≡◌ {A = State} (record { received = one; last_numbers = ls; slots = slots }) (record { received = other; last_numbers = ms; slots = slots })
same_parts one other ls ms slots received numbers = rw (received, numbers) refl

pub returns-clause-made : goal.returns-clause-made
returns-clause-made c =
    rw (← c.self.view_is) (same_parts _ _ _ _ c.self.inside.slots c.in_ok-define.ensures.received (c.forget.ensures ∙ c.at-lost.ensures c.self.inside.last_numbers))
