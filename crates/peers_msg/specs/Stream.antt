-- Messages in a row.
use Rattle.std.specs.Prelude.{◌≡◌, true, List, [], ◌∷◌}
use Rattle.peers_msg.specs.declared.message.Message.{Message}
use Rattle.peers_msg.specs.Received.{Received, received_after}
use Rattle.peers_msg.specs.Fitting.{fits}

-- each message fits what was received, including from the messages before it
abbrev pub AllFit : Received → List Message → Type 0
AllFit h [] = Unit {0}
AllFit h (m ∷ ms) = (fits h m ≡ true) × AllFit (received_after h m) ms
