-- Acknowledgements in ascending order (HAProxy, doc/peers-v2.0.txt, "Acknowledgement Messages").
use Rattle.std.specs.Prelude.{ℕ, ◌<◌, List, [], ◌∷◌}
use Rattle.std.specs.List.{AllByRecursion}
use Rattle.peers_msg.specs.declared.message.Message.{Message}
use Rattle.peers_msg.specs.declared.message.Message.TheVariants as messages

-- an acknowledgement of a greater id
abbrev pub IsAckAbove : ℕ → Message → Type 0
IsAckAbove id (messages.Ack table number) = id < table
IsAckAbove id m = ⊥

-- acknowledgements in ascending order of id, at most one for each id, and nothing else
abbrev pub AreRisingAcks : List Message → Type 0
AreRisingAcks [] = Unit {0}
AreRisingAcks (messages.Ack table number ∷ ms) = AllByRecursion (IsAckAbove table) ms × AreRisingAcks ms
AreRisingAcks (m ∷ ms) = ⊥
