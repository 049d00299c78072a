-- The owned messages equal to borrowed ones.
use Rattle.peers_msg.specs.declared.message.Message.{Message}
use Rattle.peers_msg.specs.declared.message.Message.TheVariants as messages
use Rattle.peers_msg.specs.declared.borrowed.message_ref.MessageRef.{MessageRef}
use Rattle.peers_msg.specs.declared.borrowed.message_ref.MessageRef.TheVariants as borrowed

-- the owned message equal to a borrowed one
abbrev pub owned_message : MessageRef → Message
owned_message (borrowed.Control c) = messages.Control c
owned_message (borrowed.Error e) = messages.Error e
owned_message (borrowed.Define d) = messages.Define d
owned_message (borrowed.Switch id) = messages.Switch id
owned_message (borrowed.Ack table number) = messages.Ack table number
owned_message (borrowed.Update u) = messages.Update u
owned_message (borrowed.Other o) = messages.Other o
