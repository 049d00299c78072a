-- What the parts of an event can be.
use Rattle.std.specs.Prelude.{◌^◌, ◌&&◌, ℕ, Bool, List, [], ◌∷◌, Option, None, Some, nat_lt}
use Rattle.std.specs.List.{list_all}
use Rattle.node_core.specs.declared.events.Event.{Event}
use Rattle.node_core.specs.declared.events.Event.TheVariants as events
use Rattle.node_core.specs.declared.events.Omission.TheVariants as omissions
use Rattle.node_core.specs.declared.events.PeerEvent.{PeerEvent}
use Rattle.node_core.specs.declared.events.PeerEvent.TheVariants as peers
use Rattle.node_core.specs.declared.events.Sender.{Sender}
use Rattle.node_core.specs.declared.events.Sender.TheVariants as senders
use Rattle.node_log.specs.Keys.{name_of}

abbrev pub sender_texts : Option Sender → List (List ℕ)
sender_texts None = []
sender_texts (Some (senders.Peer name)) = name.now ∷ []
sender_texts (Some (senders.Stranger name)) = name.now ∷ []

abbrev pub texts_if : Option (List ℕ) → List (List ℕ)
texts_if None = []
texts_if (Some text) = text ∷ []

abbrev pub peer_texts : PeerEvent → List (List ℕ)
peer_texts (peers.Mismatch table difference theirs ours) = table.now ∷ []
peer_texts (peers.Unshared table) = table.now ∷ []
peer_texts (peers.Undefined table) = table.now ∷ []
peer_texts (peers.Left table) = table.now ∷ []
peer_texts (peers.Alike table under_way) = table.now ∷ []
peer_texts (peers.Unacknowledged table) = table.now ∷ []
peer_texts (peers.PassedOver table further) = table.now ∷ []
peer_texts (peers.Fault fault) = fault.now ∷ []
peer_texts event = []

-- the texts that the keys of an event say
abbrev pub texts_of : Event → List (List ℕ)
texts_of (events.Start version configuration node) = version.now ∷ configuration.now ∷ node.now ∷ []
texts_of (events.Listening port address) = address.now ∷ []
texts_of (events.HelloRefused sender address refusal node said) = address.now ∷ said.now ∷ sender_texts sender
texts_of (events.OfPeer name address event) = name.now ∷ address.now ∷ peer_texts event
texts_of (events.WrongPort port sender address listen) = address.now ∷ sender_texts sender
texts_of (events.UpToDate teacher) = texts_if (name_of teacher)
texts_of (events.HeldUp milliseconds) = []
texts_of (events.ConfigurationWarning warning) = []
texts_of (events.Renewed table) = table.now ∷ []
texts_of (events.NotRenewed table) = table.now ∷ []
texts_of (events.NotAccepted port want reason) = []
texts_of (events.Omitted peer (omissions.Repeated event) count) = event.now ∷ texts_if (name_of peer)
texts_of (events.Omitted peer omissions.Unwritten count) = texts_if (name_of peer)
texts_of events.Stop = []
texts_of (events.Stopped cut) = []

abbrev pub peer_numbers : PeerEvent → List ℕ
peer_numbers (peers.Refused status node) = status ∷ []
peer_numbers (peers.Connected accepted version process away) = away ∷ []
peer_numbers (peers.ResyncEnded taught end rows milliseconds) = rows ∷ milliseconds ∷ []
peer_numbers (peers.NoHeartbeat milliseconds) = milliseconds ∷ []
peer_numbers (peers.Ended end lasted cause) = lasted ∷ []
peer_numbers (peers.ShortSessions count node) = count ∷ []
peer_numbers event = []

-- the numbers that they say
abbrev pub numbers_of : Event → List ℕ
numbers_of (events.OfPeer name address event) = peer_numbers event
numbers_of (events.HeldUp milliseconds) = milliseconds ∷ []
numbers_of (events.Omitted peer cause count) = count ∷ []
numbers_of (events.Stopped cut) = cut ∷ []
numbers_of event = []

abbrev pub are_bytes : List ℕ → Bool
are_bytes text = list_all (λ byte. nat_lt byte 256) text

-- the texts are of bytes, and the numbers of 64 bits, as in each event that there is
abbrev pub is_event : Event → Bool
is_event event = list_all are_bytes (texts_of event) && list_all (λ n. nat_lt n (2 ^ 64)) (numbers_of event)
