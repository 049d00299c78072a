-- The state of a decoder, and the results of its calls.
use Rattle.std.specs.Prelude.{◌≡◌, ◌≢◌, ℕ, Bool, true, false, List, [], ◌∷◌, ◌++◌, drop, Option, Some, None, Result, Ok, Err}
use Rattle.peers_msg.specs.declared.fault.Breach.{Breach}
use Rattle.peers_msg.specs.declared.fault.Fault.{Fault}
use Rattle.peers_msg.specs.declared.fault.Fault.TheVariants as faults
use Rattle.peers_msg.specs.declared.message.Message.{Message}
use Rattle.peers_msg.specs.declared.borrowed.message_ref.MessageRef.{MessageRef}
use Rattle.peers_msg.specs.BorrowedMessages.{owned_message}
use Rattle.peers_msg.specs.Received.{Received, received_after}
use Rattle.peers_msg.specs.Reading.{message_at}

-- what was received, the bytes not read yet, and whether there was a breach
pub record Decoding : Type 0 where
  pub received : Received
  pub unread : List ℕ
  pub closed : Bool

-- nothing was fed yet
abbrev pub begun : Received → Decoding
begun received = record { received = received; unread = []; closed = false }

-- The result of feeding bytes. After a breach nothing is fed. Only bytes need memory, and if it runs out, nothing
-- changes.
abbrev pub DecoderFeeds : Decoding → List ℕ → Result (Unit {0}) Fault → Decoding → Type 0
DecoderFeeds d piece (Ok _) e = (d.closed ≡ false) × (e ≡ record { received = d.received; unread = d.unread ++ piece; closed = false })
DecoderFeeds d piece (Err faults.Memory) e = (d.closed ≡ false) × (piece ≢ []) × (e ≡ d)
DecoderFeeds d piece (Err faults.Closed) e = (d.closed ≡ true) × (e ≡ d)
DecoderFeeds d piece (Err (faults.Breach breach)) e = ⊥

-- a complete message without a breach is at the front
abbrev pub IsWhole : Decoding → Type 0
IsWhole d = (m : Message) × (rest : List ℕ) × (message_at d.received d.unread ≡ Ok (Some (m, rest)))

-- The result of asking for a message. A message is removed from the bytes and received, a breach closes the decoder,
-- and otherwise nothing changes. Memory can run out only for a complete message.
abbrev pub DecoderNext : Decoding → Result (Option Message) Fault → Decoding → Type 0
DecoderNext d (Ok None) e = (d.closed ≡ false) × (message_at d.received d.unread ≡ Ok None) × (e ≡ d)
DecoderNext d (Ok (Some m)) e =
    (d.closed ≡ false)
    × (rest : List ℕ)
    × (message_at d.received d.unread ≡ Ok (Some (m, rest)))
    × (e ≡ record { received = received_after d.received m; unread = rest; closed = false })
DecoderNext d (Err faults.Memory) e = (d.closed ≡ false) × IsWhole d × (e ≡ d)
DecoderNext d (Err faults.Closed) e = (d.closed ≡ true) × (e ≡ d)
DecoderNext d (Err (faults.Breach breach)) e =
    (d.closed ≡ false)
    × (message_at d.received d.unread ≡ Err breach)
    × (e ≡ record { received = d.received; unread = d.unread; closed = true })

-- The result of looking at the front of bytes, given what was received: the message and its length in bytes, none, or a
-- breach. No memory is allocated.
abbrev pub IsFrontOf : Received → List ℕ → Result (Option (MessageRef × ℕ)) Breach → Type 0
IsFrontOf received bytes (Ok None) = message_at received bytes ≡ Ok None
IsFrontOf received bytes (Ok (Some found)) = message_at received bytes ≡ Ok (Some (owned_message found.0, drop found.1 bytes))
IsFrontOf received bytes (Err breach) = message_at received bytes ≡ Err breach

-- ---- streams in pieces

-- these messages are read in a row, which leads from what was received before to what was received after and leaves
-- these bytes
abbrev pub AreRead : Received → List ℕ → List Message → Received → List ℕ → Type 0
AreRead before bytes [] received rest = (received ≡ before) × (rest ≡ bytes)
AreRead before bytes (m ∷ ms) received rest =
    (after : List ℕ) × (message_at before bytes ≡ Ok (Some (m, after))) × AreRead (received_after before m) after ms received rest

-- the same if the bytes arrive in pieces and any number of messages is read after each of them
abbrev pub AreReadInPieces : Received → List ℕ → List (List ℕ) → List Message → Received → List ℕ → Type 0
AreReadInPieces before unread [] ms received rest = AreRead before unread ms received rest
AreReadInPieces before unread (piece ∷ pieces) ms received rest =
    (first : List Message)
    × (others : List Message)
    × (between : Received)
    × (left : List ℕ)
    × (ms ≡ first ++ others)
    × AreRead before (unread ++ piece) first between left
    × AreReadInPieces between left pieces others received rest

-- the pieces joined into one stream
abbrev pub together : List (List ℕ) → List ℕ
together [] = []
together (piece ∷ pieces) = piece ++ together pieces

-- no complete message is at the front: it isn't complete yet, or there is a breach
abbrev pub IsEnd : Received → List ℕ → Type 0
IsEnd received rest = (m : Message) (after : List ℕ) → message_at received rest ≢ Ok (Some (m, after))
