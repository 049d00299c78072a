-- A sequence of calls of a decoder that feed pieces and ask for messages, in any order.
use Rattle.std.specs.Prelude.{◌≡◌, ℕ, List, [], ◌∷◌, ◌++◌, Option, Some, None, Result, Ok, Err}
use Rattle.peers_msg.specs.declared.fault.Fault.{Fault}
use Rattle.peers_msg.specs.declared.message.Message.{Message}
use Rattle.peers_msg.specs.Decoding.{Decoding, DecoderFeeds, DecoderNext}

-- the piece fed, if it was accepted
abbrev pub taken_of : List ℕ → Result (Unit {0}) Fault → List (List ℕ)
taken_of piece (Ok _) = piece ∷ []
taken_of piece (Err fault) = []

-- the message asked for, if one was returned
abbrev pub messages_given : Result (Option Message) Fault → List Message
messages_given (Ok (Some m)) = m ∷ []
messages_given answer = []

-- A sequence of calls leads from `d` to `e`, accepts `pieces` and returns the messages `ms`. Some feeds a piece, None
-- asks for a message.
abbrev pub AreDecoderCalls : Decoding → List (Option (List ℕ)) → List (List ℕ) → List Message → Decoding → Type 0
AreDecoderCalls d [] pieces ms e = (pieces ≡ []) × (ms ≡ []) × (e ≡ d)
AreDecoderCalls d (Some piece ∷ calls) pieces ms e =
    (answer : Result (Unit {0}) Fault)
    × (others : List (List ℕ))
    × (mid : Decoding)
    × (pieces ≡ taken_of piece answer ++ others)
    × DecoderFeeds d piece answer mid
    × AreDecoderCalls mid calls others ms e
AreDecoderCalls d (None ∷ calls) pieces ms e =
    (answer : Result (Option Message) Fault)
    × (others : List Message)
    × (mid : Decoding)
    × (ms ≡ messages_given answer ++ others)
    × DecoderNext d answer mid
    × AreDecoderCalls mid calls pieces others e
