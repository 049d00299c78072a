-- In whatever order a decoder is fed and asked, it reads a stream in pieces.
use Rattle.std.proofs.Common.{◌≡◌, ℕ, List, [], ◌∷◌, ◌++◌, fold, Option, Some, None, Result, Ok, Err, refl, sym, ap, subst}
use Rattle.peers_encint.specs.Integers.{IsBytes}
use Rattle.peers_msg.specs.declared.fault.Fault.{Fault}
use Rattle.peers_msg.specs.declared.fault.Fault.TheVariants as faults
use Rattle.peers_msg.specs.declared.message.Message.{Message}
use Rattle.peers_msg.specs.Received.{Received, received_after}
use Rattle.peers_msg.specs.Decoding.{Decoding, DecoderFeeds, DecoderNext, AreRead, AreReadInPieces, together}
use Rattle.peers_msg.specs.Calls.{AreDecoderCalls, messages_given, taken_of}
use Rattle.peers_msg.specs.Spelling.{stream_of}
use Rattle.peers_msg.specs.Stream.{AllFit}
use Rattle.peers_msg.proofs.CuttingIndependence.{whole}
use Rattle.peers_msg.proofs.StreamRoundTrip.{read_spelled}

-- reading begins with the unread bytes as the first piece
abbrev Reads : Decoding → List (List ℕ) → List Message → Decoding → Type 0
Reads d pieces ms e = AreReadInPieces d.received [] (d.unread ∷ pieces) ms e.received e.unread

-- a decoder reads like another with the same definitions and unread bytes
reads_as : (d mid e : Decoding) (pieces : List (List ℕ)) (ms : List Message) → mid.received ≡ d.received → mid.unread ≡ d.unread → Reads mid pieces ms e → Reads d pieces ms e
reads_as d mid e pieces ms received unread reads =
    subst (λ (bytes : List ℕ). AreReadInPieces d.received [] (bytes ∷ pieces) ms e.received e.unread) unread
    (subst (λ (h : Received). AreReadInPieces h [] (mid.unread ∷ pieces) ms e.received e.unread) received reads)

feeds : (d mid e : Decoding) (piece : List ℕ) (answer : Result (Unit {0}) Fault) (others : List (List ℕ)) (ms : List Message) → DecoderFeeds d piece answer mid → Reads mid others ms e → Reads d (taken_of piece answer ++ others) ms e
feeds d mid e piece (Ok done) others ms (is_open, is) reads =
    ([], ms, d.received, d.unread, refl, (refl, refl), fed (ap (λ (x : Decoding). x.received) is) (ap (λ (x : Decoding). x.unread) is))
  where
    fed : mid.received ≡ d.received → mid.unread ≡ d.unread ++ piece → AreReadInPieces d.received d.unread (piece ∷ others) ms e.received e.unread
    fed received unread =
        subst (λ (bytes : List ℕ). AreReadInPieces d.received [] (bytes ∷ others) ms e.received e.unread) unread
        (subst (λ (h : Received). AreReadInPieces h [] (mid.unread ∷ others) ms e.received e.unread) received reads)
feeds d mid e piece (Err faults.Memory) others ms (is_open, some, is) reads = reads_as d mid e others ms (ap (λ (x : Decoding). x.received) is) (ap (λ (x : Decoding). x.unread) is) reads
feeds d mid e piece (Err faults.Closed) others ms (is_shut, is) reads = reads_as d mid e others ms (ap (λ (x : Decoding). x.received) is) (ap (λ (x : Decoding). x.unread) is) reads
feeds d mid e piece (Err (faults.Breach breach)) others ms none reads = absurd none

asks : (d mid e : Decoding) (answer : Result (Option Message) Fault) (pieces : List (List ℕ)) (others : List Message) → DecoderNext d answer mid → Reads mid pieces others e → Reads d pieces (messages_given answer ++ others) e
asks d mid e (Ok None) pieces others (is_open, none, is) reads = reads_as d mid e pieces others (ap (λ (x : Decoding). x.received) is) (ap (λ (x : Decoding). x.unread) is) reads
asks d mid e (Ok (Some m)) pieces others (is_open, rest, at, is) reads =
    let after : AreReadInPieces (received_after d.received m) [] (rest ∷ pieces) others e.received e.unread =
    subst (λ (x : Decoding). Reads x pieces others e) is reads in
    (m ∷ after.0, after.1, after.2, after.3, ap (λ (xs : List Message). m ∷ xs) after.4, (rest, at, after.5), after.6)
asks d mid e (Err faults.Memory) pieces others (is_open, stands, is) reads = reads_as d mid e pieces others (ap (λ (x : Decoding). x.received) is) (ap (λ (x : Decoding). x.unread) is) reads
asks d mid e (Err faults.Closed) pieces others (is_shut, is) reads = reads_as d mid e pieces others (ap (λ (x : Decoding). x.received) is) (ap (λ (x : Decoding). x.unread) is) reads
asks d mid e (Err (faults.Breach breach)) pieces others (is_open, at, is) reads = reads_as d mid e pieces others (ap (λ (x : Decoding). x.received) is) (ap (λ (x : Decoding). x.unread) is) reads

pub read_in_pieces : (calls : List (Option (List ℕ))) (d e : Decoding) (pieces : List (List ℕ)) (ms : List Message) → AreDecoderCalls d calls pieces ms e → AreReadInPieces d.received [] (d.unread ∷ pieces) ms e.received e.unread
read_in_pieces [] d e pieces ms (nothing, none, here) =
    let end : Reads d [] [] d = ([], [], d.received, d.unread, refl, (refl, refl), (refl, refl)) in
    subst (λ (x : Decoding). Reads d pieces ms x) (sym here)
    (subst (λ (ps : List (List ℕ)). Reads d ps ms d) (sym nothing) (subst (λ (ns : List Message). Reads d [] ns d) (sym none) end))
read_in_pieces (Some piece ∷ calls) d e pieces ms (answer, others, mid, all, fed, later) =
    subst (λ (ps : List (List ℕ)). Reads d ps ms e) (sym all) (feeds d mid e piece answer others ms fed (read_in_pieces calls mid e others ms later))
read_in_pieces (None ∷ calls) d e pieces ms (answer, others, mid, all, asked, later) =
    subst (λ (ns : List Message). Reads d pieces ns e) (sym all) (asks d mid e answer pieces others asked (read_in_pieces calls mid e pieces others later))

-- the spelling of the messages returned is the bytes unread before and the pieces accepted, up to the bytes unread
-- after
pub called_spelled : (calls : List (Option (List ℕ))) (d e : Decoding) (pieces : List (List ℕ)) (ms : List Message) → IsBytes (d.unread ++ together pieces) → AreDecoderCalls d calls pieces ms e
    → (d.unread ++ together pieces ≡ stream_of ms ++ e.unread) × AllFit d.received ms × (e.received ≡ fold received_after d.received ms)
called_spelled calls d e pieces ms good called =
    let read : AreRead d.received (d.unread ++ together pieces) ms e.received e.unread =
    whole d.received [] (d.unread ∷ pieces) ms e.received e.unread good (read_in_pieces calls d e pieces ms called) in
    read_spelled d.received e.received (d.unread ++ together pieces) e.unread ms good read
