-- Messages in a row are read back from their spelling.
use Rattle.std.proofs.Common.{◌≡◌, ℕ, List, [], ◌∷◌, ◌++◌, refl, sym, ap, ◌∙◌, append_assoc}
use Rattle.std.specs.Prelude.{fold}
use Rattle.peers_encint.specs.Integers.{IsBytes}
use Rattle.peers_msg.specs.declared.message.Message.{Message}
use Rattle.peers_msg.specs.Received.{Received, received_after}
use Rattle.peers_msg.specs.Spelling.{spelled, stream_of}
use Rattle.peers_msg.specs.Reading.{message_at}
use Rattle.peers_msg.specs.Stream.{AllFit}
use Rattle.peers_msg.specs.Decoding.{AreRead}
use Rattle.peers_msg.proofs.MessageCanonical.{message_takes}
use Rattle.peers_msg.proofs.MessageRoundTrip.{message_again}
use Rattle.peers_msg.proofs.CuttingIndependence.{rest_good}

pub read_spelled : (h g : Received) (bytes rest : List ℕ) (ms : List Message) → IsBytes bytes → AreRead h bytes ms g rest → (bytes ≡ stream_of ms ++ rest) × AllFit h ms × (g ≡ fold received_after h ms)
read_spelled h g bytes rest [] good (received, left) = (sym left, tt, received)
read_spelled h g bytes rest (m ∷ ms) good (after, at, others) =
    let one = message_takes h m bytes after good at in
    let later = read_spelled (received_after h m) g after rest ms (rest_good h m bytes after good at) others in
    let grouped : spelled m ++ (stream_of ms ++ rest) ≡ (spelled m ++ stream_of ms) ++ rest = simp append_assoc in
    (one.0 ∙ ap (λ (x : List ℕ). spelled m ++ x) later.0 ∙ grouped, (one.1, later.1), later.2)

pub spelled_read : (h : Received) (ms : List Message) (rest : List ℕ) → AllFit h ms → AreRead h (stream_of ms ++ rest) ms (fold received_after h ms) rest
spelled_read h [] rest fit = (refl, refl)
spelled_read h (m ∷ ms) rest fit =
    let grouped : (spelled m ++ stream_of ms) ++ rest ≡ spelled m ++ (stream_of ms ++ rest) = simp append_assoc in
    (stream_of ms ++ rest, ap (message_at h) grouped ∙ message_again h m (stream_of ms ++ rest) fit.0, spelled_read (received_after h m) ms rest fit.1)
