-- However a stream is cut into pieces, the same messages are read from it.
use Rattle.std.proofs.Common.{◌≡◌, ◌-◌, ℕ, List, [], ◌∷◌, ◌++◌, length, Option, Some, None, Result, Ok, refl, sym, ap, subst, ◌∙◌, append_assoc}
use Rattle.std.proofs.lemmas.List.{append-nil, take_at}
use Rattle.peers_encint.specs.Integers.{IsBytes}
use Rattle.peers_msg.specs.declared.fault.Breach.{Breach}
use Rattle.peers_msg.specs.declared.message.Message.{Message}
use Rattle.peers_msg.specs.Received.{Received, received_after}
use Rattle.peers_msg.specs.Reading.{message_at, with_more}
use Rattle.peers_msg.specs.Decoding.{AreRead, AreReadInPieces, IsEnd, together}
use Rattle.peers_msg.proofs.MessageCanonical.{rest_is_end}
use Rattle.peers_msg.proofs.FieldCanonical.{IsBytes-drop, IsBytes-take}
use Rattle.peers_msg.proofs.ReadingStays.{message_stays}

abbrev pub found : Message → List ℕ → Result (Option (Message × List ℕ)) Breach
found m rest = Ok (Some (m, rest))

pub found_is : (m n : Message) (x y : List ℕ) → found m x ≡ found n y → (m ≡ n) × (x ≡ y)
found_is m n x y e =
    let both : ◌≡◌ {A = Message × List ℕ} (m, x) (n, y) = cc in
    (ap (λ (p : Message × List ℕ). p.0) both, ap (λ (p : Message × List ℕ). p.1) both)

-- a message read is also read with more bytes after it
pub read_on : (h : Received) (m : Message) (bytes after more : List ℕ) → IsBytes bytes → message_at h bytes ≡ found m after → message_at h (bytes ++ more) ≡ found m (after ++ more)
read_on h m bytes after more good read =
    message_stays h bytes more good (λ none. let no_message : found m after ≡ Ok None = sym read ∙ none in absurd cc) ∙ ap (with_more more) read

pub rest_good : (h : Received) (m : Message) (bytes after : List ℕ) → IsBytes bytes → message_at h bytes ≡ found m after → IsBytes after
rest_good h m bytes after good read =
    subst IsBytes (rest_is_end h m bytes after good read).0 (IsBytes-drop (length bytes - length after) bytes good)

-- joins messages read from bytes with those read from what is left and more bytes
joined : (h : Received) (bytes more : List ℕ) (ms ns : List Message) (g k : Received) (left rest : List ℕ) → IsBytes bytes → AreRead h bytes ms g left → AreRead g (left ++ more) ns k rest → AreRead h (bytes ++ more) (ms ++ ns) k rest
joined h bytes more [] ns g k left rest good one other =
    subst (λ (x : Received). AreRead x (bytes ++ more) ns k rest) one.0 (subst (λ (x : List ℕ). AreRead g (x ++ more) ns k rest) one.1 other)
joined h bytes more (m ∷ ms) ns g k left rest good one other =
    (one.0 ++ more, read_on h m bytes one.0 more good one.1, joined (received_after h m) one.0 more ms ns g k left rest (rest_good h m bytes one.0 good one.1) one.2 other)

pub reads_on : (h : Received) (bytes more : List ℕ) (ms : List Message) (g : Received) (left : List ℕ) → IsBytes bytes → AreRead h bytes ms g left → AreRead h (bytes ++ more) ms g (left ++ more)
reads_on h bytes more [] g left good read = (read.0, ap (λ (x : List ℕ). x ++ more) read.1)
reads_on h bytes more (m ∷ ms) g left good read =
    (read.0 ++ more, read_on h m bytes read.0 more good read.1, reads_on (received_after h m) read.0 more ms g left (rest_good h m bytes read.0 good read.1) read.2)

pub left_good : (h : Received) (bytes : List ℕ) (ms : List Message) (g : Received) (left : List ℕ) → IsBytes bytes → AreRead h bytes ms g left → IsBytes left
left_good h bytes [] g left good read = subst IsBytes (sym read.1) good
left_good h bytes (m ∷ ms) g left good read = left_good (received_after h m) read.0 ms g left (rest_good h m bytes read.0 good read.1) read.2

pub front_good : (a b : List ℕ) → IsBytes (a ++ b) → IsBytes a
front_good a b good = subst IsBytes (take_at a b (length a) refl) (IsBytes-take (length a) (a ++ b) good)

-- reading pieces is reading them joined
pub whole : (h : Received) (unread : List ℕ) (pieces : List (List ℕ)) (ms : List Message) (g : Received) (rest : List ℕ) → IsBytes (unread ++ together pieces) → AreReadInPieces h unread pieces ms g rest → AreRead h (unread ++ together pieces) ms g rest
whole h unread [] ms g rest good read = subst (λ (x : List ℕ). AreRead h x ms g rest) (sym (append-nil unread)) read
whole h unread (piece ∷ pieces) ms g rest good read =
    let more : List ℕ = together pieces in
    let grouped : (unread ++ piece) ++ more ≡ unread ++ (piece ++ more) = simp append_assoc in
    let all_good : IsBytes ((unread ++ piece) ++ more) = subst IsBytes (sym grouped) good in
    let good_front = front_good (unread ++ piece) more all_good in
    let on = reads_on h (unread ++ piece) more read.0 read.2 read.3 good_front read.5 in
    let later = whole read.2 read.3 pieces read.1 g rest (left_good h ((unread ++ piece) ++ more) read.0 read.2 (read.3 ++ more) all_good on) read.6 in
    let all = joined h (unread ++ piece) more read.0 read.1 read.2 g read.3 rest good_front read.5 later in
    subst (λ (x : List ℕ). AreRead h x ms g rest) grouped (subst (λ (ks : List Message). AreRead h ((unread ++ piece) ++ more) ks g rest) (sym read.4) all)

-- the same messages are read from the same bytes
pub same : (h : Received) (bytes : List ℕ) (ms ns : List Message) (g k : Received) (x y : List ℕ) → AreRead h bytes ms g x → AreRead h bytes ns k y → IsEnd g x → IsEnd k y → (ms ≡ ns) × (g ≡ k) × (x ≡ y)
same h bytes [] [] g k x y one other a b = (refl, one.0 ∙ sym other.0, one.1 ∙ sym other.1)
same h bytes [] (n ∷ ns) g k x y one other a b =
    absurd (a n other.0 (ap (λ (q : Received). message_at q x) one.0 ∙ ap (message_at h) one.1 ∙ other.1))
same h bytes (m ∷ ms) [] g k x y one other a b =
    absurd (b m one.0 (ap (λ (q : Received). message_at q y) other.0 ∙ ap (message_at h) other.1 ∙ one.1))
same h bytes (m ∷ ms) (n ∷ ns) g k x y one other a b =
    let e = found_is m n one.0 other.0 (sym one.1 ∙ other.1) in
    let later : AreRead (received_after h m) one.0 ns k y = subst (λ (q : Message). AreRead (received_after h q) one.0 ns k y) (sym e.0) (subst (λ (q : List ℕ). AreRead (received_after h n) q ns k y) (sym e.1) other.2) in
    let rest = same (received_after h m) one.0 ms ns g k x y one.2 later a b in
    (rw (e.0, rest.0) refl, rest.1, rest.2)

pub any_cutting : (h : Received) (one other : List (List ℕ)) (ms ns : List Message) (g k : Received) (x y : List ℕ) → IsBytes (together one) → together one ≡ together other → AreReadInPieces h [] one ms g x → AreReadInPieces h [] other ns k y → IsEnd g x → IsEnd k y → (ms ≡ ns) × (g ≡ k) × (x ≡ y)
any_cutting h one other ms ns g k x y good e read again a b =
    let first = whole h [] one ms g x good read in
    let second = whole h [] other ns k y (subst IsBytes e good) again in
    same h (together one) ms ns g k x y first (subst (λ (bytes : List ℕ). AreRead h bytes ns k y) (sym e) second) a b
