-- However a stream is cut into pieces, reading it ends with the same result.
use Rattle.std.proofs.Common.{◌≡◌, ℕ, List, [], ◌++◌, Option, None, Result, Ok, Err, sym, ap, subst, ◌∙◌}
use Rattle.peers_encint.specs.Integers.{IsBytes}
use Rattle.peers_msg.specs.declared.fault.Breach.{Breach}
use Rattle.peers_msg.specs.declared.message.Message.{Message}
use Rattle.peers_msg.specs.Received.{Received}
use Rattle.peers_msg.specs.Reading.{message_at, with_more}
use Rattle.peers_msg.specs.Decoding.{AreRead, AreReadInPieces, IsEnd, together}
use Rattle.peers_msg.proofs.ReadingStays.{message_stays}
use Rattle.peers_msg.proofs.CuttingIndependence.{found, any_cutting, front_good, left_good, reads_on, same, whole}

abbrev breached : Breach → Result (Option (Message × List ℕ)) Breach
breached breach = Err breach

pub same_end : (h : Received) (one other : List (List ℕ)) (ms ns : List Message) (g k : Received) (x y : List ℕ) → IsBytes (together one) → together one ≡ together other → AreReadInPieces h [] one ms g x → AreReadInPieces h [] other ns k y → IsEnd g x → IsEnd k y → (ms ≡ ns) × (g ≡ k) × (x ≡ y) × (message_at g x ≡ message_at k y)
same_end h one other ms ns g k x y good cut read again a b =
    let all = any_cutting h one other ms ns g k x y good cut read again a b in
    (all.0, all.1, all.2, ap (λ (q : Received). message_at q x) all.1 ∙ ap (message_at k) all.2)

-- a breach at the front stays the same with more bytes after
pub breach_on : (h : Received) (bytes more : List ℕ) (breach : Breach) → IsBytes bytes → message_at h bytes ≡ Err breach → message_at h (bytes ++ more) ≡ Err breach
breach_on h bytes more breach good at =
    message_stays h bytes more good (λ none. let bad : breached breach ≡ Ok None = sym at ∙ none in absurd cc) ∙ ap (with_more more) at

no_message : (m : Message) (after : List ℕ) (breach : Breach) → breached breach ≡ found m after → ⊥
no_message m after breach e = cc

pub same_breach : (h : Received) (one other : List (List ℕ)) (more : List ℕ) (ms ns : List Message) (g k : Received) (x y : List ℕ) (breach : Breach) → IsBytes (together other) → together one ++ more ≡ together other → AreReadInPieces h [] one ms g x → message_at g x ≡ Err breach → AreReadInPieces h [] other ns k y → IsEnd k y → (ms ≡ ns) × (g ≡ k) × (x ++ more ≡ y) × (message_at k y ≡ Err breach)
same_breach h one other more ms ns g k x y breach good cut read at again end =
    let front : IsBytes (together one) = front_good (together one) more (subst IsBytes (sym cut) good) in
    let first = whole h [] one ms g x front read in
    let second = whole h [] other ns k y good again in
    let on : AreRead h (together other) ms g (x ++ more) = subst (λ (bytes : List ℕ). AreRead h bytes ms g (x ++ more)) cut (reads_on h (together one) more ms g x front first) in
    let stays : message_at g (x ++ more) ≡ Err breach = breach_on g x more breach (left_good h (together one) ms g x front first) at in
    let ended : IsEnd g (x ++ more) = λ m after whole. no_message m after breach (sym stays ∙ whole) in
    let both = same h (together other) ms ns g k (x ++ more) y on second ended end in
    (both.0, both.1, both.2, sym (ap (λ (q : Received). message_at q (x ++ more)) both.1 ∙ ap (message_at k) both.2) ∙ stays)
