-- Where messages end in their bytes: no other messages with the same bytes end elsewhere.
use Rattle.std.proofs.Common.{◌≡◌, ◌∙◌, ◌+◌, ◌^◌, ◌<◌, inl, inr, ◌++◌, ℕ, List, [], ◌∷◌, ap, arith, drop, length, length-append, refl, suc, sym}
use Rattle.peers_encint.specs.declared.reading.Read.{Read}
use Rattle.peers_encint.specs.declared.reading.Read.TheVariants.{Value, Short, Over}
use Rattle.peers_encint.specs.Integers.{read_of}
use Rattle.peers_msg.specs.declared.message.Message.{Message}
use Rattle.peers_msg.specs.Framing.{IsCounted, IsFrame}
use Rattle.peers_msg.specs.Spelling.{spelled, stream_of}
use Rattle.peers_msg.proofs.FrameEnds.{counted_size, frame_parts, is_frame, never_unread}
use Rattle.teach_writer.specs.Pieces.{ends_from}

-- bytes begin with at most one length with the bytes that it counts
one_counted : (a b x y : List ℕ) → IsCounted a → IsCounted b → a ++ x ≡ b ++ y → length (a ++ x) < 2 ^ 64 → length a ≡ length b
one_counted a b x y is other same small = at (read_of (a ++ x)) refl
  where
    at : (r : Read) → read_of (a ++ x) ≡ r → length a ≡ length b
    at (Value n used) e = sym (counted_size (a ++ x) a x n used is refl small e).0 ∙ (counted_size (a ++ x) b y n used other same small e).0
    at Short e = absurd (never_unread (a ++ x) a x is refl small Short e (inl refl))
    at Over e = absurd (never_unread (a ++ x) a x is refl small Over e (inr refl))

-- and with at most one frame
one_frame : (a b x y : List ℕ) → IsFrame a → IsFrame b → a ++ x ≡ b ++ y → length (a ++ x) < 2 ^ 64 → length a ≡ length b
one_frame [] b x y is other same small = absurd is
one_frame (c ∷ []) b x y is other same small = absurd is
one_frame (c ∷ k ∷ a) [] x y is other same small = absurd other
one_frame (c ∷ k ∷ a) (d ∷ []) x y is other same small = absurd other
one_frame (c ∷ k ∷ a) (d ∷ l ∷ b) x y (inl (low, none)) (inl (down, nil)) same small = ap (λ (bytes : List ℕ). length (c ∷ k ∷ bytes)) none ∙ sym (ap (λ (bytes : List ℕ). length (d ∷ l ∷ bytes)) nil)
one_frame (c ∷ k ∷ a) (d ∷ l ∷ b) x y (inl (low, none)) (inr (high, counted)) same small = let one : k ≡ l = cc in absurd (omega (arith, one, low, high))
one_frame (c ∷ k ∷ a) (d ∷ l ∷ b) x y (inr (high, counted)) (inl (low, none)) same small = let one : k ≡ l = cc in absurd (omega (arith, one, low, high))
one_frame (c ∷ k ∷ a) (d ∷ l ∷ b) x y (inr (high, counted)) (inr (top, numbered)) same small =
    let rest : a ++ x ≡ b ++ y = cc in
    let fewer : length (a ++ x) < 2 ^ 64 = omega (arith, small) in
    ap (λ (n : ℕ). suc (suc n)) (one_counted a b x y counted numbered rest fewer)

-- some byte is in a frame
not_empty : (a x : List ℕ) → IsFrame a → [] ≡ a ++ x → ⊥
not_empty [] x is same = absurd is
not_empty (c ∷ a) x is same = absurd (cc)

-- messages with the same bytes end at the same places
pub one_cut : (ms ns : List Message) (start : ℕ) → stream_of ms ≡ stream_of ns → length (stream_of ms) < 2 ^ 64 → ends_from start ms ≡ ends_from start ns
one_cut [] [] start same small = refl
one_cut [] (n ∷ ns) start same small = absurd (not_empty (spelled n) (stream_of ns) (is_frame n) same)
one_cut (m ∷ ms) [] start same small = absurd (not_empty (spelled m) (stream_of ms) (is_frame m) (sym same))
one_cut (m ∷ ms) (n ∷ ns) start same small =
    let size : length (spelled m) ≡ length (spelled n) = one_frame (spelled m) (spelled n) (stream_of ms) (stream_of ns) (is_frame m) (is_frame n) same small in
    let rest : stream_of ms ≡ stream_of ns =
    sym (frame_parts (spelled m) (stream_of ms)).1 ∙ ap (drop (length (spelled m))) same ∙ ap (λ (k : ℕ). drop k (spelled n ++ stream_of ns)) size ∙ (frame_parts (spelled n) (stream_of ns)).1 in
    let all : length (spelled m ++ stream_of ms) ≡ length (spelled m) + length (stream_of ms) = length-append (spelled m) (stream_of ms) in
    let fewer : length (stream_of ms) < 2 ^ 64 = omega (arith, all, small) in
    ap (λ (end : ℕ). end ∷ ends_from end ms) (ap (λ (k : ℕ). start + k) size) ∙ ap (λ (ends : List ℕ). (start + length (spelled n)) ∷ ends) (one_cut ms ns (start + length (spelled n)) rest fewer)
