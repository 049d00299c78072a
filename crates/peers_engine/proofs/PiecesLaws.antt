-- A lesson that is written piece by piece.
use Rattle.std.proofs.Common.{◌≡◌, ◌+◌, ◌<◌, ◌≤◌, ℕ, List, [], ◌∷◌, ◌++◌, length, take, sym, ap, ◌∙◌, subst, arith, refl, length-append}
use Rattle.std.specs.Prelude.{Option}
use Rattle.peers_devices.specs.Writing.{AreWritten, Written}
use Rattle.peers_devices.proofs.WritingLaws.{writes_then}
use Rattle.std.proofs.lemmas.List.{append_assoc, append-nil}
use Rattle.std.proofs.lemmas.List.Concat.{flat_map-cons}
use Rattle.std.proofs.Math.Seq.{take-append-add}
use Rattle.peers_msg.specs.declared.message.Message.{Message}
use Rattle.peers_msg.specs.Spelling.{spelled, stream_of}
use Rattle.peers_msg.proofs.MessageCanonical.{spelled_frame}

-- a message that is left has bytes
pub some_left : (ms : List Message) → (ms ≡ [] → ⊥) → 0 < length (stream_of ms)
some_left [] some = absurd (some refl)
some_left (m ∷ ms) some =
    let two : 2 ≤ length (spelled m) = rw (spelled_frame m) (omega arith) in
    let all : length (stream_of (m ∷ ms)) ≡ length (spelled m) + length (stream_of ms) = ap (λ (l : List ℕ). length l) (flat_map-cons spelled m ms) ∙ length-append (spelled m) (stream_of ms) in
    omega (arith, two, all)

-- so what is left has bytes too if these are left after others
pub more_left : (bytes left all : List ℕ) → bytes ++ left ≡ all → 0 < length left → 0 < length all
more_left bytes left all is some =
    let lengths : length all ≡ length bytes + length left = ap (λ (l : List ℕ). length l) (sym is) ∙ length-append bytes left in
    omega (arith, some, lengths)

-- of all that was left at first, exactly the first `sent` bytes were written, and these are left
abbrev pub IsWritten : Written → Written → List ℕ → List ℕ → ℕ → Type 0
IsWritten a b all left sent = (done : List ℕ) × (done ++ left ≡ all) × (sent ≡ length done) × AreWritten a b done

pub next_written : (a b c : Written) (all now next bytes : List ℕ) (sent after : ℕ) → IsWritten a b all now sent → bytes ++ next ≡ now → after ≡ sent + length bytes → AreWritten b c bytes → IsWritten a c all next after
next_written a b c all now next bytes sent after (done, is, count, wrote) split more next_wrote = (
  done ++ bytes,
  append_assoc done bytes next ∙ ap (λ (l : List ℕ). done ++ l) split ∙ is,
  omega (arith, count, more, length-append done bytes),
  writes_then a b c done bytes wrote next_wrote,
)

-- nothing is left: all was written
pub all_written : (a b : Written) (all left : List ℕ) (sent : ℕ) → left ≡ [] → IsWritten a b all left sent → AreWritten a b all
all_written a b all left sent none (done, is, count, wrote) =
    let whole : done ≡ all = sym (append-nil done) ∙ ap (λ (l : List ℕ). done ++ l) (sym none) ∙ is in
    subst (λ (l : List ℕ). AreWritten a b l) whole wrote

-- a write of the next bytes failed
pub part_written : (a b c : Written) (all now : List ℕ) (sent count last : ℕ) → IsWritten a b all now sent → last ≡ sent + count → count < length now → AreWritten b c (take count now) → (last < length all) × AreWritten a c (take last all)
part_written a b c all now sent count last (done, is, so_far, wrote) is_last few next_wrote =
    let at : last ≡ length done + count = is_last ∙ ap (λ (n : ℕ). n + count) so_far in
    let same : take last all ≡ done ++ take count now = ap (λ (n : ℕ). take n all) at ∙ ap (λ (l : List ℕ). take (length done + count) l) (sym is) ∙ take-append-add done now count in
    let lengths : length all ≡ length done + length now = ap (λ (l : List ℕ). length l) (sym is) ∙ length-append done now in
    (omega (arith, at, few, lengths), subst (λ (l : List ℕ). AreWritten a c l) (sym same) (writes_then a b c done (take count now) wrote next_wrote))
