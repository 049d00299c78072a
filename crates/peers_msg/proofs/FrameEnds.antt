-- Each message is one frame, and the end of a frame.
use Rattle.std.proofs.Common.{◌≡◌, ◌∙◌, ◌+◌, ◌-◌, ◌^◌, ◌<◌, ◌≤◌, ◌⊎◌, inl, inr, ◌++◌, Bool, true, false, ℕ, List, [], ◌∷◌, ap, append_assoc, arith, drop, length, length-append, refl, subst, sym, take}
use Rattle.std.specs.Prelude.{Option, None, Some, if◌then◌else◌, nat_lt}
use Rattle.std.proofs.Math.Seq.{drop-append_seam, take-add, take-append_seam}
use Rattle.std.proofs.lemmas.List.{length-drop, length-take-le}
use Rattle.peers_encint.specs.declared.reading.Read.{Read}
use Rattle.peers_encint.specs.declared.reading.Read.TheVariants.{Value, Short, Over}
use Rattle.peers_encint.specs.Integers.{Reads, read_of, spelling}
use Rattle.peers_encint.proofs.ReadAsSpelled.{again}
use Rattle.peers_encint.proofs.OneSpelling.{one_spelling, spelled as spelled_integer}
use Rattle.peers_msg.specs.declared.control.Control.{Control}
use Rattle.peers_msg.specs.declared.control.Control.TheVariants as controls
use Rattle.peers_msg.specs.declared.control.ErrorKind.{ErrorKind}
use Rattle.peers_msg.specs.declared.control.ErrorKind.TheVariants as errors
use Rattle.peers_msg.specs.declared.message.Message.{Message}
use Rattle.peers_msg.specs.declared.message.Message.TheVariants as messages
use Rattle.peers_msg.specs.Messages.{OtherFields, UpdateFields}
use Rattle.peers_msg.specs.Spelling.{control_type, definition_text, error_type, framed, spelled, update_type, update_text, word}
use Rattle.peers_msg.specs.Framing.{IsCounted, IsFrame}

control_below : (c : Control) → control_type c < 128
control_below controls.ResyncRequest = omega arith
control_below controls.ResyncFinished = omega arith
control_below controls.ResyncPartial = omega arith
control_below controls.ResyncConfirmed = omega arith
control_below controls.Heartbeat = omega arith

error_below : (e : ErrorKind) → error_type e < 128
error_below errors.Protocol = omega arith
error_below errors.SizeLimit = omega arith

update_above : (u : UpdateFields) (number life : Option ℕ) → u.number ≡ number → u.life ≡ life → 128 ≤ update_type u
update_above u (Some n) (Some l) number life = rw (number, life) (omega arith)
update_above u (Some n) None number life = rw (number, life) (omega arith)
update_above u None (Some l) number life = rw (number, life) (omega arith)
update_above u None None number life = rw (number, life) (omega arith)

test_below : (a b : ℕ) → nat_lt a b ≡ true → a < b
test_below a b is = grind arith

test_above : (a b : ℕ) → nat_lt a b ≡ false → b ≤ a
test_above a b is = grind arith

other_frame : (o : OtherFields) (low : Bool) → nat_lt o.message_type 128 ≡ low
    → IsFrame (if low then o.class ∷ (o.message_type ∷ []) else framed o.class o.message_type o.body)
other_frame o true is = inl (test_below o.message_type 128 is, refl)
other_frame o false is = inr (test_above o.message_type 128 is, (o.body, refl))

-- a message is one frame
pub is_frame : (m : Message) → IsFrame (spelled m)
unfolding spelled
is_frame (messages.Control c) = inl (control_below c, refl)
is_frame (messages.Error e) = inl (error_below e, refl)
is_frame (messages.Define d) = inr (omega arith, (definition_text d, refl))
is_frame (messages.Switch id) = inr (omega arith, (spelling id, refl))
is_frame (messages.Ack table number) = inr (omega arith, (spelling table ++ word number, refl))
is_frame (messages.Update u) = inr (update_above u u.number u.life refl refl, (update_text u, refl))
is_frame (messages.Other o) = other_frame o (nat_lt o.message_type 128) refl

-- the result of reading an encoded length with that many bytes, whatever follows
read_counted : (front rest : List ℕ) → (is : IsCounted front) → length (front ++ rest) < 2 ^ 64
    → read_of (front ++ rest) ≡ Value (length is.0) (length (spelling (length is.0)))
read_counted front rest (body, is) small =
    let whole : length front ≡ length (spelling (length body)) + length body = ap length is ∙ length-append (spelling (length body)) body in
    let all : length (front ++ rest) ≡ length front + length rest = length-append front rest in
    let below : length body < 2 ^ 64 = omega (arith, whole, all, small) in
    ap (λ f. read_of (f ++ rest)) is ∙ ap read_of (append_assoc (spelling (length body)) body rest) ∙ again (length body) (body ++ rest) below

abbrev number_read : Read → ℕ
number_read (Value n used) = n
number_read _ = 0

abbrev bytes_read : Read → ℕ
bytes_read (Value n used) = used
bytes_read _ = 0

-- the length read is that of the body, which is complete
pub counted_size : (bytes front rest : List ℕ) (n used : ℕ) → IsCounted front → bytes ≡ front ++ rest → length bytes < 2 ^ 64 → read_of bytes ≡ Value n used
    → (used + n ≡ length front) × (n ≤ length bytes - used)
counted_size bytes front rest n used is same fits read =
    let small : length (front ++ rest) < 2 ^ 64 = subst (λ b. length b < 2 ^ 64) same fits in
    let known : Value n used ≡ Value (length is.0) (length (spelling (length is.0))) = sym read ∙ ap read_of same ∙ read_counted front rest is small in
    let number : n ≡ length is.0 = ap number_read known in
    let taken : used ≡ length (spelling (length is.0)) = ap bytes_read known in
    let whole : length front ≡ length (spelling (length is.0)) + length is.0 = ap length is.1 ∙ length-append (spelling (length is.0)) is.0 in
    let all : length bytes ≡ length front + length rest = ap length same ∙ length-append front rest in
    (omega (arith, number, taken, whole), omega (arith, number, taken, whole, all))

-- if no length can be read, there is no encoded length with its bytes
pub never_unread : (bytes front rest : List ℕ) → IsCounted front → bytes ≡ front ++ rest → length bytes < 2 ^ 64 → (r : Read) → read_of bytes ≡ r → (r ≡ Short) ⊎ (r ≡ Over) → ⊥
never_unread bytes front rest is same fits r read none =
    let small : length (front ++ rest) < 2 ^ 64 = subst (λ b. length b < 2 ^ 64) same fits in
    let found : r ≡ Value (length is.0) (length (spelling (length is.0))) = sym read ∙ ap read_of same ∙ read_counted front rest is small in
    elim none [ inl short ↦ absurd (cc) | inr over ↦ absurd (cc) ]

-- a length read, and that many bytes after it
pub counted_front : (bytes : List ℕ) (n used : ℕ) → n < 2 ^ 64 → Reads bytes (Value n used) → n ≤ length bytes - used → IsCounted (take (used + n) bytes)
counted_front bytes n used below (long, spells) within =
    let front : take used bytes ≡ spelling n = one_spelling (take used bytes) (spelling n) n spells (spelled_integer n below) in
    let rest : List ℕ = drop used bytes in
    let left : length rest ≡ length bytes - used = length-drop used bytes in
    let size : length (take n rest) ≡ n = length-take-le n rest (omega (arith, left, within)) in
    (take n rest, take-add used n bytes ∙ ap (λ t. t ++ take n rest) front ∙ ap (λ k. spelling k ++ take n rest) (sym size))

-- the two parts at the end of a frame
pub frame_parts : (frame rest : List ℕ) → (take (length frame) (frame ++ rest) ≡ frame) × (drop (length frame) (frame ++ rest) ≡ rest)
frame_parts frame rest = (take-append_seam frame rest, drop-append_seam frame rest)
