-- A decoder is deterministic, except when memory runs out.
use Rattle.std.proofs.Common.{◌≡◌, ◌≢◌, ℕ, Bool, true, false, List, ◌++◌, Option, Some, None, Result, Ok, Err, refl, sym, ap, ◌∙◌}
use Rattle.peers_msg.specs.declared.fault.Breach.{Breach}
use Rattle.peers_msg.specs.declared.fault.Fault.{Fault}
use Rattle.peers_msg.specs.declared.fault.Fault.TheVariants as faults
use Rattle.peers_msg.specs.declared.message.Message.{Message}
use Rattle.peers_msg.specs.Received.{received_after}
use Rattle.peers_msg.specs.Reading.{message_at}
use Rattle.peers_msg.specs.Decoding.{Decoding, DecoderFeeds, DecoderNext}

parts : {X Y : Type 0} → (p q : X × Y) → p ≡ q → (p.0 ≡ q.0) × (p.1 ≡ q.1)
parts {X} {Y} p q e = (ap (λ (r : X × Y). r.0) e, ap (λ (r : X × Y). r.1) e)

-- ---- feeding

-- the outcome of feeding, unless memory runs out
abbrev feeding : Decoding → List ℕ → Bool → Result (Unit {0}) Fault × Decoding
feeding d piece true = (Err faults.Closed, d)
feeding d piece false = (Ok tt, record { received = d.received; unread = d.unread ++ piece; closed = false })

fed_so : (d e : Decoding) (piece : List ℕ) (answer : Result (Unit {0}) Fault) → DecoderFeeds d piece answer e → answer ≢ Err faults.Memory → (answer, e) ≡ feeding d piece d.closed
fed_so d e piece (Ok _) (is_open, is) wanted = ap (λ (x : Decoding). (Ok tt, x)) is ∙ sym (ap (feeding d piece) is_open)
fed_so d e piece (Err faults.Closed) (shut, is) wanted = ap (λ (x : Decoding). (Err faults.Closed, x)) is ∙ sym (ap (feeding d piece) shut)
fed_so d e piece (Err faults.Memory) fed wanted = absurd (wanted refl)
fed_so d e piece (Err (faults.Breach breach)) fed wanted = absurd fed

pub fed_once : (d a b : Decoding) (piece : List ℕ) (one other : Result (Unit {0}) Fault) → DecoderFeeds d piece one a → DecoderFeeds d piece other b → one ≢ Err faults.Memory → other ≢ Err faults.Memory → (one ≡ other) × (a ≡ b)
fed_once d a b piece one other fed again p q = parts (one, a) (other, b) (fed_so d a piece one fed p ∙ sym (fed_so d b piece other again q))

-- ---- asking for a message

-- the outcome of asking, unless memory runs out
abbrev asking : Decoding → Bool → Result (Option (Message × List ℕ)) Breach → Result (Option Message) Fault × Decoding
asking d true read = (Err faults.Closed, d)
asking d false (Ok None) = (Ok None, d)
asking d false (Ok (Some found)) = (Ok (Some found.0), record { received = received_after d.received found.0; unread = found.1; closed = false })
asking d false (Err breach) = (Err (faults.Breach breach), record { received = d.received; unread = d.unread; closed = true })

asked_with : (d : Decoding) (shut : Bool) (read : Result (Option (Message × List ℕ)) Breach) → d.closed ≡ shut → message_at d.received d.unread ≡ read → asking d d.closed (message_at d.received d.unread) ≡ asking d shut read
asked_with d shut read is at = ap (λ (b : Bool). asking d b (message_at d.received d.unread)) is ∙ ap (asking d shut) at

asked_so : (d e : Decoding) (answer : Result (Option Message) Fault) → DecoderNext d answer e → answer ≢ Err faults.Memory → (answer, e) ≡ asking d d.closed (message_at d.received d.unread)
asked_so d e (Ok None) (is_open, at, is) wanted = ap (λ (x : Decoding). (Ok None, x)) is ∙ sym (asked_with d false (Ok None) is_open at)
asked_so d e (Ok (Some m)) (is_open, rest, at, is) wanted = ap (λ (x : Decoding). (Ok (Some m), x)) is ∙ sym (asked_with d false (Ok (Some (m, rest))) is_open at)
asked_so d e (Err faults.Closed) (shut, is) wanted = ap (λ (x : Decoding). (Err faults.Closed, x)) is ∙ sym (ap (λ (b : Bool). asking d b (message_at d.received d.unread)) shut)
asked_so d e (Err faults.Memory) next wanted = absurd (wanted refl)
asked_so d e (Err (faults.Breach breach)) (is_open, at, is) wanted = ap (λ (x : Decoding). (Err (faults.Breach breach), x)) is ∙ sym (asked_with d false (Err breach) is_open at)

pub next_once : (d a b : Decoding) (one other : Result (Option Message) Fault) → DecoderNext d one a → DecoderNext d other b → one ≢ Err faults.Memory → other ≢ Err faults.Memory → (one ≡ other) × (a ≡ b)
next_once d a b one other next again p q = parts (one, a) (other, b) (asked_so d a one next p ∙ sym (asked_so d b other again q))
