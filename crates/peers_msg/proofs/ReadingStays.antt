-- Appending bytes changes only the result that a message isn't complete.
use Rattle.std.proofs.Common.{◌≡◌, ◌≢◌, ℕ, suc, ◌≤◌, true, ltb, List, [], ◌∷◌, ◌++◌, length, drop, Option, Some, None, Result, Ok, Err, refl, sym, ap, ◌∙◌, arith, inl, inr}
use Rattle.std.proofs.lemmas.Bool.{cases_lt, cases_Bool, lt-ltb, le-ltb}
use Rattle.std.proofs.lemmas.List.{take-append-le, drop-append-le, length-append, append-nil}
use Rattle.peers_encint.specs.declared.reading.Read.{Read}
use Rattle.peers_encint.specs.declared.reading.Read.TheVariants.{Value, Short, Over}
use Rattle.peers_encint.specs.Integers.{IsBytes, read_of}
use Rattle.peers_encint.proofs.ReadAsSpelled.{takes, stays}
use Rattle.peers_msg.specs.declared.fault.Breach.{Breach}
use Rattle.peers_msg.specs.declared.message.Message.{Message}
use Rattle.peers_msg.specs.Messages.{most_data}
use Rattle.peers_msg.specs.Received.{Received}
use Rattle.peers_msg.specs.Spelling.{spelled}
use Rattle.peers_msg.specs.Fitting.{fits}
use Rattle.peers_msg.specs.Reading.{◌>>=◌, Frame, whole_data, data_from, data_at, frame_with, frame_at, body_at, message_in, message_at, with_more}
use Rattle.peers_msg.proofs.MessageRoundTrip.{message_again}

whole_stays : (n : ℕ) (bytes more : List ℕ) → whole_data n bytes ≢ Ok None → whole_data n (bytes ++ more) ≡ with_more more (whole_data n bytes)
whole_stays n bytes more some =
    elim (cases_lt most_data n) [
      | inl over ↦ rw (lt-ltb most_data n over) refl
      | inr within ↦ elim (cases_lt (length bytes) n) [
        | inl short ↦ absurd (some (rw (le-ltb most_data n within, lt-ltb (length bytes) n short) refl))
        | inr long ↦
            let longer : n ≤ length (bytes ++ more) = omega (arith, length-append bytes more) in
            rw (le-ltb most_data n within, le-ltb (length bytes) n long, le-ltb (length (bytes ++ more)) n longer, take-append-le n bytes more long, drop-append-le n bytes more long) refl
      ]
    ]

data_from_stays : (bytes more : List ℕ) (r : Read) → IsBytes bytes → read_of bytes ≡ r → data_from bytes r ≢ Ok None → data_from (bytes ++ more) r ≡ with_more more (data_from bytes r)
data_from_stays bytes more (Value n used) good read some =
    ap (whole_data n) (drop-append-le used bytes more (takes bytes n used good read).1) ∙ whole_stays n (drop used bytes) more some
data_from_stays bytes more Short good read some = absurd (some refl)
data_from_stays bytes more Over good read some = refl

no_short : (bytes : List ℕ) → data_from bytes (read_of bytes) ≢ Ok None → read_of bytes ≢ Short
no_short bytes some e = some (ap (data_from bytes) e)

data_stays : (message_type : ℕ) (bytes more : List ℕ) → IsBytes bytes → data_at message_type bytes ≢ Ok None → data_at message_type (bytes ++ more) ≡ with_more more (data_at message_type bytes)
unfolding data_at
data_stays message_type bytes more good some =
    elim (cases_Bool (ltb message_type 128)) [
      | inl low ↦ rw low refl
      | inr high ↦
          let found : data_from bytes (read_of bytes) ≢ Ok None = λ e. some (rw high e) in
          rw (high, stays bytes more (no_short bytes found)) (data_from_stays bytes more (read_of bytes) good refl found)
    ]

abbrev framed_with : ℕ → ℕ → Result (Option (List ℕ × List ℕ)) Breach → Result (Option (Frame × List ℕ)) Breach
framed_with class message_type read = read >>= λ found. Ok (frame_with class message_type found)

framed_more : (class message_type : ℕ) (more : List ℕ) (read : Result (Option (List ℕ × List ℕ)) Breach) → framed_with class message_type (with_more more read) ≡ with_more more (framed_with class message_type read)
framed_more class message_type more (Ok None) = refl
framed_more class message_type more (Ok (Some found)) = refl
framed_more class message_type more (Err breach) = refl

pub frame_stays : (bytes more : List ℕ) → IsBytes bytes → frame_at bytes ≢ Ok None → frame_at (bytes ++ more) ≡ with_more more (frame_at bytes)
unfolding frame_at
frame_stays [] more good some = absurd (some refl)
frame_stays (class ∷ []) more good some = absurd (some refl)
frame_stays (class ∷ (message_type ∷ bytes)) more good some =
    let found : data_at message_type bytes ≢ Ok None = λ e. some (ap (framed_with class message_type) e) in
    ap (framed_with class message_type) (data_stays message_type bytes more (λ i. good (suc (suc i))) found) ∙ framed_more class message_type more (data_at message_type bytes)

message_more : (h : Received) (more : List ℕ) (read : Result (Option (Frame × List ℕ)) Breach) → (with_more more read >>= message_in h) ≡ with_more more (read >>= message_in h)
message_more h more (Ok None) = refl
message_more h more (Ok (Some found)) = body_more (body_at h found.0.class found.0.message_type found.0.body)
  where
    body_more : (read : Result Message Breach) → (read >>= λ m. Ok (Some (m, found.1 ++ more))) ≡ with_more more (read >>= λ m. Ok (Some (m, found.1)))
    body_more (Ok m) = refl
    body_more (Err breach) = refl
message_more h more (Err breach) = refl

-- a message read, and a breach, stay the same with more bytes after
pub message_stays : (h : Received) (bytes more : List ℕ) → IsBytes bytes → message_at h bytes ≢ Ok None → message_at h (bytes ++ more) ≡ with_more more (message_at h bytes)
unfolding message_at
message_stays h bytes more good some =
    let found : frame_at bytes ≢ Ok None = λ e. some (ap (λ r. r >>= message_in h) e) in
    ap (λ r. r >>= message_in h) (frame_stays bytes more good found) ∙ message_more h more (frame_at bytes)

whole_or_not : (h : Received) (m : Message) (more : List ℕ) (read : Result (Option (Message × List ℕ)) Breach) → more ≢ [] → (read ≢ Ok None → Ok (Some (m, [])) ≡ with_more more read) → read ≡ Ok None
whole_or_not h m more (Ok None) some e = refl
whole_or_not h m more (Ok (Some found)) some e =
    let same : ◌≡◌ {A = Result (Option (Message × List ℕ)) Breach} (Ok (Some (m, []))) (Ok (Some (found.0, found.1 ++ more))) = e (λ none. absurd cc) in
    let both : ◌≡◌ {A = Message × List ℕ} (m, []) (found.0, found.1 ++ more) = cc in
    let nothing : [] ≡ found.1 ++ more = ap (λ (x : Message × List ℕ). x.1) both in
    absurd (some (last_nil found.1 more (sym nothing)))
  where
    last_nil : (a b : List ℕ) → a ++ b ≡ [] → b ≡ []
    last_nil [] b e = e
    last_nil (x ∷ a) b e = absurd cc
whole_or_not h m more (Err breach) some e =
    let same : ◌≡◌ {A = Result (Option (Message × List ℕ)) Breach} (Ok (Some (m, []))) (Err breach) = e (λ none. absurd cc) in
    absurd cc

-- a message with bytes missing isn't complete, and reading finds no breach
pub cut_is_not_whole : (h : Received) (m : Message) (bytes more : List ℕ) → IsBytes bytes → fits h m ≡ true → bytes ++ more ≡ spelled m → more ≢ [] → message_at h bytes ≡ Ok None
cut_is_not_whole h m bytes more good is e some =
    let all : message_at h (bytes ++ more) ≡ Ok (Some (m, [])) = ap (message_at h) (e ∙ sym (append-nil (spelled m))) ∙ message_again h m [] is in
    whole_or_not h m more (message_at h bytes) some (λ found. sym all ∙ message_stays h bytes more good found)
