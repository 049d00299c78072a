-- How many bytes an unfinished message may have, and where one ends that more bytes complete.
use Rattle.std.proofs.Common.{◌≡◌, ℕ, zero, suc, ◌<◌, ◌≤◌, ltb, List, [], ◌∷◌, ◌++◌, length, length-append, length-drop, take, drop, Option, Some, None, Result, Ok, Err, refl, sym, ap, subst, ◌∙◌, arith, inl, inr}
use Rattle.std.proofs.lemmas.Bool.{cases_lt, cases_Bool, lt-ltb, le-ltb}
use Rattle.std.proofs.lemmas.List.{take-append-le, take-append-drop, take_at}
use Rattle.peers_encint.specs.declared.reading.Read.{Read}
use Rattle.peers_encint.specs.declared.reading.Read.TheVariants.{Value, Short, Over}
use Rattle.peers_encint.specs.Integers.{IsBytes, Reads, read_of}
use Rattle.peers_encint.proofs.OneSpelling.{table}
use Rattle.peers_encint.proofs.ReadAsSpelled.{reads, takes}
use Rattle.peers_msg.specs.declared.fault.Breach.{Breach}
use Rattle.peers_msg.specs.declared.message.Message.{Message}
use Rattle.peers_msg.specs.Received.{Received}
use Rattle.peers_msg.specs.Spelling.{spelled}
use Rattle.peers_msg.specs.Reading.{◌>>=◌, Frame, data_from, data_at, frame_with, frame_at, body_at, message_in, message_at}
use Rattle.peers_msg.proofs.MessageCanonical.{message_takes}
use Rattle.peers_msg.proofs.MessageRoundTrip.{message_again}

-- ---- bytes

pub no_bytes_good : IsBytes []
no_bytes_good i = omega arith

pub both_good : (a b : List ℕ) → IsBytes a → IsBytes b → IsBytes (a ++ b)
both_good [] b good other i = other i
both_good (x ∷ a) b good other zero = good 0
both_good (x ∷ a) b good other (suc i) = both_good a b (λ j. good (suc j)) other i

-- ---- the bytes of an unfinished message

few_short : (bytes : List ℕ) → Reads bytes Short → length bytes < 16387
few_short [] short = omega arith
few_short (f ∷ cs) (high, few, all) = omega arith

few_data : (bytes : List ℕ) (r : Read) → IsBytes bytes → read_of bytes ≡ r → data_from bytes r ≡ Ok None → length bytes < 16387
few_data bytes (Value n used) good read none = elim (cases_lt 16384 n) [
  | inl over ↦ let never = rw (lt-ltb 16384 n over) at none in absurd cc
  | inr within ↦ elim (cases_lt (length (drop used bytes)) n) [
    | inl short ↦
        let spells = takes bytes n used good read in
        let small : used ≤ 3 = rw spells.3 ((table n).2 (omega arith)) in
        let fits : used ≤ length bytes = spells.1 in
        omega (arith, length-drop used bytes)
    | inr long ↦ let never = rw (le-ltb 16384 n within, le-ltb (length (drop used bytes)) n long) at none in absurd cc
  ]
]
few_data bytes Short good read none = few_short bytes (subst (λ (r : Read). Reads bytes r) read (reads bytes good))
few_data bytes Over good read none = absurd cc

few_at : (message_type : ℕ) (bytes : List ℕ) → IsBytes bytes → data_at message_type bytes ≡ Ok None → length bytes < 16387
unfolding data_at
few_at message_type bytes good none = elim (cases_Bool (ltb message_type 128)) [
  | inl low ↦ let never = rw low at none in absurd cc
  | inr high ↦ few_data bytes (read_of bytes) good refl (rw high at none)
]

no_data : (class message_type : ℕ) (r : Result (Option (List ℕ × List ℕ)) Breach) → (r >>= λ found. Ok (frame_with class message_type found)) ≡ Ok None → r ≡ Ok None
no_data class message_type (Ok None) none = refl
no_data class message_type (Ok (Some found)) none = absurd cc
no_data class message_type (Err breach) none = absurd cc

few_framed : (bytes : List ℕ) → IsBytes bytes → frame_at bytes ≡ Ok None → length bytes < 16389
unfolding frame_at
few_framed [] good none = omega arith
few_framed (class ∷ []) good none = omega arith
few_framed (class ∷ (message_type ∷ bytes)) good none =
    let few = few_at message_type bytes (λ i. good (suc (suc i))) (no_data class message_type (data_at message_type bytes) none) in
    omega arith

no_frame : (h : Received) (r : Result (Option (Frame × List ℕ)) Breach) → (r >>= message_in h) ≡ Ok None → r ≡ Ok None
no_frame h (Ok None) none = refl
no_frame h (Ok (Some found)) none = absurd (some (body_at h found.0.class found.0.message_type found.0.body) none)
  where
    some : (r : Result Message Breach) → ◌≡◌ {A = Result (Option (Message × List ℕ)) Breach} (r >>= λ m. Ok (Some (m, found.1))) (Ok None) → ⊥
    some (Ok m) none = cc
    some (Err breach) none = cc
no_frame h (Err breach) none = absurd cc

-- an unfinished message has fewer bytes than the longest message
pub few_unfinished : (h : Received) (bytes : List ℕ) → IsBytes bytes → message_at h bytes ≡ Ok None → length bytes < 16389
unfolding message_at
few_unfinished h bytes good none = few_framed bytes good (no_frame h (frame_at bytes) none)

-- ---- the end of a message that more bytes complete

-- it is beyond the bytes that didn't hold the whole message
pub ends_beyond : (h : Received) (m : Message) (unread more : List ℕ) (used : ℕ) → IsBytes (unread ++ more) → message_at h unread ≡ Ok None → message_at h (unread ++ more) ≡ Ok (Some (m, drop used (unread ++ more))) → used ≤ length (unread ++ more) → length unread < used
ends_beyond h m unread more used good none found within = elim (cases_lt (length unread) used) [
  | inl beyond ↦ beyond
  | inr inside ↦
      let reads = message_takes h m (unread ++ more) (drop used (unread ++ more)) good found in
      let size : used ≡ length (spelled m) = omega (arith, ap length reads.0, length-append (spelled m) (drop used (unread ++ more)), length-drop used (unread ++ more)) in
      let front : spelled m ≡ take used unread = sym (take_at (spelled m) (drop used (unread ++ more)) used (sym size)) ∙ ap (take used) (sym reads.0) ∙ take-append-le used unread more inside in
      let whole : spelled m ++ drop used unread ≡ unread = ap (λ (bytes : List ℕ). bytes ++ drop used unread) front ∙ take-append-drop used unread in
      let again : message_at h unread ≡ Ok (Some (m, drop used unread)) = subst (λ (bytes : List ℕ). message_at h bytes ≡ Ok (Some (m, drop used unread))) whole (message_again h m (drop used unread) reads.1) in
      let never : ◌≡◌ {A = Result (Option (Message × List ℕ)) Breach} (Ok None) (Ok (Some (m, drop used unread))) = sym none ∙ again in
      absurd cc
]
