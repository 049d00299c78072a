-- A spelling belongs to one message, no spelling is a prefix of another, and a stream is one list of messages.
use Rattle.std.proofs.Common.{◌≡◌, ℕ, true, List, [], ◌∷◌, ◌++◌, Option, Some, None, Result, Ok, refl, sym, ap, subst, ◌∙◌}
use Rattle.std.proofs.lemmas.List.{append-nil}
use Rattle.std.proofs.lemmas.List.Concat.{flat_map-cons}
use Rattle.peers_msg.specs.declared.fault.Breach.{Breach}
use Rattle.peers_msg.specs.declared.message.Message.{Message}
use Rattle.peers_msg.specs.Received.{Received, received_after}
use Rattle.peers_msg.specs.Spelling.{spelled, stream_of}
use Rattle.peers_msg.specs.Fitting.{fits}
use Rattle.peers_msg.specs.Stream.{AllFit}
use Rattle.peers_msg.specs.Reading.{Frame, body_at, frame_at}
use Rattle.peers_msg.proofs.MessageRoundTrip.{frame_of, frame_again, body_again}

-- ---- one message

-- no two messages have the same class, type and data
one_frame : (h : Received) (m n : Message) → fits h m ≡ true → fits h n ≡ true → frame_of m ≡ frame_of n → m ≡ n
one_frame h m n p q e =
    let read : ◌≡◌ {A = Result Message Breach} (Ok m) (Ok n) = sym (body_again h m p) ∙ ap (λ (f : Frame). body_at h f.class f.message_type f.body) e ∙ body_again h n q in
    cc

-- messages at the front of the same bytes are the same
same_front : (g h : Received) (m n : Message) (x y : List ℕ) → fits g m ≡ true → fits h n ≡ true → spelled m ++ x ≡ spelled n ++ y → (frame_of m ≡ frame_of n) × (x ≡ y)
same_front g h m n x y p q e =
    let found : ◌≡◌ {A = Result (Option (Frame × List ℕ)) Breach} (Ok (Some (frame_of m, x))) (Ok (Some (frame_of n, y))) = sym (frame_again g m x p) ∙ ap frame_at e ∙ frame_again h n y q in
    let both : ◌≡◌ {A = Frame × List ℕ} (frame_of m, x) (frame_of n, y) = cc in
    (ap (λ (f : Frame × List ℕ). f.0) both, ap (λ (f : Frame × List ℕ). f.1) both)

pub apart : (h : Received) (m n : Message) (x y : List ℕ) → fits h m ≡ true → fits h n ≡ true → spelled m ++ x ≡ spelled n ++ y → (m ≡ n) × (x ≡ y)
apart h m n x y p q e =
    let same = same_front h h m n x y p q e in
    (one_frame h m n p q same.0, same.1)

pub one_message : (h : Received) (m n : Message) → fits h m ≡ true → fits h n ≡ true → spelled m ≡ spelled n → m ≡ n
one_message h m n p q e = (apart h m n [] [] p q (ap (λ (x : List ℕ). x ++ []) e)).0

pub no_prefix : (g h : Received) (m n : Message) (rest : List ℕ) → fits g m ≡ true → fits h n ≡ true → spelled m ++ rest ≡ spelled n → rest ≡ []
no_prefix g h m n rest p q e = (same_front g h m n rest [] p q (e ∙ sym (append-nil (spelled n)))).1

-- ---- one list

never_empty : (h : Received) (m : Message) (rest : List ℕ) → fits h m ≡ true → [] ≡ spelled m ++ rest → ⊥
unfolding frame_at
never_empty h m rest p e =
    let found : ◌≡◌ {A = Result (Option (Frame × List ℕ)) Breach} (Ok None) (Ok (Some (frame_of m, rest))) = ap frame_at e ∙ frame_again h m rest p in
    cc

pub one_list : (h : Received) (ms ns : List Message) → AllFit h ms → AllFit h ns → stream_of ms ≡ stream_of ns → ms ≡ ns
one_list h [] [] p q e = refl
one_list h [] (n ∷ ns) p q e = absurd (never_empty h n (stream_of ns) q.0 (e ∙ flat_map-cons spelled n ns))
one_list h (m ∷ ms) [] p q e = absurd (never_empty h m (stream_of ms) p.0 (sym e ∙ flat_map-cons spelled m ms))
one_list h (m ∷ ms) (n ∷ ns) p q e =
    let same = apart h m n (stream_of ms) (stream_of ns) p.0 q.0 (sym (flat_map-cons spelled m ms) ∙ e ∙ flat_map-cons spelled n ns) in
    let others_fit : AllFit (received_after h m) ns = subst (λ (one : Message). AllFit (received_after h one) ns) (sym same.0) q.1 in
    let here : m ≡ n = same.0 in
    let others : ms ≡ ns = one_list (received_after h m) ms ns p.1 others_fit same.1 in
    cc
