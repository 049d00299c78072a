-- What becomes of the message at the front, by what the strict intake does with it.
use Rattle.std.proofs.Common.{◌≡◌, ◌⊎◌, ℕ, ◌-◌, false, List, [], ◌++◌, length, length-append, drop, arith, Option, Some, None, Result, Ok, Err, refl, sym, ap, subst, ◌∙◌, inl, inr}
use Rattle.std.specs.Prelude.{option_and_then}
use Rattle.std.proofs.Math.Seq.{drop-append_seam}
use Rattle.peers_msg.specs.Integers.{IsBytes}
use Rattle.peers_msg.specs.declared.message.Message.{Message}
use Rattle.peers_msg.specs.declared.message.Message.TheVariants as messages
use Rattle.peers_msg.specs.declared.fault.Breach.{Breach}
use Rattle.peers_msg.specs.Received.{Received}
use Rattle.peers_msg.specs.Reading.{◌>>=◌, Frame, frame_at, meant, body_at, message_in, message_at}
use Rattle.peers_msg.proofs.MessageCanonical.{frame_takes, frame_text}
use Rattle.known_state.specs.State.{State}
use Rattle.known_state.specs.Effects.{IsEffect}
use Rattle.known_state.specs.declared.effect.Effect.{Effect}
use Rattle.learner.specs.Intake.{Taking}
use Rattle.tolerant_intake.proofs.StrictReading.{followed}
use Rattle.tolerant_intake.specs.declared.loose_table.LooseTable.{LooseTable}
use Rattle.tolerant_intake.specs.Loose.{LooseUpdate}
use Rattle.tolerant_intake.specs.Tolerance.{Tolerance, selected_loose}
use Rattle.tolerant_intake.specs.Policy.{of_front, of_message, of_read, loose_front, passage_by, passage_of}
use Rattle.tolerant_intake.specs.Planning.{passage_for}

abbrev pub FrontRead : Type 0
FrontRead = Result (Option (Frame × List ℕ)) Breach

-- ---- the frame of a message

-- the bytes after a frame are the end of the bytes
pub rest_is_end : (bytes : List ℕ) (front : Frame × List ℕ) → IsBytes bytes → frame_at bytes ≡ Ok (Some front) → front.1 ≡ drop (length bytes - length front.1) bytes
rest_is_end bytes front good e =
    let whole : bytes ≡ frame_text front.0 ++ front.1 = (frame_takes bytes front good e).0 in
    let used : length bytes - length front.1 ≡ length (frame_text front.0) = omega (arith, ap length whole, length-append (frame_text front.0) front.1) in
    sym (ap (λ (n : ℕ). drop n bytes) used ∙ ap (drop (length (frame_text front.0))) whole ∙ drop-append_seam (frame_text front.0) front.1)

-- a frame whose data are read so
abbrev pub HasBody : Received → List ℕ → Result Message Breach → List ℕ → Type 0
HasBody h bytes read rest = (f : Frame) × (frame_at bytes ≡ Ok (Some (f, rest))) × (body_at h f.class f.message_type f.body ≡ read)

pub whole_front : (h : Received) (bytes : List ℕ) (m : Message) (x : List ℕ) → message_at h bytes ≡ Ok (Some (m, x)) → HasBody h bytes (Ok m) x
unfolding message_at
whole_front h bytes m x e = at (frame_at bytes) refl e
  where
    parts : (m n : Message) (x y : List ℕ) → ◌≡◌ {A = Result (Option (Message × List ℕ)) Breach} (Ok (Some (n, y))) (Ok (Some (m, x))) → (n ≡ m) × (y ≡ x)
    parts m n x y same =
        let both : ◌≡◌ {A = Message × List ℕ} (n, y) (m, x) = cc in
        (ap (λ (z : Message × List ℕ). z.0) both, ap (λ (z : Message × List ℕ). z.1) both)

    body : (f : Frame) (rest : List ℕ) (read : Result Message Breach) → body_at h f.class f.message_type f.body ≡ read → frame_at bytes ≡ Ok (Some (f, rest)) → followed rest read ≡ Ok (Some (m, x)) → HasBody h bytes (Ok m) x
    body f rest (Ok n) is front same =
        let both = parts m n x rest same in
        (f, subst (λ (y : List ℕ). frame_at bytes ≡ Ok (Some (f, y))) both.1 front, is ∙ ap (λ (k : Message). Ok k) both.0)
    body f rest (Err breach) is front same = absurd cc

    at : (r : FrontRead) → frame_at bytes ≡ r → (r >>= message_in h) ≡ Ok (Some (m, x)) → HasBody h bytes (Ok m) x
    at (Ok None) front same = absurd cc
    at (Ok (Some found)) front same = body found.0 found.1 _ refl front same
    at (Err breach) front same = absurd cc

pub none_front : (h : Received) (bytes : List ℕ) → message_at h bytes ≡ Ok None → frame_at bytes ≡ Ok None
unfolding message_at
none_front h bytes e = at (frame_at bytes) refl e
  where
    body : (rest : List ℕ) (read : Result Message Breach) → followed rest read ≡ Ok None → ⊥
    body rest (Ok n) same = absurd cc
    body rest (Err breach) same = absurd cc

    at : (r : FrontRead) → frame_at bytes ≡ r → (r >>= message_in h) ≡ Ok None → frame_at bytes ≡ Ok None
    at (Ok None) front same = front
    at (Ok (Some found)) front same = absurd (body found.1 _ same)
    at (Err breach) front same = absurd cc

-- bytes that can't be read can't begin a message, or are a frame whose data can't be read
pub faulty_front : (h : Received) (bytes : List ℕ) (b : Breach) → message_at h bytes ≡ Err b → (frame_at bytes ≡ Err b) ⊎ ((rest : List ℕ) × HasBody h bytes (Err b) rest)
unfolding message_at
faulty_front h bytes b e = at (frame_at bytes) refl e
  where
    body : (rest : List ℕ) (read : Result Message Breach) → followed rest read ≡ Err b → read ≡ Err b
    body rest (Ok n) same = absurd cc
    body rest (Err breach) same = cc

    at : (r : FrontRead) → frame_at bytes ≡ r → (r >>= message_in h) ≡ Err b → (frame_at bytes ≡ Err b) ⊎ ((rest : List ℕ) × HasBody h bytes (Err b) rest)
    at (Ok None) front same = absurd cc
    at (Ok (Some found)) front same = inr (found.1, (found.0, front, body found.1 _ same))
    at (Err breach) front same = inl (front ∙ cc)

-- ---- the passage

-- what becomes of the message at the front of an open intake
pub opened : (l : Tolerance) (t : Taking) (read : FrontRead) → t.closed ≡ false → frame_at t.unread ≡ read → passage_of l t ≡ passage_by t.state (loose_front (selected_loose l t.state.received) read) read
opened l t read is_open front = rw (is_open, front) refl

-- of one that isn't read loosely
pub unloosed : (l : Tolerance) (t : Taking) (read : FrontRead) → t.closed ≡ false → frame_at t.unread ≡ read → loose_front (selected_loose l t.state.received) (frame_at t.unread) ≡ None → passage_of l t ≡ of_front t.state read
unloosed l t read is_open front none =
    let nowhere : loose_front (selected_loose l t.state.received) read ≡ None = ap (loose_front (selected_loose l t.state.received)) (sym front) ∙ none in
    opened l t read is_open front ∙ ap (λ (o : Option (Result LooseUpdate Breach)). passage_by t.state o read) nowhere

-- of one that the strict intake can read, or can't read for a breach
pub bodied : (l : Tolerance) (t : Taking) (read : Result Message Breach) (rest : List ℕ) → t.closed ≡ false → loose_front (selected_loose l t.state.received) (frame_at t.unread) ≡ None
    → (has : HasBody t.state.received t.unread read rest) → passage_of l t ≡ of_message t.state (meant has.0.class has.0.message_type) has.0.body read
bodied l t read rest is_open none (f, front, body) =
    unloosed l t (Ok (Some (f, rest))) is_open front none ∙ ap (of_message t.state (meant f.class f.message_type) f.body) body

-- of one that the strict intake takes
taken_by : (s : State) (m : Message) (effect : Effect) → IsEffect s m effect → of_read s m ≡ passage_for s effect
taken_by s (messages.Update u) effect (r, is, resolves) = rw (is, resolves.2) refl
taken_by s (messages.Define d) effect is = rw is refl
taken_by s (messages.Switch id) effect is = rw is refl
taken_by s (messages.Control c) effect is = rw is refl
taken_by s (messages.Error e) effect is = rw is refl
taken_by s (messages.Ack table number) effect is = rw is refl
taken_by s (messages.Other o) effect is = rw is refl

pub takes_so : (l : Tolerance) (t : Taking) (m : Message) (rest : List ℕ) (effect : Effect) → t.closed ≡ false → message_at t.state.received t.unread ≡ Ok (Some (m, rest)) → IsEffect t.state m effect
    → loose_front (selected_loose l t.state.received) (frame_at t.unread) ≡ None → passage_of l t ≡ passage_for t.state effect
takes_so l t m rest effect is_open at is none =
    bodied l t (Ok m) rest is_open none (whole_front t.state.received t.unread m rest at) ∙ taken_by t.state m effect is

-- with no table outside the profile nothing is read loosely
pub none_loose : (l : Tolerance) (h : Received) (read : FrontRead) → l.loose ≡ [] → loose_front (selected_loose l h) read ≡ None
none_loose l h read none = rw none (at h.selected)
  where
    at : (selected : Option ℕ) → loose_front (option_and_then {T = ℕ} {U = LooseTable} (λ _. None) selected) read ≡ None
    at None = refl
    at (Some id) = refl
