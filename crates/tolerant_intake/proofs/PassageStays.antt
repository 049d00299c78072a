-- What becomes of a message stays, whatever bytes come after it.
use Rattle.std.proofs.Common.{◌≡◌, ◌≢◌, ◌⊎◌, ℕ, true, false, List, ◌++◌, Option, Some, None, Result, Ok, Err, refl, sym, ap, subst, ◌∙◌, inl, inr, cond}
use Rattle.std.proofs.lemmas.Bool.{cases_Bool}
use Rattle.peers_msg.specs.Integers.{IsBytes}
use Rattle.peers_msg.specs.declared.message.Message.{Message}
use Rattle.peers_msg.specs.Reading.{Frame, frame_at, meant, message_at, with_more}
use Rattle.peers_msg.proofs.ReadingStays.{frame_stays}
use Rattle.known_state.specs.State.{State}
use Rattle.learner.specs.declared.fault.Fault.{Fault}
use Rattle.learner.specs.declared.fault.Fault.TheVariants as faults
use Rattle.learner.specs.Intake.{Taking, Stops, fed}
use Rattle.tolerant_intake.specs.declared.loose_table.LooseTable.{LooseTable}
use Rattle.tolerant_intake.specs.Loose.{LooseUpdate}
use Rattle.peers_msg.specs.declared.fault.Breach.{Breach}
use Rattle.tolerant_intake.specs.Tolerance.{Tolerance, selected_loose}
use Rattle.tolerant_intake.specs.Policy.{Passage, Strict, Defines, Counts, StandsIn, Unnumbered, Breaks, loose_front, loose_in, passage_by, passage_of}
use Rattle.tolerant_intake.proofs.FrontRead.{FrontRead, opened, whole_front, faulty_front}

-- ---- messages that the tolerant reader decides on

-- a passage that isn't left to the strict intake
abbrev pub IsDecided : Passage → Type 0
IsDecided Strict = ⊥
IsDecided (Defines d) = ⊥
IsDecided (Counts r cause) = Unit {0}
IsDecided (StandsIn d) = Unit {0}
IsDecided Unnumbered = Unit {0}
IsDecided (Breaks breach) = Unit {0}

undecided : (s : State) (selected : Option LooseTable) (read : FrontRead) → ((front : Frame × List ℕ) → read ≡ Ok (Some front) → ⊥) → passage_by s (loose_front selected read) read ≡ Strict
undecided s None (Ok None) none = refl
undecided s (Some l) (Ok None) none = refl
undecided s selected (Ok (Some front)) none = absurd (none front refl)
undecided s None (Err breach) none = refl
undecided s (Some l) (Err breach) none = refl

-- such a message is whole
pub fronted : (l : Tolerance) (t : Taking) → IsDecided (passage_of l t) → (t.closed ≡ false) × (front : Frame × List ℕ) × (frame_at t.unread ≡ Ok (Some front))
fronted l t decided = elim (cases_Bool t.closed) [
  | inl shut ↦ (let strict : passage_of l t ≡ Strict = rw shut refl in absurd (subst IsDecided strict decided))
  | inr going ↦ (let found = at going (frame_at t.unread) refl in (going, found.0, found.1))
]
  where
    never : t.closed ≡ false → (read : FrontRead) → frame_at t.unread ≡ read → ((front : Frame × List ℕ) → read ≡ Ok (Some front) → ⊥) → ⊥
    never going read is none = subst IsDecided (opened l t read going is ∙ undecided t.state (selected_loose l t.state.received) read none) decided

    at : t.closed ≡ false → (read : FrontRead) → frame_at t.unread ≡ read → (front : Frame × List ℕ) × (frame_at t.unread ≡ Ok (Some front))
    at going (Ok None) is = absurd (never going (Ok None) is (λ front same. cc))
    at going (Ok (Some front)) is = (front, is)
    at going (Err breach) is = absurd (never going (Err breach) is (λ front same. cc))

-- ---- more bytes

abbrev pub IsWhole : Taking → Type 0
IsWhole t = (t.closed ≡ true) ⊎ (frame_at t.unread ≢ Ok None)

same_by : (s : State) (read : Option (Result LooseUpdate Breach)) (front : Frame × List ℕ) (more : List ℕ) → passage_by s read (Ok (Some (front.0, front.1 ++ more))) ≡ passage_by s read (Ok (Some front))
same_by s None front more = refl
same_by s (Some read) front more = refl

same_passage : (s : State) (selected : Option LooseTable) (more : List ℕ) (read : FrontRead) → passage_by s (loose_front selected (with_more more read)) (with_more more read) ≡ passage_by s (loose_front selected read) read
same_passage s None more (Ok None) = refl
same_passage s (Some l) more (Ok None) = refl
same_passage s None more (Ok (Some front)) = refl
same_passage s (Some l) more (Ok (Some front)) = same_by s (loose_in l (meant front.0.class front.0.message_type) front.0.body) front more
same_passage s None more (Err breach) = refl
same_passage s (Some l) more (Err breach) = refl

pub passage_stays : (l : Tolerance) (t : Taking) (more : List ℕ) → IsBytes t.unread → IsWhole t → passage_of l (fed t more) ≡ passage_of l t
passage_stays l t more good (inl shut) = rw shut refl
passage_stays l t more good (inr whole) =
    let selected : Option LooseTable = selected_loose l t.state.received in
    let later : passage_by t.state (loose_front selected (frame_at (t.unread ++ more))) (frame_at (t.unread ++ more)) ≡ passage_by t.state (loose_front selected (frame_at t.unread)) (frame_at t.unread) =
    ap (λ (read : FrontRead). passage_by t.state (loose_front selected read) read) (frame_stays t.unread more good whole) ∙ same_passage t.state selected more (frame_at t.unread) in
    ap (cond t.closed Strict) later

-- a message that is read, or can't be read, is whole
some_front : (bytes : List ℕ) (front : Frame × List ℕ) → frame_at bytes ≡ Ok (Some front) → frame_at bytes ≢ Ok None
some_front bytes front is none = let wrong : ◌≡◌ {A = FrontRead} (Ok (Some front)) (Ok None) = sym is ∙ none in absurd cc

pub read_whole : (t : Taking) (m : Message) (rest : List ℕ) → message_at t.state.received t.unread ≡ Ok (Some (m, rest)) → IsWhole t
read_whole t m rest at =
    let has = whole_front t.state.received t.unread m rest at in
    inr (some_front t.unread (has.0, rest) has.1)

pub stopped_whole : (t e : Taking) (fault : Fault) → Stops t fault e → IsWhole t
stopped_whole t e faults.Memory (is_open, (m, rest, at, unrefused), is) = read_whole t m rest at
stopped_whole t e faults.Closed (shut, is) = inl shut
stopped_whole t e (faults.Breach breach) (is_open, at, is) = elim (faulty_front t.state.received t.unread breach at) [
  | inl never ↦ inr (λ none. let wrong : ◌≡◌ {A = FrontRead} (Err breach) (Ok None) = sym never ∙ none in absurd cc)
  | inr has ↦ inr (some_front t.unread (has.1.0, has.0) has.1.1)
]
stopped_whole t e faults.NoNumber (is_open, m, rest, at, refused, is) = read_whole t m rest at
stopped_whole t e faults.EmptySlot (is_open, m, rest, at, refused, is) = read_whole t m rest at

pub decided_whole : (l : Tolerance) (t : Taking) → IsDecided (passage_of l t) → IsWhole t
decided_whole l t decided =
    let front = fronted l t decided in
    inr (some_front t.unread front.1 front.2)
