-- What asking a reader for a message does: with more bytes, with other ids due, only in one way, and always.
use Rattle.std.proofs.Common.{◌≡◌, ◌≢◌, ◌⊎◌, ℕ, ◌-◌, ◌<◌, List, ◌++◌, length, length-append, arith, Option, Some, None, Result, Ok, Err, refl, sym, ap, subst, ◌∙◌, inl, inr}
use Rattle.peers_msg.specs.Integers.{IsBytes}
use Rattle.peers_msg.specs.declared.fault.Breach.{Breach}
use Rattle.peers_msg.specs.Reading.{Frame, frame_at, with_more}
use Rattle.peers_msg.proofs.FieldCanonical.{IsBytes-drop}
use Rattle.peers_msg.proofs.MessageCanonical.{frame_takes, frame_text}
use Rattle.peers_msg.proofs.ReadingStays.{frame_stays}
use Rattle.known_state.specs.declared.effect.Effect.{Effect}
use Rattle.known_state.specs.declared.effect.Effect.TheVariants as effects
use Rattle.learner.specs.declared.fault.Fault.{Fault}
use Rattle.learner.specs.declared.fault.Fault.TheVariants as faults
use Rattle.learner.specs.declared.taken.Taken.{Taken}
use Rattle.learner.specs.declared.taken.Taken.TheVariants as taken
use Rattle.learner.specs.Front.{due_made, with_effect}
use Rattle.learner.specs.Intake.{Taking, Gives, IntakeNext, due_after, fed, rows_of, shut, with_unread}
use Rattle.learner.proofs.OneOutcome.{intake_next_once}
use Rattle.learner.proofs.SameHoweverCut.{takes_on}
use Rattle.tolerant_intake.specs.StandIns.{stand_in}
use Rattle.tolerant_intake.specs.Tolerance.{Tolerance, counted_for, replaced}
use Rattle.tolerant_intake.specs.Policy.{Passage, Strict, Defines, Counts, StandsIn, Unnumbered, Breaks, passage_of}
use Rattle.tolerant_intake.specs.Reading.{BreaksAt, Passes, Reads, ReadsAs, after_front, left_by, passing}
use Rattle.tolerant_intake.proofs.FrontRead.{FrontRead, rest_is_end}
use Rattle.tolerant_intake.proofs.IntakeGoesOn.{Does, does, redue, stops_more, stops_redue, takes_redue}
use Rattle.tolerant_intake.proofs.PassageStays.{IsDecided, IsWhole, decided_whole, fronted, passage_stays, read_whole, stopped_whole}

-- ---- messages that are passed over, and faults

pub passes_so : (effect : Effect) (left l : Tolerance) (t e : Taking) (answer : Result (Option Taken) Fault) (after : Option Tolerance) → Passes effect left l t answer e after → answer ≢ Err faults.Memory
    → (answer ≡ Ok (Some taken.Passed)) × (e ≡ passing t effect) × (after ≡ Some left)
passes_so effect left l t e (Ok None) after passes wanted = absurd passes
passes_so effect left l t e (Ok (Some (taken.Row u))) after passes wanted = absurd passes
passes_so effect left l t e (Ok (Some taken.Passed)) after (is, then) wanted = (refl, is, then)
passes_so effect left l t e (Ok (Some (taken.Said c))) after passes wanted = absurd passes
passes_so effect left l t e (Ok (Some (taken.Failed k))) after passes wanted = absurd passes
passes_so effect left l t e (Ok (Some (taken.Acked table number))) after passes wanted = absurd passes
passes_so effect left l t e (Err faults.Memory) after passes wanted = absurd (wanted refl)
passes_so effect left l t e (Err faults.Closed) after passes wanted = absurd passes
passes_so effect left l t e (Err faults.NoNumber) after passes wanted = absurd passes
passes_so effect left l t e (Err faults.EmptySlot) after passes wanted = absurd passes
passes_so effect left l t e (Err (faults.Breach b)) after passes wanted = absurd passes

pub breaks_so : (breach : Breach) (l : Tolerance) (t e : Taking) (answer : Result (Option Taken) Fault) (after : Option Tolerance) → BreaksAt breach l t answer e after → answer ≢ Err faults.Memory
    → (answer ≡ Err (faults.Breach breach)) × (e ≡ shut t) × (after ≡ Some l)
breaks_so breach l t e (Ok found) after stops wanted = stops
breaks_so breach l t e (Err faults.Memory) after stops wanted = absurd (wanted refl)
breaks_so breach l t e (Err faults.Closed) after stops wanted = stops
breaks_so breach l t e (Err faults.NoNumber) after stops wanted = stops
breaks_so breach l t e (Err faults.EmptySlot) after stops wanted = stops
breaks_so breach l t e (Err (faults.Breach b)) after stops wanted = stops

pub given_no_memory : (answer : Option Taken) → ◌≢◌ {A = Result (Option Taken) Fault} (Ok answer) (Err faults.Memory)
given_no_memory answer same = cc

no_memory : (fault : Fault) → fault ≢ faults.Memory → ◌≢◌ {A = Result (Option Taken) Fault} (Err fault) (Err faults.Memory)
no_memory fault wanted same = wanted (fault_of fault faults.Memory same)
  where
    fault_of : (a b : Fault) → ◌≡◌ {A = Result (Option Taken) Fault} (Err a) (Err b) → a ≡ b
    fault_of a b same = cc

-- ---- only one outcome

passes_once : (effect : Effect) (left l : Tolerance) (t a b : Taking) (one other : Result (Option Taken) Fault) (x y : Option Tolerance) → Passes effect left l t one a x → Passes effect left l t other b y
    → one ≢ Err faults.Memory → other ≢ Err faults.Memory → (one ≡ other) × (a ≡ b) × (x ≡ y)
passes_once effect left l t a b one other x y passes again p q =
    let first = passes_so effect left l t a one x passes p in
    let second = passes_so effect left l t b other y again q in
    (first.0 ∙ sym second.0, first.1 ∙ sym second.1, first.2 ∙ sym second.2)

breaks_once : (breach : Breach) (l : Tolerance) (t a b : Taking) (one other : Result (Option Taken) Fault) (x y : Option Tolerance) → BreaksAt breach l t one a x → BreaksAt breach l t other b y
    → one ≢ Err faults.Memory → other ≢ Err faults.Memory → (one ≡ other) × (a ≡ b) × (x ≡ y)
breaks_once breach l t a b one other x y stops again p q =
    let first = breaks_so breach l t a one x stops p in
    let second = breaks_so breach l t b other y again q in
    (first.0 ∙ sym second.0, first.1 ∙ sym second.1, first.2 ∙ sym second.2)

as_once : (p : Passage) (l : Tolerance) (t a b : Taking) (one other : Result (Option Taken) Fault) (x y : Option Tolerance) → ReadsAs p l t one a x → ReadsAs p l t other b y
    → one ≢ Err faults.Memory → other ≢ Err faults.Memory → (one ≡ other) × (a ≡ b) × (x ≡ y)
as_once Strict l t a b one other x y (next, then) (again, then') p q =
    let same = intake_next_once t a b one other next again p q in
    (same.0, same.1, then ∙ sym then')
as_once (Defines d) l t a b one other x y (next, then) (again, then') p q =
    let same = intake_next_once t a b one other next again p q in
    (same.0, same.1, then ∙ ap (λ (answer : Result (Option Taken) Fault). Some (left_by d l t answer)) same.0 ∙ sym then')
as_once (Counts r cause) l t a b one other x y passes again p q = passes_once (effects.Update r) (counted_for cause l) l t a b one other x y passes again p q
as_once (StandsIn d) l t a b one other x y passes again p q =
    passes_once (effects.Define (stand_in t.roster d)) (replaced d (stand_in t.roster d) t.state.received l) l t a b one other x y passes again p q
as_once Unnumbered l t a b one other x y (is, then, left) (again, then', left') p q = (is ∙ sym again, then ∙ sym then', left ∙ sym left')
as_once (Breaks breach) l t a b one other x y stops again p q = breaks_once breach l t a b one other x y stops again p q

pub reads_once : (l : Option Tolerance) (t a b : Taking) (one other : Result (Option Taken) Fault) (x y : Option Tolerance) → Reads l t one a x → Reads l t other b y
    → one ≢ Err faults.Memory → other ≢ Err faults.Memory → (one ≡ other) × (a ≡ b) × (x ≡ y)
reads_once None t a b one other x y (next, then) (again, then') p q =
    let same = intake_next_once t a b one other next again p q in
    (same.0, same.1, then ∙ sym then')
reads_once (Some l) t a b one other x y reads again p q = as_once (passage_of l t) l t a b one other x y reads again p q

-- ---- more bytes

-- the bytes after the message at the front, with more after them
after_more : (t : Taking) (more : List ℕ) (front : Frame × List ℕ) → IsBytes t.unread → frame_at t.unread ≡ Ok (Some front) → after_front (frame_at (t.unread ++ more)) ≡ after_front (frame_at t.unread) ++ more
after_more t more front good is =
    let whole : frame_at t.unread ≢ Ok None = λ none. (let wrong : ◌≡◌ {A = FrontRead} (Ok (Some front)) (Ok None) = sym is ∙ none in absurd cc) in
    ap after_front (frame_stays t.unread more good whole ∙ ap (with_more more) is) ∙ ap (λ (read : FrontRead). after_front read ++ more) (sym is)

passing_more : (t : Taking) (more : List ℕ) (effect : Effect) (front : Frame × List ℕ) → IsBytes t.unread → frame_at t.unread ≡ Ok (Some front) → fed (passing t effect) more ≡ passing (fed t more) effect
passing_more t more effect front good is = ap (λ (bytes : List ℕ). with_unread (with_effect t effect) bytes) (sym (after_more t more front good is))

takes_more : (t e : Taking) (answer : Taken) (more : List ℕ) → IsBytes t.unread → Gives t (Ok answer) e → Gives (fed t more) (Ok answer) (fed e more)
takes_more t e answer more good (m, takes, says) = (m, takes_on t e m (rows_of answer) more good takes, says)

passes_more : (effect : Effect) (left l : Tolerance) (t e : Taking) (answer : Taken) (more : List ℕ) (after : Option Tolerance) (front : Frame × List ℕ) → IsBytes t.unread → frame_at t.unread ≡ Ok (Some front)
    → Passes effect left l t (Ok (Some answer)) e after → Passes effect left l (fed t more) (Ok (Some answer)) (fed e more) after
passes_more effect left l t e (taken.Row u) more after front good is passes = absurd passes
passes_more effect left l t e taken.Passed more after front good is (then, after_is) = (ap (λ (x : Taking). fed x more) then ∙ passing_more t more effect front good is, after_is)
passes_more effect left l t e (taken.Said c) more after front good is passes = absurd passes
passes_more effect left l t e (taken.Failed k) more after front good is passes = absurd passes
passes_more effect left l t e (taken.Acked table number) more after front good is passes = absurd passes

as_more : (p : Passage) (l : Tolerance) (t e : Taking) (answer : Taken) (more : List ℕ) (after : Option Tolerance) → IsBytes t.unread → passage_of l t ≡ p → ReadsAs p l t (Ok (Some answer)) e after
    → IsWhole t × ReadsAs p l (fed t more) (Ok (Some answer)) (fed e more) after
as_more Strict l t e answer more after good is (gives, then) = (read_whole t gives.0 gives.1.1 gives.1.2, (takes_more t e answer more good gives, then))
as_more (Defines d) l t e answer more after good is (gives, then) = (read_whole t gives.0 gives.1.1 gives.1.2, (takes_more t e answer more good gives, then))
as_more (Counts r cause) l t e answer more after good is passes =
    let decided : IsDecided (passage_of l t) = subst IsDecided (sym is) tt in
    let front = fronted l t decided in
    (decided_whole l t decided, passes_more (effects.Update r) (counted_for cause l) l t e answer more after front.1 good front.2 passes)
as_more (StandsIn d) l t e answer more after good is passes =
    let decided : IsDecided (passage_of l t) = subst IsDecided (sym is) tt in
    let front = fronted l t decided in
    (decided_whole l t decided, passes_more (effects.Define (stand_in t.roster d)) (replaced d (stand_in t.roster d) t.state.received l) l t e answer more after front.1 good front.2 passes)
as_more Unnumbered l t e answer more after good is stops =
    let wrong = stops.0 in
    absurd cc
as_more (Breaks breach) l t e answer more after good is stops =
    let wrong = stops.0 in
    absurd cc

-- a message that is read is read with more bytes after it
pub reads_more : (l : Option Tolerance) (t e : Taking) (answer : Taken) (more : List ℕ) (after : Option Tolerance) → IsBytes t.unread → Reads l t (Ok (Some answer)) e after → Reads l (fed t more) (Ok (Some answer)) (fed e more) after
reads_more None t e answer more after good (gives, then) = (takes_more t e answer more good gives, then)
reads_more (Some l) t e answer more after good reads =
    let both = as_more (passage_of l t) l t e answer more after good refl reads in
    subst (λ (p : Passage). ReadsAs p l (fed t more) (Ok (Some answer)) (fed e more) after) (sym (passage_stays l t more good both.0)) both.1

-- ---- more bytes after a fault

breaks_more : (breach : Breach) (other : Fault) (l : Tolerance) (t e : Taking) (more : List ℕ) (after : Option Tolerance) → other ≢ faults.Memory → BreaksAt breach l t (Err other) e after → BreaksAt breach l (fed t more) (Err other) e after
breaks_more breach faults.Memory l t e more after wanted stops = absurd (wanted refl)
breaks_more breach faults.Closed l t e more after wanted stops = stops
breaks_more breach faults.NoNumber l t e more after wanted stops = stops
breaks_more breach faults.EmptySlot l t e more after wanted stops = stops
breaks_more breach (faults.Breach b) l t e more after wanted stops = stops

as_faulty : (p : Passage) (l : Tolerance) (t e : Taking) (fault : Fault) (more : List ℕ) (after : Option Tolerance) → IsBytes t.unread → fault ≢ faults.Memory → passage_of l t ≡ p → ReadsAs p l t (Err fault) e after
    → IsWhole t × ((x : Taking) × ReadsAs p l (fed t more) (Err fault) x after)
as_faulty Strict l t e fault more after good wanted is (stops, then) =
    let later = stops_more t e more fault good stops wanted in
    (stopped_whole t e fault stops, (later.0, (later.1, then)))
as_faulty (Defines d) l t e fault more after good wanted is (stops, then) =
    let later = stops_more t e more fault good stops wanted in
    (stopped_whole t e fault stops, (later.0, (later.1, then)))
as_faulty (Counts r cause) l t e fault more after good wanted is passes =
    let wrong = (passes_so (effects.Update r) (counted_for cause l) l t e (Err fault) after passes (no_memory fault wanted)).0 in
    absurd cc
as_faulty (StandsIn d) l t e fault more after good wanted is passes =
    let wrong = (passes_so (effects.Define (stand_in t.roster d)) (replaced d (stand_in t.roster d) t.state.received l) l t e (Err fault) after passes (no_memory fault wanted)).0 in
    absurd cc
as_faulty Unnumbered l t e fault more after good wanted is stops =
    (decided_whole l t (subst IsDecided (sym is) tt), (e, stops))
as_faulty (Breaks breach) l t e fault more after good wanted is stops =
    (decided_whole l t (subst IsDecided (sym is) tt), (e, breaks_more breach fault l t e more after wanted stops))

-- a fault stops the reader with more bytes after it too
pub faulty_more : (l : Option Tolerance) (t e : Taking) (fault : Fault) (more : List ℕ) (after : Option Tolerance) → IsBytes t.unread → fault ≢ faults.Memory → Reads l t (Err fault) e after
    → (x : Taking) × Reads l (fed t more) (Err fault) x after
faulty_more None t e fault more after good wanted (stops, then) =
    let later = stops_more t e more fault good stops wanted in
    (later.0, (later.1, then))
faulty_more (Some l) t e fault more after good wanted reads =
    let both = as_faulty (passage_of l t) l t e fault more after good wanted refl reads in
    (both.1.0, subst (λ (p : Passage). ReadsAs p l (fed t more) (Err fault) both.1.0 after) (sym (passage_stays l t more good both.0)) both.1.1)

-- ---- other ids due

next_redue : (t e : Taking) (due : List ℕ) (answer : Result (Option Taken) Fault) → IntakeNext t answer e → (x : List ℕ) × IntakeNext (redue t due) answer (redue e x)
next_redue t e due (Ok None) (is_open, none, is) = (due, (is_open, none, ap (λ (x : Taking). redue x due) is))
next_redue t e due (Ok (Some answer)) (m, takes, says) = (due_after t.state m due, (m, takes_redue t e m (rows_of answer) due takes, says))
next_redue t e due (Err fault) stops = (due, stops_redue t e due fault stops)

passes_redue : (effect : Effect) (left l : Tolerance) (t e : Taking) (due : List ℕ) (answer : Result (Option Taken) Fault) (after : Option Tolerance) → Passes effect left l t answer e after → (x : List ℕ) × Passes effect left l (redue t due) answer (redue e x) after
passes_redue effect left l t e due (Ok None) after passes = absurd passes
passes_redue effect left l t e due (Ok (Some (taken.Row u))) after passes = absurd passes
passes_redue effect left l t e due (Ok (Some taken.Passed)) after (is, then) =
    let x : List ℕ = due_made t.state effect due in
    (x, (ap (λ (y : Taking). redue y x) is, then))
passes_redue effect left l t e due (Ok (Some (taken.Said c))) after passes = absurd passes
passes_redue effect left l t e due (Ok (Some (taken.Failed k))) after passes = absurd passes
passes_redue effect left l t e due (Ok (Some (taken.Acked table number))) after passes = absurd passes
passes_redue effect left l t e due (Err faults.Memory) after (is, then) = (due, (ap (λ (y : Taking). redue y due) is, then))
passes_redue effect left l t e due (Err faults.Closed) after passes = absurd passes
passes_redue effect left l t e due (Err faults.NoNumber) after passes = absurd passes
passes_redue effect left l t e due (Err faults.EmptySlot) after passes = absurd passes
passes_redue effect left l t e due (Err (faults.Breach b)) after passes = absurd passes

breaks_redue : (breach : Breach) (l : Tolerance) (t e : Taking) (due : List ℕ) (answer : Result (Option Taken) Fault) (after : Option Tolerance) → BreaksAt breach l t answer e after → (x : List ℕ) × BreaksAt breach l (redue t due) answer (redue e x) after
breaks_redue breach l t e due (Ok found) after (is, then, left) = (due, (is, ap (λ (y : Taking). redue y due) then, left))
breaks_redue breach l t e due (Err faults.Memory) after (further, then, left) = (due, (further, ap (λ (y : Taking). redue y due) then, left))
breaks_redue breach l t e due (Err faults.Closed) after (is, then, left) = (due, (is, ap (λ (y : Taking). redue y due) then, left))
breaks_redue breach l t e due (Err faults.NoNumber) after (is, then, left) = (due, (is, ap (λ (y : Taking). redue y due) then, left))
breaks_redue breach l t e due (Err faults.EmptySlot) after (is, then, left) = (due, (is, ap (λ (y : Taking). redue y due) then, left))
breaks_redue breach l t e due (Err (faults.Breach b)) after (is, then, left) = (due, (is, ap (λ (y : Taking). redue y due) then, left))

as_redue : (p : Passage) (l : Tolerance) (t e : Taking) (due : List ℕ) (answer : Result (Option Taken) Fault) (after : Option Tolerance) → ReadsAs p l t answer e after → (x : List ℕ) × ReadsAs p l (redue t due) answer (redue e x) after
as_redue Strict l t e due answer after (next, then) =
    let other = next_redue t e due answer next in
    (other.0, (other.1, then))
as_redue (Defines d) l t e due answer after (next, then) =
    let other = next_redue t e due answer next in
    (other.0, (other.1, then ∙ ap (λ (y : Tolerance). Some y) (same_left answer)))
  where
    same_left : (answer : Result (Option Taken) Fault) → left_by d l t answer ≡ left_by d l (redue t due) answer
    same_left (Ok None) = refl
    same_left (Ok (Some found)) = refl
    same_left (Err fault) = refl
as_redue (Counts r cause) l t e due answer after passes = passes_redue (effects.Update r) (counted_for cause l) l t e due answer after passes
as_redue (StandsIn d) l t e due answer after passes = passes_redue (effects.Define (stand_in t.roster d)) (replaced d (stand_in t.roster d) t.state.received l) l t e due answer after passes
as_redue Unnumbered l t e due answer after (is, then, left) = (due, (is, ap (λ (y : Taking). redue y due) then, left))
as_redue (Breaks breach) l t e due answer after stops = breaks_redue breach l t e due answer after stops

-- which ids are due makes no difference to an answer
pub reads_redue : (l : Option Tolerance) (t e : Taking) (due : List ℕ) (answer : Result (Option Taken) Fault) (after : Option Tolerance) → Reads l t answer e after → (x : List ℕ) × Reads l (redue t due) answer (redue e x) after
reads_redue None t e due answer after (next, then) =
    let other = next_redue t e due answer next in
    (other.0, (other.1, then))
reads_redue (Some l) t e due answer after reads = as_redue (passage_of l t) l t e due answer after reads

-- ---- an answer always

-- the reader waits for more bytes; reads a message and has fewer bytes left; or stops at a fault, though memory suffices
abbrev pub GoesOn : (Result (Option Taken) Fault → Taking → Option Tolerance → Type 0) → Taking → Option Tolerance → Type 0
GoesOn reads t l =
    reads (Ok None) t l
    ⊎ (((answer : Taken) × (e : Taking) × (after : Option Tolerance) × reads (Ok (Some answer)) e after × (length e.unread < length t.unread) × IsBytes e.unread)
    ⊎ ((fault : Fault) × (e : Taking) × (after : Option Tolerance) × (fault ≢ faults.Memory) × reads (Err fault) e after))

left_fewer : (bytes : List ℕ) (front : Frame × List ℕ) → IsBytes bytes → frame_at bytes ≡ Ok (Some front) → (length front.1 < length bytes) × IsBytes front.1
left_fewer bytes front good is =
    let whole = (frame_takes bytes front good is).0 in
    (omega (arith, ap length whole, length-append (frame_text front.0) front.1), subst IsBytes (sym (rest_is_end bytes front good is)) (IsBytes-drop (length bytes - length front.1) bytes good))

passes_always : (effect : Effect) (left l : Tolerance) (t : Taking) (front : Frame × List ℕ) → IsBytes t.unread → frame_at t.unread ≡ Ok (Some front) → GoesOn (Passes effect left l t) t (Some l)
passes_always effect left l t front good is =
    let fewer = left_fewer t.unread front good is in
    let rest : after_front (frame_at t.unread) ≡ front.1 = ap after_front is in
    inr (inl (
      taken.Passed,
      passing t effect,
      Some left,
      (refl, refl),
      subst (λ (bytes : List ℕ). length bytes < length t.unread) (sym rest) fewer.0,
      subst IsBytes (sym rest) fewer.1,
    ))

strictly : (l : Tolerance) (t : Taking) (left : Result (Option Taken) Fault → Tolerance) → left (Ok None) ≡ l → Does t → GoesOn (λ answer e after. IntakeNext t answer e × (after ≡ Some (left answer))) t (Some l)
strictly l t left none (inl waits) = inl (waits, ap (λ (y : Tolerance). Some y) (sym none))
strictly l t left none (inr (inl (answer, e, gives, fewer, good))) = inr (inl (answer, e, Some (left (Ok (Some answer))), (gives, refl), fewer, good))
strictly l t left none (inr (inr (fault, e, wanted, stops))) = inr (inr (fault, e, Some (left (Err fault)), wanted, (stops, refl)))

as_always : (p : Passage) (l : Tolerance) (t : Taking) → IsBytes t.unread → passage_of l t ≡ p → GoesOn (ReadsAs p l t) t (Some l)
as_always Strict l t good is = strictly l t (λ answer. l) refl (does t good)
as_always (Defines d) l t good is = strictly l t (left_by d l t) refl (does t good)
as_always (Counts r cause) l t good is =
    let front = fronted l t (subst IsDecided (sym is) tt) in
    passes_always (effects.Update r) (counted_for cause l) l t front.1 good front.2
as_always (StandsIn d) l t good is =
    let front = fronted l t (subst IsDecided (sym is) tt) in
    passes_always (effects.Define (stand_in t.roster d)) (replaced d (stand_in t.roster d) t.state.received l) l t front.1 good front.2
as_always Unnumbered l t good is = inr (inr (faults.NoNumber, shut t, Some l, (λ same. cc), (refl, refl, refl)))
as_always (Breaks breach) l t good is = inr (inr (faults.Breach breach, shut t, Some l, (λ same. cc), (refl, refl, refl)))

pub always_reads : (l : Option Tolerance) (t : Taking) → IsBytes t.unread → GoesOn (Reads l t) t l
always_reads None t good = by (does t good)
  where
    by : Does t → GoesOn (Reads None t) t None
    by (inl waits) = inl (waits, refl)
    by (inr (inl (answer, e, gives, fewer, left))) = inr (inl (answer, e, None, (gives, refl), fewer, left))
    by (inr (inr (fault, e, wanted, stops))) = inr (inr (fault, e, None, wanted, (stops, refl)))
always_reads (Some l) t good = as_always (passage_of l t) l t good refl

-- ---- memory

as_memory : (p : Passage) (l : Tolerance) (t e : Taking) (after : Option Tolerance) → ReadsAs p l t (Err faults.Memory) e after → (e ≡ t) × (after ≡ Some l)
as_memory Strict l t e after (stops, then) = (stops.2, then)
as_memory (Defines d) l t e after (stops, then) = (stops.2, then)
as_memory (Counts r cause) l t e after stops = stops
as_memory (StandsIn d) l t e after stops = stops
as_memory Unnumbered l t e after stops =
    let wrong = stops.0 in
    absurd cc
as_memory (Breaks breach) l t e after (further, is, then) = (is, then)

-- if memory runs out, nothing changes
pub memory_stays : (l : Option Tolerance) (t e : Taking) (after : Option Tolerance) → Reads l t (Err faults.Memory) e after → (e ≡ t) × (after ≡ l)
memory_stays None t e after (stops, then) = (stops.2, then)
memory_stays (Some l) t e after reads = as_memory (passage_of l t) l t e after reads
