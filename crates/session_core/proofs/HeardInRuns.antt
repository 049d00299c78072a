-- What a session counts of what it hears, however the bytes are cut.
use Rattle.std.proofs.Common.{◌≡◌, ◌≢◌, ◌⊎◌, ℕ, Bool, true, false, List, [], ◌∷◌, ◌++◌, Some, Ok, Err, Result, refl, sym, ap, ◌∙◌, subst, inl, inr}
use Rattle.std.proofs.lemmas.List.{append-nil}
use Rattle.table_types.specs.declared.copies.Settled.{Settled}
use Rattle.table_types.specs.declared.copies.Settled.TheVariants as settles
use Rattle.peers_msg.specs.Integers.{IsBytes}
use Rattle.learner.specs.declared.taken.Taken.{Taken}
use Rattle.tolerant_intake.specs.declared.passed_over.PassedOver.{PassedOver}
use Rattle.tolerant_intake.specs.Reading.{Reading, passed_by}
use Rattle.session_core.specs.declared.action.Action.{Action}
use Rattle.session_core.specs.declared.controls.Controls.{Controls}
use Rattle.session_core.specs.declared.event.Event.TheVariants as events
use Rattle.session_core.specs.declared.halt.Halt.{Halt}
use Rattle.session_core.specs.declared.halt.Halt.TheVariants as halts
use Rattle.session_core.specs.declared.heard.Heard.{Heard}
use Rattle.session_core.specs.Phases.{Phase}
use Rattle.session_core.specs.Phases as phases
use Rattle.session_core.specs.Courses.{Course, ReceivesAll, acks_sent, course_fed, teaching_anew}
use Rattle.session_core.specs.Sessions.{Concludes, GoesOpen, ReceivesBytes, SessionState, Settles, StartsPendingResync}
use Rattle.session_core.specs.HeardCounts.{CountsBytes, all_counted, message_counted}
use Rattle.session_core.proofs.CountedOnce.{ending}
use Rattle.session_core.proofs.ReadersGoOn.{fed, reading_of, with_due}
use Rattle.session_core.proofs.TakenHoweverCut.{AreTaken, IsOver, over_ends, taken_both, taken_none, taken_once, taken_over, taken_received}

-- ---- what is counted of the bytes after a reading

-- how the session is after these messages: open, with its reader at the reading `y`, or over
abbrev pub IsLeftAt : Result (Unit {0}) Halt → Reading → Phase → Type 0
IsLeftAt (Ok u) y phase = (d : Course) × (phase ≡ phases.Open d) × (reading_of d ≡ with_due y [])
IsLeftAt (Err halt) y phase = phase ≡ phases.Ended

abbrev pub AreCounted : List Taken → Reading → Heard → Heard → Type 0
AreCounted ts y n m = (m.passed_over ≡ passed_by y.tolerance) × (m.controls ≡ all_counted ts n.controls)

-- these bytes after the reading `r` were heard, and counted
abbrev pub IsHeard : Reading → List ℕ → Heard → Heard → Phase → Type 0
IsHeard r bytes n m phase =
    (ts : List Taken)
    × (y : Reading)
    × (end : Result (Unit {0}) Halt)
    × AreTaken (fed r bytes) ts y
    × IsOver y end
    × AreCounted ts y n m
    × IsLeftAt end y phase

heard_same : (a b : Heard) → a.controls ≡ b.controls → a.passed_over ≡ b.passed_over → a ≡ b
heard_same a b controls passed = ap (λ (x : Controls). record a { controls = x }) controls ∙ ap (λ (x : PassedOver). record b { passed_over = x }) passed

pub heard_once : (r : Reading) (bytes : List ℕ) (n m k : Heard) (p q : Phase) → IsHeard r bytes n m p → IsHeard r bytes n k q → m ≡ k
heard_once r bytes n m k p q (ts, y, end, takes, over, (passed, counts), left) (us, z, last, takes', over', (passed', counts'), left') =
    let same = taken_once ts us (fed r bytes) y z end last takes takes' over over' in
    heard_same m k (counts ∙ (ap (λ (xs : List Taken). all_counted xs n.controls) same.0 ∙ sym counts')) (passed ∙ (ap (λ (x : Reading). passed_by x.tolerance) same.1 ∙ sym passed'))

-- ---- one event

left_of : (s : SessionState) (c mid : Course) (result : Result (Unit {0}) Halt) (first given acts : List Action) (e : SessionState) → ReceivesAll c result given mid → Concludes s mid result first acts e
    → (ts : List Taken) × (y : Reading) × (end : Result (Unit {0}) Halt) × AreTaken (reading_of c) ts y × IsOver y end × IsLeftAt end y e.phase
left_of s c mid (Ok u) first given acts e (ts, are, waits) (is, ends) =
    (ts, reading_of mid, Ok u, taken_received ts c mid given are, waits, (acks_sent mid, ap (λ (x : SessionState). x.phase) ends, refl))
left_of s c mid (Err halts.Failed) first given acts e (ts, last, are, halted) (is, ends) =
    (ts, reading_of last, Err halts.Failed, taken_received ts c last given are, over_ends last (Err halts.Failed) halted, ap (λ (x : SessionState). x.phase) ends)
left_of s c mid (Err (halts.Fault fault)) first given acts e (ts, last, are, halted) (is, ends) =
    (ts, reading_of last, Err (halts.Fault fault), taken_received ts c last given are, over_ends last (Err (halts.Fault fault)) halted, ap (λ (x : SessionState). x.phase) ends)
left_of s c mid (Err halts.Memory) first given acts e receives concludes = absurd concludes

pub bytes_heard : (s : SessionState) (c : Course) (bytes : List ℕ) (first acts : List Action) (e : SessionState) (n m : Heard) → ReceivesBytes s (course_fed c bytes) first acts e → CountsBytes c bytes n m → IsHeard (reading_of c) bytes n m e.phase
bytes_heard s c bytes first acts e n m (result, given, mid, receives, concludes) (us, (others, at, are, how, passed), counts) =
    let left = left_of s (course_fed c bytes) mid result (first ++ given) given acts e receives concludes in
    let last = ending at how in
    let same = taken_once left.0 us (fed (reading_of c) bytes) left.1 (reading_of at) left.2 last.0 left.3 (taken_received us (course_fed c bytes) at others are) left.4 (over_ends at last.0 last.1) in (
      left.0,
      left.1,
      left.2,
      left.3,
      left.4,
      (
        passed ∙ sym (ap (λ (x : Reading). passed_by x.tolerance) same.1),
        counts ∙ ap (λ (xs : List Taken). all_counted xs n.controls) (sym same.0),
      ),
      left.5,
    )

starts_reads : (b : Bool) (s : SessionState) (c : Course) (acts : List Action) (e : SessionState) → StartsPendingResync b s c acts e → (d : Course) × (e.phase ≡ phases.Open d) × (reading_of d ≡ reading_of c)
starts_reads true s c acts e (is, ends) = (teaching_anew c, ap (λ (x : SessionState). x.phase) ends, refl)
starts_reads false s c acts e (is, ends) = (c, ap (λ (x : SessionState). x.phase) ends, refl)

settles_reads : (settled : Settled) (s : SessionState) (c : Course) (table : ℕ) (acts : List Action) (e : SessionState) → Settles settled s c table acts e → (d : Course) × (e.phase ≡ phases.Open d) × (reading_of d ≡ reading_of c)
settles_reads settles.All s c table acts e starts = let to = starts_reads _ s _ acts e starts in (to.0, to.1, to.2)
settles_reads settles.Some s c table acts e (is, ends) = (c, ap (λ (x : SessionState). x.phase) ends, refl)
settles_reads settles.Older s c table acts e (is, ends) = (c, ap (λ (x : SessionState). x.phase) ends, refl)

pub answer_reads : (s : SessionState) (c : Course) (table : ℕ) (settled : Settled) (acts : List Action) (e : SessionState) → GoesOpen s c (events.Settled table settled) acts e → (d : Course) × (e.phase ≡ phases.Open d) × (reading_of d ≡ reading_of c)
answer_reads s c table settled acts e (mid, answered, goes) =
    let to = settles_reads settled s mid table acts e goes in
    (to.0, to.1, to.2 ∙ ap reading_of answered.1)

-- ---- after a reading at which more bytes are awaited

-- nothing more is heard
pub none_heard : (r : Reading) (n : Heard) (c : Course) (phase : Phase) → phase ≡ phases.Open c → reading_of c ≡ with_due r [] → IsOver r (Ok tt) → n.passed_over ≡ passed_by r.tolerance → IsHeard r [] n n phase
none_heard r n c phase opens reads waits passed = ([], r, Ok tt, taken_none r, waits, (passed, refl), (c, opens, reads))

counted_both : (ts us : List Taken) (n : Controls) → all_counted (ts ++ us) n ≡ all_counted us (all_counted ts n)
counted_both [] us n = refl
counted_both (t ∷ ts) us n = counted_both ts us (message_counted t n)

due_again : (y z : Reading) → with_due z [] ≡ with_due y [] → passed_by z.tolerance ≡ passed_by y.tolerance
due_again y z same = ap (λ (x : Reading). passed_by x.tolerance) same

left_again : (end : Result (Unit {0}) Halt) (y z : Reading) (phase : Phase) → with_due z [] ≡ with_due y [] → IsLeftAt end y phase → IsLeftAt end z phase
left_again (Ok u) y z phase same (d, opens, reads) = (d, opens, reads ∙ sym same)
left_again (Err halt) y z phase same over = over

-- bytes, and then more of them
pub heard_both : (r : Reading) (a b : List ℕ) (n k m : Heard) (ts : List Taken) (y : Reading) (phase : Phase) → IsBytes (r.intake.unread ++ a)
    → AreTaken (fed r a) ts y → AreCounted ts y n k → IsHeard (with_due y []) b k m phase → IsHeard r (a ++ b) n m phase
heard_both r a b n k m ts y phase good takes counted (us, z, end, more, over, (passed, counts), left) =
    let all = taken_both r y z a b ts us end good takes more over in (
      ts ++ us,
      all.0,
      end,
      all.1,
      all.2,
      (
        passed ∙ sym (due_again z all.0 all.3),
        counts ∙ (ap (λ (x : Controls). all_counted us x) counted.1 ∙ sym (counted_both ts us n.controls)),
      ),
      left_again end z all.0 phase all.3 left,
    )

-- with the bytes after the end of the session
pub heard_out : (r : Reading) (bytes more : List ℕ) (n m : Heard) (phase : Phase) → IsBytes (r.intake.unread ++ bytes) → (more ≡ []) ⊎ (phase ≡ phases.Ended) → IsHeard r bytes n m phase → IsHeard r (bytes ++ more) n m phase
heard_out r bytes more n m phase good (inl none) heard =
    subst (λ (b : List ℕ). IsHeard r b n m phase) (sym (ap (λ (x : List ℕ). bytes ++ x) none ∙ append-nil bytes)) heard
heard_out r bytes more n m phase good (inr ended) (ts, y, Ok u, takes, over, counted, (d, opens, reads)) =
    let never : phases.Open d ≡ phases.Ended = sym opens ∙ ended in
    absurd cc
heard_out r bytes more n m phase good (inr ended) (ts, y, Err halt, takes, over, (passed, counts), left) =
    let on = taken_over r y bytes more ts halt good takes over in
    (ts, fed y more, Err halt, on.0, on.1, (passed, counts), left)
