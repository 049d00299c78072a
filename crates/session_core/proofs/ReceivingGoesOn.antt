-- The complete messages are received up to an end.
use Rattle.std.proofs.Common.{◌≡◌, ℕ, zero, suc, ◌<◌, Bool, true, false, List, [], ◌∷◌, ◌++◌, length, Option, Some, None, Result, Ok, Err, refl, sym, subst, arith, inl, inr}
use Rattle.peers_msg.specs.Integers.{IsBytes}
use Rattle.peers_msg.specs.declared.control.Control.{Control}
use Rattle.peers_msg.specs.declared.control.Control.TheVariants as controls
use Rattle.learner.specs.declared.taken.Taken.{Taken}
use Rattle.learner.specs.declared.taken.Taken.TheVariants as taken
use Rattle.tolerant_intake.specs.Reading.{Reading, Reads}
use Rattle.tolerant_intake.proofs.ReadingGoesOn.{GoesOn, always_reads}
use Rattle.session_core.specs.declared.action.Action.{Action}
use Rattle.session_core.specs.declared.action.Action.TheVariants as actions
use Rattle.session_core.specs.declared.halt.Halt.{Halt}
use Rattle.session_core.specs.declared.halt.Halt.TheVariants as halts
use Rattle.session_core.specs.Phases as phases
use Rattle.session_core.specs.Acks.{ack_of}
use Rattle.session_core.specs.Courses.{Course, AreReceived, ack_received, acknowledged, acks_given, acks_sent, message_received, is_failure, requested, said}
use Rattle.session_core.specs.Sessions.{SessionState, ReceivesBytes, confirmed_by, ended, going, kind_of_fault}
use Rattle.session_core.proofs.ReadersGoOn.{Gives, gives_good, reading_of}
use Rattle.session_core.proofs.StepIsUnique.{Ends}

-- ---- what receiving leaves in the reader

requested_reading : (waits : Bool) (c : Course) → reading_of (requested waits c).1 ≡ reading_of c
requested_reading true c = refl
requested_reading false c = refl

said_reading : (c : Course) (control : Control) → reading_of (said c control).1 ≡ reading_of c
said_reading c controls.ResyncRequest = requested_reading _ c
said_reading c controls.ResyncFinished = refl
said_reading c controls.ResyncPartial = refl
said_reading c controls.ResyncConfirmed = refl
said_reading c controls.Heartbeat = refl

acknowledged_reading : (out : Bool) (c : Course) (table number : ℕ) → reading_of (acknowledged out c table number).1 ≡ reading_of c
acknowledged_reading true c table number = refl
acknowledged_reading false c table number = refl

ack_reading : (c : Course) (ack : Option (ℕ × ℕ)) → reading_of (ack_received c ack).1 ≡ reading_of c
ack_reading c (Some (table, number)) = acknowledged_reading _ c table number
ack_reading c None = refl

pub received_reading : (c : Course) (t : Taken) → reading_of (message_received c t).1 ≡ reading_of c
received_reading c (taken.Row u) = refl
received_reading c taken.Passed = refl
received_reading c (taken.Said control) = said_reading c control
received_reading c (taken.Acked table number) = ack_reading c (ack_of c.intake.roster (taken.Acked table number))
received_reading c (taken.Failed kind) = refl

-- the unread values are all bytes
pub received_good : (c e : Course) (ts : List Taken) (acts : List Action) → IsBytes c.intake.unread → AreReceived c ts acts e → IsBytes e.intake.unread
received_good c e [] acts good (none, here) = subst (λ (x : Course). IsBytes x.intake.unread) (sym here) good
received_good c e (t ∷ ts) acts good (mid, rest, (whole, gives, then), all, later) =
    let left : IsBytes mid.intake.unread = gives_good (reading_of c) (reading_of mid) t good gives in
    received_good (message_received mid t).1 e ts rest (subst (λ (x : Reading). IsBytes x.intake.unread) (sym (received_reading mid t)) left) later

-- ---- up to an end

abbrev AreAllReceived : Course → Type 0
AreAllReceived c = (ts : List Taken) × (acts : List Action) × (m : Course) × (end : Result (Unit {0}) Halt) × AreReceived c ts acts m × Ends m end

-- courses with fewer unread bytes receive all their messages
abbrev IsLater : ℕ → Type 0
IsLater n = (d : Course) → length d.intake.unread < n → IsBytes d.intake.unread → AreAllReceived d

received_first : (c : Course) (n : ℕ) (t : Taken) (e : Reading) → IsLater n → is_failure t ≡ false → Gives (reading_of c) (Ok (Some t)) e → length e.intake.unread < n → IsBytes e.intake.unread → AreAllReceived c
received_first c n t e later whole gives few good =
    let mid : Course = record c { intake = e.intake; tolerance = e.tolerance } in
    let same = sym (received_reading mid t) in
    let rest = later (message_received mid t).1 (subst (λ (x : Reading). length x.intake.unread < n) same few) (subst (λ (x : Reading). IsBytes x.intake.unread) same good) in
    (t ∷ rest.0, (message_received mid t).0 ++ rest.1, rest.2, rest.3, (mid, rest.1, (whole, gives, refl), refl, rest.4), rest.5)

received_by : (c : Course) (n : ℕ) (t : Taken) (e : Reading) → IsLater n → Gives (reading_of c) (Ok (Some t)) e → length e.intake.unread < n → IsBytes e.intake.unread → AreAllReceived c
received_by c n (taken.Row u) e later gives few good = received_first c n (taken.Row u) e later refl gives few good
received_by c n taken.Passed e later gives few good = received_first c n taken.Passed e later refl gives few good
received_by c n (taken.Said control) e later gives few good = received_first c n (taken.Said control) e later refl gives few good
received_by c n (taken.Acked table number) e later gives few good = received_first c n (taken.Acked table number) e later refl gives few good
received_by c n (taken.Failed kind) e later gives few good = ([], [], c, Err halts.Failed, (refl, refl), (kind, e.intake, e.tolerance, gives))

-- what the reader of the course does
abbrev Does : Course → Type 0
Does c = GoesOn (Reads c.tolerance c.intake) c.intake c.tolerance

received_from : (c : Course) (n : ℕ) → IsLater n → length c.intake.unread < suc n → Does c → AreAllReceived c
received_from c n later few (inl waits) = ([], [], c, Ok tt, (refl, refl), waits)
received_from c n later few (inr (inl (t, e, after, gives, fewer, good))) = received_by c n t (record { intake = e; tolerance = after }) later gives (omega (arith, few, fewer)) good
received_from c n later few (inr (inr (fault, e, after, wanted, stops))) = ([], [], c, Err (halts.Fault fault), (refl, refl), (wanted, e, after, stops))

received_out : (n : ℕ) (c : Course) → length c.intake.unread < n → IsBytes c.intake.unread → AreAllReceived c
received_out zero c few good = absurd (omega (arith, few))
received_out (suc n) c few good = received_from c n (received_out n) few (always_reads c.tolerance c.intake good)

-- ---- what follows

concluded : (s : SessionState) (c m : Course) (first given : List Action) (ts : List Taken) (end : Result (Unit {0}) Halt) → AreReceived c ts given m → Ends m end → (acts : List Action) × (e : SessionState) × ReceivesBytes s c first acts e
concluded s c m first given ts (Ok _) receives ends =
    let acts : List Action = (first ++ given) ++ acks_given m in
    (acts, confirmed_by acts (going s (acks_sent m)), (Ok tt, given, m, (ts, receives, ends), (refl, refl)))
concluded s c m first given ts (Err halts.Failed) receives ends =
    let acts : List Action = (first ++ given) ++ (actions.Close ∷ []) in
    (acts, confirmed_by acts (ended s), (Err halts.Failed, given, m, (ts, m, receives, ends), (refl, refl)))
concluded s c m first given ts (Err (halts.Fault fault)) receives ends =
    let acts : List Action = (first ++ given) ++ (actions.Part (kind_of_fault fault) ∷ []) in (
      acts,
      confirmed_by acts (record s { phase = phases.Ended; fault = Some fault }),
      (Err (halts.Fault fault), given, m, (ts, m, receives, ends), (refl, refl)),
    )
concluded s c m first given ts (Err halts.Memory) receives ends = absurd ends

-- bytes fed to a course are received
pub received_some : (s : SessionState) (c : Course) (first : List Action) → IsBytes c.intake.unread → (acts : List Action) × (e : SessionState) × ReceivesBytes s c first acts e
received_some s c first good =
    let out = received_out (suc (length c.intake.unread)) c (omega arith) good in
    concluded s c out.2 first out.1 out.0 out.3 out.4 out.5
