-- The messages that a reader gives, whatever its session does in between.
use Rattle.std.proofs.Common.{◌≡◌, ◌≢◌, ℕ, false, List, [], ◌∷◌, ◌++◌, Some, None, Result, Ok, Err, refl, sym, ap, subst, ◌∙◌}
use Rattle.std.proofs.lemmas.List.{append-nil}
use Rattle.peers_msg.specs.Integers.{IsBytes}
use Rattle.peers_msg.specs.declared.control.ErrorKind.{ErrorKind}
use Rattle.learner.specs.declared.fault.Fault.TheVariants as faults
use Rattle.learner.specs.declared.taken.Taken.{Taken}
use Rattle.learner.specs.declared.taken.Taken.TheVariants as taken
use Rattle.tolerant_intake.specs.Reading.{Reading}
use Rattle.session_core.specs.declared.action.Action.{Action}
use Rattle.session_core.specs.declared.halt.Halt.{Halt}
use Rattle.session_core.specs.declared.halt.Halt.TheVariants as halts
use Rattle.session_core.specs.Courses.{Course, AreReceived, Receives, course_begun, is_failure, message_received}
use Rattle.session_core.proofs.ReadersGoOn.{Gives, fed, gives_due, gives_good, gives_more, grouped, reading_of, stops_more, waits_due, with_due}
use Rattle.session_core.proofs.ReceivingGoesOn.{received_reading}
use Rattle.session_core.proofs.StepIsUnique.{Ends, not_both, one_end, one_received}

-- the messages are taken one after another, and none is an error message
abbrev pub AreTaken : Reading → List Taken → Reading → Type 0
AreTaken t [] e = e ≡ t
AreTaken t (one ∷ rest) e = (mid : Reading) × (is_failure one ≡ false) × Gives t (Ok (Some one)) mid × AreTaken mid rest e

-- why no more are taken
abbrev pub IsOver : Reading → Result (Unit {0}) Halt → Type 0
IsOver t (Ok _) = Gives t (Ok None) t
IsOver t (Err halts.Failed) = (kind : ErrorKind) × (e : Reading) × Gives t (Ok (Some (taken.Failed kind))) e
IsOver t (Err (halts.Fault fault)) = (fault ≢ faults.Memory) × (e : Reading) × Gives t (Err fault) e
IsOver t (Err halts.Memory) = ⊥

-- ---- as a course receives them

pub taken_received : (ts : List Taken) (c e : Course) (acts : List Action) → AreReceived c ts acts e → AreTaken (reading_of c) ts (reading_of e)
taken_received [] c e acts (none, here) = ap reading_of here
taken_received (t ∷ ts) c e acts (mid, rest, (whole, gives, then), all, later) =
    (reading_of mid, whole, gives, subst (λ (x : Reading). AreTaken x ts (reading_of e)) (received_reading mid t) (taken_received ts (message_received mid t).1 e rest later))

pub over_ends : (c : Course) (end : Result (Unit {0}) Halt) → Ends c end → IsOver (reading_of c) end
over_ends c (Ok u) ends = ends
over_ends c (Err halts.Failed) (kind, e, after, gives) = (kind, record { intake = e; tolerance = after }, gives)
over_ends c (Err (halts.Fault fault)) (wanted, e, after, stops) = (wanted, record { intake = e; tolerance = after }, stops)
over_ends c (Err halts.Memory) ends = ends

-- a course with this reader
abbrev at : Reading → Course
at t = record (course_begun [] false) { intake = t.intake; tolerance = t.tolerance }

ends_over : (t : Reading) (end : Result (Unit {0}) Halt) → IsOver t end → Ends (at t) end
ends_over t (Ok u) over = over
ends_over t (Err halts.Failed) (kind, e, gives) = (kind, e.intake, e.tolerance, gives)
ends_over t (Err (halts.Fault fault)) (wanted, e, stops) = (wanted, e.intake, e.tolerance, stops)
ends_over t (Err halts.Memory) over = over

receives_at : (t mid : Reading) (one : Taken) → is_failure one ≡ false → Gives t (Ok (Some one)) mid → Receives (at t) one (at mid)
receives_at t mid one whole gives = (whole, gives, refl)

-- ---- only one outcome

pub taken_once : (ts us : List Taken) (t x y : Reading) (a b : Result (Unit {0}) Halt) → AreTaken t ts x → AreTaken t us y → IsOver x a → IsOver y b → (ts ≡ us) × (x ≡ y) × (a ≡ b)
taken_once [] [] t x y a b one other over over' =
    let ends = ends_over t a (subst (λ (z : Reading). IsOver z a) one over) in
    let ends' = ends_over t b (subst (λ (z : Reading). IsOver z b) other over') in
    (refl, one ∙ sym other, one_end (at t) a b ends ends')
taken_once [] (u ∷ us) t x y a b one (mid, whole, gives, later) over over' =
    absurd (not_both (at t) (at mid) u a (ends_over t a (subst (λ (z : Reading). IsOver z a) one over)) (receives_at t mid u whole gives))
taken_once (k ∷ ts) [] t x y a b (mid, whole, gives, later) other over over' =
    absurd (not_both (at t) (at mid) k b (ends_over t b (subst (λ (z : Reading). IsOver z b) other over')) (receives_at t mid k whole gives))
taken_once (k ∷ ts) (u ∷ us) t x y a b (mid, whole, gives, later) (mid', whole', gives', later') over over' =
    let same = one_received (at t) (at mid) (at mid') k u (receives_at t mid k whole gives) (receives_at t mid' u whole' gives') in
    let here : mid ≡ mid' = ap reading_of same.1 in
    let rest = taken_once ts us mid x y a b later (subst (λ (z : Reading). AreTaken z us y) (sym here) later') over over' in
    (ap (λ (z : Taken). z ∷ ts) same.0 ∙ ap (λ (zs : List Taken). u ∷ zs) rest.0, rest.1, rest.2)

-- ---- more bytes after the messages

taken_on : (more : List ℕ) (ts : List Taken) (t e : Reading) → IsBytes t.intake.unread → AreTaken t ts e → AreTaken (fed t more) ts (fed e more)
taken_on more [] t e good here = ap (λ (x : Reading). fed x more) here
taken_on more (one ∷ rest) t e good (mid, whole, gives, later) =
    (fed mid more, whole, gives_more t mid one more good gives, taken_on more rest mid e (gives_good t mid one good gives) later)

pub taken_good : (ts : List Taken) (t e : Reading) → IsBytes t.intake.unread → AreTaken t ts e → IsBytes e.intake.unread
taken_good [] t e good here = subst (λ (x : Reading). IsBytes x.intake.unread) (sym here) good
taken_good (one ∷ rest) t e good (mid, whole, gives, later) = taken_good rest mid e (gives_good t mid one good gives) later

over_more : (t : Reading) (more : List ℕ) (halt : Halt) → IsBytes t.intake.unread → IsOver t (Err halt) → IsOver (fed t more) (Err halt)
over_more t more halts.Failed good (kind, e, gives) = (kind, fed e more, gives_more t e (taken.Failed kind) more good gives)
over_more t more (halts.Fault fault) good (wanted, e, stops) =
    let there = stops_more t e fault more good wanted stops in
    (wanted, there.0, there.1)
over_more t more halts.Memory good over = absurd over

-- messages that end in a fault, or in an error message, end so with more bytes after them
pub taken_over : (t e : Reading) (bytes more : List ℕ) (ts : List Taken) (halt : Halt) → IsBytes (t.intake.unread ++ bytes) → AreTaken (fed t bytes) ts e → IsOver e (Err halt)
    → AreTaken (fed t (bytes ++ more)) ts (fed e more) × IsOver (fed e more) (Err halt)
taken_over t e bytes more ts halt good takes over = (
  subst (λ (x : Reading). AreTaken x ts (fed e more)) (grouped t bytes more) (taken_on more ts (fed t bytes) e good takes),
  over_more e more halt (taken_good ts (fed t bytes) e good takes) over,
)

-- ---- other ids due

taken_due : (ts : List Taken) (t e : Reading) (due : List ℕ) → AreTaken t ts e → (after : List ℕ) × AreTaken (with_due t due) ts (with_due e after)
taken_due [] t e due here = (due, ap (λ (x : Reading). with_due x due) here)
taken_due (one ∷ rest) t e due (mid, whole, gives, later) =
    let again = gives_due t mid due (Ok (Some one)) gives in
    let others = taken_due rest mid e again.0 later in
    (others.0, (with_due mid again.0, whole, again.1, others.1))

over_due : (t : Reading) (due : List ℕ) (end : Result (Unit {0}) Halt) → IsOver t end → IsOver (with_due t due) end
over_due t due (Ok u) waits = waits_due t due waits
over_due t due (Err halts.Failed) (kind, e, gives) =
    let again = gives_due t e due (Ok (Some (taken.Failed kind))) gives in
    (kind, with_due e again.0, again.1)
over_due t due (Err (halts.Fault fault)) (wanted, e, stops) =
    let again = gives_due t e due (Err fault) stops in
    (wanted, with_due e again.0, again.1)
over_due t due (Err halts.Memory) over = absurd over

-- ---- messages after messages

taken_then : (ts us : List Taken) (t mid e : Reading) → AreTaken t ts mid → AreTaken mid us e → AreTaken t (ts ++ us) e
taken_then [] us t mid e here later = subst (λ (x : Reading). AreTaken x us e) here later
taken_then (one ∷ ts) us t mid e (next, whole, gives, goes) later = (next, whole, gives, taken_then ts us next mid e goes later)

-- what is taken of the first bytes, and of those after them once the acknowledgements are sent, is taken of all of them
pub taken_both : (t m y : Reading) (a b : List ℕ) (ts us : List Taken) (end : Result (Unit {0}) Halt) → IsBytes (t.intake.unread ++ a)
    → AreTaken (fed t a) ts m → AreTaken (fed (with_due m []) b) us y → IsOver y end
    → (z : Reading) × AreTaken (fed t (a ++ b)) (ts ++ us) z × IsOver z end × (with_due z [] ≡ with_due y [])
taken_both t m y a b ts us end good first second over =
    let later = taken_due us (fed (with_due m []) b) y m.intake.due second in
    let on : AreTaken (fed t (a ++ b)) ts (fed m b) = subst (λ (x : Reading). AreTaken x ts (fed m b)) (grouped t a b) (taken_on b ts (fed t a) m good first) in
    (with_due y later.0, taken_then ts us (fed t (a ++ b)) (fed m b) (with_due y later.0) on later.1, over_due y later.0 end over, refl)

-- no bytes after messages
pub taken_none : (t : Reading) → t ≡ fed t []
taken_none t = ap (λ (all : List ℕ). record t { intake = record t.intake { unread = all } }) (sym (append-nil t.intake.unread))
