-- What a session of either manner counts of the bytes that it hears, however they are cut.
use Rattle.std.proofs.Common.{◌≡◌, ◌⊎◌, ℕ, Bool, true, false, List, [], ◌∷◌, ◌++◌, Ok, Err, Result, refl, sym, ap, ◌∙◌, subst, append_assoc}
use Rattle.session_core.specs.Manners.{Manner}
use Rattle.session_core.specs.Manners as manners
use Rattle.std.proofs.lemmas.Bool.{false≢true}
use Rattle.std.proofs.lemmas.List.{append-nil}
use Rattle.table_types.specs.declared.copies.Settled.{Settled}
use Rattle.table_types.specs.declared.copies.Settled.TheVariants as settled_as
use Rattle.peers_msg.specs.Decoding.{together}
use Rattle.peers_msg.specs.Integers.{IsBytes}
use Rattle.peers_msg.proofs.CuttingIndependence.{front_good}
use Rattle.learner.specs.declared.taken.Taken.{Taken}
use Rattle.tolerant_intake.specs.Reading.{Reading, passed_by}
use Rattle.session_core.specs.declared.action.Action.{Action}
use Rattle.session_core.specs.declared.event.Event.{Event}
use Rattle.session_core.specs.declared.event.Event.TheVariants as events
use Rattle.session_core.specs.declared.halt.Halt.{Halt}
use Rattle.session_core.specs.declared.heard.Heard.{Heard}
use Rattle.session_core.specs.Phases.{Phase}
use Rattle.session_core.specs.Phases as phases
use Rattle.session_core.specs.Courses.{Course}
use Rattle.session_core.specs.HeardCounts.{CountsBytes, CountsEvent}
use Rattle.session_core.specs.Keeping.{KeptSession}
use Rattle.session_core.specs.Sessions.{Goes, GoesIn, GoesOpen, is_asked, SessionState}
use Rattle.session_core.specs.Runs.{HoldsBytes}
use Rattle.session_core.specs.Happenings.{Happening, handed}
use Rattle.session_core.specs.Cutting.{AreFed, IsFedOut}
use Rattle.session_core.specs.Hearing.{Awaits, Hears, heard_in, AwaitsIn, passed_on}
use Rattle.session_core.proofs.BytesStay.{append_good}
use Rattle.session_core.proofs.EitherRuns.{hears_as, unasked}
use Rattle.session_core.proofs.HeardInRuns.{AreCounted, IsHeard, IsLeftAt, answer_reads, bytes_heard, heard_both, heard_once, heard_out, none_heard}
use Rattle.session_core.proofs.ReadersGoOn.{fed, reading_of, waits_due, with_due}
use Rattle.session_core.proofs.SameHoweverFed.{after_good}
use Rattle.session_core.proofs.StandingInOrder.{received_as}
use Rattle.session_core.proofs.TakenHoweverCut.{AreTaken, IsOver, taken_good}

-- ---- a session that is over

pub over_hears : (settles : ℕ → ℕ → Bool) (s e : KeptSession) (due left : List (ℕ × ℕ)) (steps : List Happening) → s.session.phase ≡ phases.Ended → Hears settles s due steps e left → (steps ≡ []) × (e ≡ s)
over_hears settles s e due left [] over (here, is) = (refl, here)
over_hears settles s e due left (one ∷ steps) over (mid, rest, takes, awaits, again) =
    let asked : is_asked s.session.phase one.event ≡ true = unasked s mid one.now one.event one.acts takes in
    let never : false ≡ true = subst (λ (p : Phase). is_asked p one.event ≡ true) over asked in
    absurd (false≢true never)

-- ---- where more bytes are awaited

-- the reading of an open session that awaits more bytes, with what was passed over so far
abbrev AwaitsAt : Course → KeptSession → Type 0
AwaitsAt c s =
    (s.session.phase ≡ phases.Open c)
    × (reading_of c ≡ with_due (reading_of c) [])
    × IsOver (reading_of c) (Ok tt)
    × (s.heard.passed_over ≡ passed_by c.tolerance)

-- what is heard from there on
abbrev HearsFrom : (ℕ → ℕ → Bool) → List Happening → Type 0
HearsFrom settles steps =
    (s e : KeptSession) (c : Course) (due left : List (ℕ × ℕ)) → AwaitsAt c s → IsBytes (c.intake.unread ++ heard_in (handed steps)) → Hears settles s due steps e left
    → IsHeard (reading_of c) (heard_in (handed steps)) s.heard e.heard e.session.phase

-- the messages of these bytes were the first
pub then_more : (settles : ℕ → ℕ → Bool) (end : Result (Unit {0}) Halt) (s mid e : KeptSession) (r : Reading) (bytes : List ℕ) (ts : List Taken) (y : Reading) (due left : List (ℕ × ℕ)) (steps : List Happening)
    → IsBytes (r.intake.unread ++ bytes) → IsBytes (heard_in (handed steps)) → AreTaken (fed r bytes) ts y → IsOver y end → AreCounted ts y s.heard mid.heard → IsLeftAt end y mid.session.phase
    → HearsFrom settles steps → Hears settles mid due steps e left → IsHeard r (bytes ++ heard_in (handed steps)) s.heard e.heard e.session.phase
then_more settles (Ok u) s mid e r bytes ts y due left steps good more takes over counted (d, opens, reads) later hears =
    let clean : reading_of d ≡ with_due (reading_of d) [] = reads ∙ sym (ap (λ (x : Reading). with_due x []) reads) in
    let waits : IsOver (reading_of d) (Ok tt) = subst (λ (x : Reading). IsOver x (Ok tt)) (sym reads) (waits_due y [] over) in
    let passed : mid.heard.passed_over ≡ passed_by d.tolerance = counted.0 ∙ sym (ap (λ (x : Reading). passed_by x.tolerance) reads) in
    let good_y : IsBytes y.intake.unread = taken_good ts (fed r bytes) y good takes in
    let good_d : IsBytes d.intake.unread = subst (λ (x : Reading). IsBytes x.intake.unread) (sym reads) good_y in
    let rest = later mid e d due left (opens, clean, waits, passed) (append_good d.intake.unread (heard_in (handed steps)) good_d more) hears in
    heard_both r bytes (heard_in (handed steps)) s.heard mid.heard e.heard ts y e.session.phase good takes counted (subst (λ (x : Reading). IsHeard x (heard_in (handed steps)) mid.heard e.heard e.session.phase) reads rest)
then_more settles (Err halt) s mid e r bytes ts y due left steps good more takes over counted ended later hears =
    let none = over_hears settles mid e due left steps ended hears in
    let same : bytes ++ heard_in (handed steps) ≡ bytes = ap (λ (xs : List Happening). bytes ++ heard_in (handed xs)) none.0 ∙ append-nil bytes in
    subst (λ (b : List ℕ). IsHeard r b s.heard e.heard e.session.phase) (sym same)
    (subst (λ (x : KeptSession). IsHeard r bytes s.heard x.heard x.session.phase) (sym none.1) (ts, y, Err halt, takes, over, counted, ended))

-- bytes, and what follows
bytes_then : (settles : ℕ → ℕ → Bool) (s mid e : KeptSession) (c : Course) (bytes : List ℕ) (acts : List Action) (due left : List (ℕ × ℕ)) (steps : List Happening)
    → s.session.phase ≡ phases.Open c → IsBytes (c.intake.unread ++ (bytes ++ heard_in (handed steps))) → Goes s.session (events.Bytes bytes) acts mid.session → CountsEvent (events.Bytes bytes) s.session.phase s.heard mid.heard
    → HearsFrom settles steps → Hears settles mid due steps e left → IsHeard (reading_of c) (bytes ++ heard_in (handed steps)) s.heard e.heard e.session.phase
bytes_then settles s mid e c bytes acts due left steps opens good goes counts later hears =
    let grouped : c.intake.unread ++ (bytes ++ heard_in (handed steps)) ≡ (c.intake.unread ++ bytes) ++ heard_in (handed steps) = sym (append_assoc c.intake.unread bytes (heard_in (handed steps))) in
    let all : IsBytes ((c.intake.unread ++ bytes) ++ heard_in (handed steps)) = subst IsBytes grouped good in
    let there : GoesOpen s.session c (events.Bytes bytes) acts mid.session = subst (λ (p : Phase). GoesIn p s.session (events.Bytes bytes) acts mid.session) opens goes in
    let counted : CountsBytes c bytes s.heard mid.heard = subst (λ (p : Phase). CountsEvent (events.Bytes bytes) p s.heard mid.heard) opens counts in
    heard_then (bytes_heard s.session c bytes [] acts mid.session s.heard mid.heard there.1 counted) (front_good (c.intake.unread ++ bytes) (heard_in (handed steps)) all) (after_good (c.intake.unread ++ bytes) (heard_in (handed steps)) all)
  where
    heard_then : IsHeard (reading_of c) bytes s.heard mid.heard mid.session.phase → IsBytes (c.intake.unread ++ bytes) → IsBytes (heard_in (handed steps)) → IsHeard (reading_of c) (bytes ++ heard_in (handed steps)) s.heard e.heard e.session.phase
    heard_then (ts, y, end, takes, over, counted, left_at) first rest =
        then_more settles end s mid e (reading_of c) bytes ts y due left steps first rest takes over counted left_at later hears

-- an answer, and what follows
answer_then : (settles : ℕ → ℕ → Bool) (s mid e : KeptSession) (c : Course) (table : ℕ) (settled : Settled) (acts : List Action) (due left : List (ℕ × ℕ)) (steps : List Happening)
    → AwaitsAt c s → IsBytes (c.intake.unread ++ heard_in (handed steps)) → Goes s.session (events.Settled table settled) acts mid.session → mid.heard ≡ s.heard
    → HearsFrom settles steps → Hears settles mid due steps e left → IsHeard (reading_of c) (heard_in (handed steps)) s.heard e.heard e.session.phase
answer_then settles s mid e c table settled acts due left steps (opens, clean, waits, passed) good goes same later hears =
    let there : GoesOpen s.session c (events.Settled table settled) acts mid.session = subst (λ (p : Phase). GoesIn p s.session (events.Settled table settled) acts mid.session) opens goes in
    let to = answer_reads s.session c table settled acts mid.session there in
    let clean_so : reading_of to.0 ≡ with_due (reading_of to.0) [] = to.2 ∙ (clean ∙ sym (ap (λ (x : Reading). with_due x []) to.2)) in
    let passed_so : mid.heard.passed_over ≡ passed_by to.0.tolerance = ap (λ (h : Heard). h.passed_over) same ∙ (passed ∙ sym (ap (λ (x : Reading). passed_by x.tolerance) to.2)) in
    let rest = later mid e to.0 due left (to.1, clean_so, subst (λ (x : Reading). IsOver x (Ok tt)) (sym to.2) waits, passed_so) (subst (λ (x : Reading). IsBytes (x.intake.unread ++ heard_in (handed steps))) (sym to.2) good) hears in
    subst (λ (x : Reading). IsHeard x (heard_in (handed steps)) s.heard e.heard e.session.phase) to.2
    (subst (λ (h : Heard). IsHeard (reading_of to.0) (heard_in (handed steps)) h e.heard e.session.phase) same rest)

-- one event, and what follows
event_then : (settles : ℕ → ℕ → Bool) (event : Event) (s mid e : KeptSession) (c : Course) (acts : List Action) (due rest left : List (ℕ × ℕ)) (steps : List Happening)
    → AwaitsAt c s → IsBytes (c.intake.unread ++ heard_in ((event, acts) ∷ handed steps)) → Goes s.session (received_as event) acts mid.session → Awaits settles s.session (received_as event) acts due rest → CountsEvent event s.session.phase s.heard mid.heard
    → HearsFrom settles steps → Hears settles mid rest steps e left → IsHeard (reading_of c) (heard_in ((event, acts) ∷ handed steps)) s.heard e.heard e.session.phase
event_then settles (events.Bytes bytes) s mid e c acts due rest left steps at good goes awaits counts later hears = bytes_then settles s mid e c bytes acts rest left steps at.0 good goes counts later hears
event_then settles (events.Settled table settled) s mid e c acts due rest left steps at good goes awaits counts later hears = answer_then settles s mid e c table settled acts rest left steps at good goes counts later hears
event_then settles (events.Refused table) s mid e c acts due rest left steps at good goes awaits counts later hears = answer_then settles s mid e c table settled_as.Older acts rest left steps at good goes counts later hears
event_then settles events.Turn s mid e c acts due rest left steps at good goes awaits counts later hears = absurd awaits
event_then settles events.Tick s mid e c acts due rest left steps at good goes awaits counts later hears = absurd awaits
event_then settles events.Ask s mid e c acts due rest left steps at good goes awaits counts later hears = absurd awaits
event_then settles events.CaughtUp s mid e c acts due rest left steps at good goes awaits counts later hears = absurd awaits
event_then settles events.Opened s mid e c acts due rest left steps at good goes awaits counts later hears = absurd awaits
event_then settles events.End s mid e c acts due rest left steps at good goes awaits counts later hears = absurd awaits
event_then settles events.ReadFault s mid e c acts due rest left steps at good goes awaits counts later hears = absurd awaits
event_then settles events.WriteFault s mid e c acts due rest left steps at good goes awaits counts later hears = absurd awaits
event_then settles (events.Copied table batch) s mid e c acts due rest left steps at good goes awaits counts later hears = absurd awaits
event_then settles (events.Nothing table) s mid e c acts due rest left steps at good goes awaits counts later hears = absurd awaits
event_then settles (events.Written known) s mid e c acts due rest left steps at good goes awaits counts later hears = absurd awaits

pub heard_from : (settles : ℕ → ℕ → Bool) (steps : List Happening) → HearsFrom settles steps
heard_from settles [] s e c due left (opens, clean, waits, passed) good (here, is) =
    subst (λ (x : KeptSession). IsHeard (reading_of c) [] s.heard x.heard x.session.phase) (sym here) (none_heard (reading_of c) s.heard c s.session.phase opens clean waits passed)
heard_from settles (one ∷ steps) s e c due left at good (mid, rest, takes, awaits, again) =
    let step = hears_as settles s.manner one.event s mid due rest one.now one.acts takes.0 awaits in
    event_then settles one.event s mid e c one.acts due rest left steps at good step.0 step.1 takes.1 (heard_from settles steps) again

-- ---- from an open session

-- the first event brings bytes, since no answer is due
open_heard : (settles : ℕ → ℕ → Bool) (event : Event) (s mid e : KeptSession) (c : Course) (acts : List Action) (rest left : List (ℕ × ℕ)) (steps : List Happening)
    → s.session.phase ≡ phases.Open c → IsBytes (c.intake.unread ++ heard_in ((event, acts) ∷ handed steps)) → Goes s.session (received_as event) acts mid.session → Awaits settles s.session (received_as event) acts [] rest → CountsEvent event s.session.phase s.heard mid.heard
    → Hears settles mid rest steps e left → IsHeard (reading_of c) (heard_in ((event, acts) ∷ handed steps)) s.heard e.heard e.session.phase
open_heard settles (events.Bytes bytes) s mid e c acts rest left steps opens good goes awaits counts hears = bytes_then settles s mid e c bytes acts rest left steps opens good goes counts (heard_from settles steps) hears
open_heard settles (events.Settled table settled) s mid e c acts rest left steps opens good goes (number, is_first, is_answer) counts hears = cc
open_heard settles (events.Refused table) s mid e c acts rest left steps opens good goes (number, is_first, is_answer) counts hears = cc
open_heard settles events.Turn s mid e c acts rest left steps opens good goes awaits counts hears = absurd awaits
open_heard settles events.Tick s mid e c acts rest left steps opens good goes awaits counts hears = absurd awaits
open_heard settles events.Ask s mid e c acts rest left steps opens good goes awaits counts hears = absurd awaits
open_heard settles events.CaughtUp s mid e c acts rest left steps opens good goes awaits counts hears = absurd awaits
open_heard settles events.Opened s mid e c acts rest left steps opens good goes awaits counts hears = absurd awaits
open_heard settles events.End s mid e c acts rest left steps opens good goes awaits counts hears = absurd awaits
open_heard settles events.ReadFault s mid e c acts rest left steps opens good goes awaits counts hears = absurd awaits
open_heard settles events.WriteFault s mid e c acts rest left steps opens good goes awaits counts hears = absurd awaits
open_heard settles (events.Copied table batch) s mid e c acts rest left steps opens good goes awaits counts hears = absurd awaits
open_heard settles (events.Nothing table) s mid e c acts rest left steps opens good goes awaits counts hears = absurd awaits
open_heard settles (events.Written known) s mid e c acts rest left steps opens good goes awaits counts hears = absurd awaits

run_heard : (settles : ℕ → ℕ → Bool) (s e : KeptSession) (c : Course) (one : Happening) (steps : List Happening) (left : List (ℕ × ℕ)) → s.session.phase ≡ phases.Open c → IsBytes (c.intake.unread ++ heard_in (handed (one ∷ steps))) → Hears settles s [] (one ∷ steps) e left
    → IsHeard (reading_of c) (heard_in (handed (one ∷ steps))) s.heard e.heard e.session.phase
run_heard settles s e c one steps left opens good (mid, rest, takes, awaits, again) =
    let step = hears_as settles s.manner one.event s mid [] rest one.now one.acts takes.0 awaits in
    open_heard settles one.event s mid e c one.acts rest left steps opens good step.0 step.1 takes.1 again

-- two ways to cut the bytes count the same
pub answers_heard : (settles : ℕ → ℕ → Bool) (s e end : KeptSession) (c : Course) (one other : Happening) (steps others : List Happening) (more rest : List ℕ) (left over : List (ℕ × ℕ))
    → s.session.phase ≡ phases.Open c → HoldsBytes s.session.phase
    → IsBytes (heard_in (handed (one ∷ steps)) ++ more) → heard_in (handed (one ∷ steps)) ++ more ≡ heard_in (handed (other ∷ others)) ++ rest
    → Hears settles s [] (one ∷ steps) e left → Hears settles s [] (other ∷ others) end over → IsFedOut more e.session → IsFedOut rest end.session
    → e.heard ≡ end.heard
answers_heard settles s e end c one other steps others more rest left over opens holds good cut first again out out' =
    let held : IsBytes c.intake.unread = subst HoldsBytes opens holds in
    let a : List ℕ = heard_in (handed (one ∷ steps)) in
    let b : List ℕ = heard_in (handed (other ∷ others)) in
    let good_a : IsBytes (c.intake.unread ++ a) = append_good c.intake.unread a held (front_good a more good) in
    let good_b : IsBytes (c.intake.unread ++ b) = append_good c.intake.unread b held (front_good b rest (subst IsBytes cut good)) in
    let here = heard_out (reading_of c) a more s.heard e.heard e.session.phase good_a out (run_heard settles s e c one steps left opens good_a first) in
    let there = heard_out (reading_of c) b rest s.heard end.heard end.session.phase good_b out' (run_heard settles s end c other others over opens good_b again) in
    heard_once (reading_of c) (a ++ more) s.heard e.heard end.heard e.session.phase end.session.phase here
    (subst (λ (x : List ℕ). IsHeard (reading_of c) x s.heard end.heard end.session.phase) (sym cut) there)

-- ---- events that follow one another directly

awaits_bytes : (settles : ℕ → ℕ → Bool) (m : Manner) (s : SessionState) (bytes : List ℕ) (acts : List Action) (due : List (ℕ × ℕ)) → AwaitsIn settles m s (events.Bytes bytes) acts due (due ++ passed_on acts)
awaits_bytes settles manners.Plain s bytes acts due = refl
awaits_bytes settles (manners.Staying p) s bytes acts due = refl

never : ℕ → ℕ → Bool
never table number = false

-- the pieces, each as an event in a run
abbrev HasHeard : KeptSession → List (ℕ × ℕ) → List ℕ → KeptSession → Type 0
HasHeard s due bytes e = (steps : List Happening) × (left : List (ℕ × ℕ)) × Hears never s due steps e left × (heard_in (handed steps) ≡ bytes)

fed_hears : (pieces : List (List ℕ)) (s e : KeptSession) (acts : List Action) (due : List (ℕ × ℕ)) → AreFed s pieces acts e → HasHeard s due (together pieces) e
fed_hears [] s e acts due (none, here) = ([], due, (here, refl), refl)
fed_hears (piece ∷ pieces) s e acts due (now, one, rest, mid, is, steps, fed) =
    let later = fed_hears pieces mid e rest (due ++ passed_on one) fed in (
      record { now = now; event = events.Bytes piece; acts = one } ∷ later.0,
      later.1,
      (mid, due ++ passed_on one, steps, awaits_bytes never s.manner s.session piece one due, later.2),
      ap (λ (x : List ℕ). piece ++ x) later.3,
    )

-- the first piece, and the others
first_fed : (piece : List ℕ) (pieces : List (List ℕ)) (s e : KeptSession) (acts : List Action) → AreFed s (piece ∷ pieces) acts e
    → (first : Happening) × (steps : List Happening) × (left : List (ℕ × ℕ)) × Hears never s [] (first ∷ steps) e left × (heard_in (handed (first ∷ steps)) ≡ together (piece ∷ pieces))
first_fed piece pieces s e acts (now, one, rest, mid, is, steps, fed) =
    let later = fed_hears pieces mid e rest (passed_on one) fed in (
      record { now = now; event = events.Bytes piece; acts = one },
      later.0,
      later.1,
      (mid, passed_on one, steps, awaits_bytes never s.manner s.session piece one [], later.2),
      ap (λ (x : List ℕ). piece ++ x) later.3,
    )

pub fed_heard : (s e end : KeptSession) (c : Course) (first piece more rest : List ℕ) (pieces others : List (List ℕ)) (acts given : List Action)
    → s.session.phase ≡ phases.Open c → HoldsBytes s.session.phase → IsBytes (together (first ∷ pieces) ++ more) → together (first ∷ pieces) ++ more ≡ together (piece ∷ others) ++ rest
    → AreFed s (first ∷ pieces) acts e → AreFed s (piece ∷ others) given end → IsFedOut more e.session → IsFedOut rest end.session
    → e.heard ≡ end.heard
fed_heard s e end c first piece more rest pieces others acts given opens holds good cut one other out out' =
    let way = first_fed first pieces s e acts one in
    let way' = first_fed piece others s end given other in
    answers_heard never s e end c way.0 way'.0 way.1 way'.1 more rest way.2 way'.2 opens holds
    (subst (λ (b : List ℕ). IsBytes (b ++ more)) (sym way.4) good)
    (ap (λ (b : List ℕ). b ++ more) way.4 ∙ (cut ∙ ap (λ (b : List ℕ). b ++ rest) (sym way'.4)))
    way.3 way'.3 out out'
