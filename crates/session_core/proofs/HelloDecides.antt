-- The hello decides which version a session speaks, and whether it falls back.
use Rattle.std.proofs.Common.{◌≡◌, ℕ, Bool, true, false, ◌||◌, List, [], ◌∷◌, ◌++◌, Option, Some, None, Result, Ok, Err, refl, sym, ap, ◌∙◌, subst, append_assoc}
use Rattle.std.proofs.lemmas.List.{append-nil}
use Rattle.table_types.specs.Tables.{Definition}
use Rattle.table_types.specs.declared.copies.Settled.{Settled}
use Rattle.table_types.specs.declared.copies.Settled.TheVariants as settles
use Rattle.table_types.specs.declared.version.Version.{Version}
use Rattle.peers_hello.specs.declared.hello.Hello.{Hello}
use Rattle.peers_hello.specs.Hellos.{answer_of}
use Rattle.peers_hello.specs.Meetings.{Meeting, Opens, Refuses, Waits, by_answer, by_status}
use Rattle.peers_hello.specs.Statuses.{status_of}
use Rattle.session_core.specs.declared.action.Action.{Action}
use Rattle.session_core.specs.declared.event.Event.{Event}
use Rattle.session_core.specs.declared.event.Event.TheVariants as events
use Rattle.session_core.specs.declared.halt.Halt.{Halt}
use Rattle.session_core.specs.declared.halt.Halt.TheVariants as halts
use Rattle.session_core.specs.declared.phase.Greeter.{Greeter}
use Rattle.session_core.specs.declared.phase.Greeter.TheVariants as greeters
use Rattle.session_core.specs.Phases.{Phase}
use Rattle.session_core.specs.Phases as phases
use Rattle.session_core.specs.Courses.{Course, course_fed, table_to_ask, caught_up}
use Rattle.session_core.specs.Sessions.{Concludes, FinishesResync, GoesHello, GoesIn, GoesNew, GoesOpen, HasNothing, ReceivesBytes, SessionState, Settles, StartsPendingResync, Turns, accepting, connecting, opening, speaking}
use Rattle.session_core.specs.Runs.{falls_back_in, version_in}
use Rattle.session_core.specs.Hearing.{bytes_of, heard_in}
use Rattle.session_core.proofs.MachineRuns.{Runs}
use Rattle.session_core.proofs.GreetedHoweverCut.{meeting}
use Rattle.session_core.proofs.GreetingInOrder.{Met, finds, greets_meets, refusal}
use Rattle.session_core.proofs.MessagesInOrder.{or_false}

-- ---- once the hello is done

-- the hello is done, or the session is over
abbrev pub IsDecided : Phase → Type 0
IsDecided (phases.New hello c) = ⊥
IsDecided (phases.Hello greeter bytes c) = ⊥
IsDecided (phases.Open c) = Unit {0}
IsDecided phases.Ended = Unit {0}

-- the session stays as decided
abbrev Stays : SessionState → SessionState → Type 0
Stays s e = (e.version ≡ s.version) × (e.fell_back ≡ s.fell_back) × IsDecided e.phase

stays_at : (s e x : SessionState) → e ≡ x → Stays s x → Stays s e
stays_at s e x is stays = subst (Stays s) (sym is) stays

stays_concluded : (s : SessionState) (c : Course) (how : Result (Unit {0}) Halt) (given acts : List Action) (e : SessionState) → Concludes s c how given acts e → Stays s e
stays_concluded s c (Ok u) given acts e (is, ends) = stays_at s e _ ends (refl, refl, tt)
stays_concluded s c (Err halts.Failed) given acts e (is, ends) = stays_at s e _ ends (refl, refl, tt)
stays_concluded s c (Err (halts.Fault fault)) given acts e (is, ends) = stays_at s e _ ends (refl, refl, tt)
stays_concluded s c (Err halts.Memory) given acts e concludes = absurd concludes

stays_received : (s : SessionState) (c : Course) (first acts : List Action) (e : SessionState) → ReceivesBytes s c first acts e → Stays s e
stays_received s c first acts e (how, given, mid, receives, concludes) = stays_concluded s mid how (first ++ given) acts e concludes

stays_turned : (asked : Option ℕ) (s : SessionState) (c : Course) (acts : List Action) (e : SessionState) → Turns asked s c acts e → Stays s e
stays_turned None s c acts e (is, ends) = stays_at s e _ ends (refl, refl, tt)
stays_turned (Some table) s c acts e (is, ends) = stays_at s e _ ends (refl, refl, tt)

stays_finished : (b : Bool) (s : SessionState) (c : Course) (acts : List Action) (e : SessionState) → FinishesResync b s c acts e → Stays s e
stays_finished true s c acts e (is, ends) = stays_at s e _ ends (refl, refl, tt)
stays_finished false s c acts e (is, ends) = stays_at s e _ ends (refl, refl, tt)

stays_nothing : (b : Bool) (s : SessionState) (c : Course) (table : ℕ) (acts : List Action) (e : SessionState) → HasNothing b s c table acts e → Stays s e
stays_nothing true s c table acts e goes = stays_finished _ s _ acts e goes
stays_nothing false s c table acts e (is, ends) = stays_at s e _ ends (refl, refl, tt)

stays_started : (b : Bool) (s : SessionState) (c : Course) (acts : List Action) (e : SessionState) → StartsPendingResync b s c acts e → Stays s e
stays_started true s c acts e (is, ends) = stays_at s e _ ends (refl, refl, tt)
stays_started false s c acts e (is, ends) = stays_at s e _ ends (refl, refl, tt)

stays_settled : (settled : Settled) (s : SessionState) (c : Course) (table : ℕ) (acts : List Action) (e : SessionState) → Settles settled s c table acts e → Stays s e
stays_settled settles.All s c table acts e goes = stays_started _ s _ acts e goes
stays_settled settles.Some s c table acts e (is, ends) = stays_at s e _ ends (refl, refl, tt)
stays_settled settles.Older s c table acts e (is, ends) = stays_at s e _ ends (refl, refl, tt)

stays_open : (s : SessionState) (c : Course) (event : Event) (acts : List Action) (e : SessionState) → GoesOpen s c event acts e → Stays s e
stays_open s c events.Turn acts e (none, turns) = stays_turned (table_to_ask c) s c acts e turns
stays_open s c events.Tick acts e (none, (is, ends)) = stays_at s e _ ends (refl, refl, tt)
stays_open s c events.Ask acts e (none, (is, ends)) = stays_at s e _ ends (refl, refl, tt)
stays_open s c events.CaughtUp acts e (none, (is, ends)) = stays_at s e _ ends (refl, refl, tt)
stays_open s c (events.Bytes bytes) acts e (none, receives) = stays_received s (course_fed c bytes) [] acts e receives
stays_open s c (events.Copied table batch) acts e (mid, answered, (is, ends)) = stays_at s e _ ends (refl, refl, tt)
stays_open s c (events.Nothing table) acts e (mid, answered, nothing) = stays_nothing mid.teaching s mid table acts e nothing
stays_open s c (events.Written known) acts e (mid, answered, is, ends) = stays_at s e _ ends (refl, refl, tt)
stays_open s c (events.Settled table settled) acts e (mid, answered, goes) = stays_settled settled s mid table acts e goes
stays_open s c (events.Refused table) acts e (mid, answered, is, ends) = stays_at s e _ ends (refl, refl, tt)
stays_open s c events.End acts e (is, ends) = stays_at s e _ ends (refl, refl, tt)
stays_open s c events.ReadFault acts e (is, ends) = stays_at s e _ ends (refl, refl, tt)
stays_open s c events.WriteFault acts e (is, ends) = stays_at s e _ ends (refl, refl, tt)
stays_open s c events.Opened acts e goes = absurd goes

pub stays_in : (phase : Phase) (s : SessionState) (event : Event) (acts : List Action) (e : SessionState) → IsDecided phase → GoesIn phase s event acts e → Stays s e
stays_in (phases.New hello c) s event acts e decided goes = absurd decided
stays_in (phases.Hello greeter bytes c) s event acts e decided goes = absurd decided
stays_in (phases.Open c) s event acts e decided goes = stays_open s c event acts e goes
stays_in phases.Ended s event acts e decided goes = absurd goes

stays_run : (steps : List (Event × List Action)) (s e : SessionState) → IsDecided s.phase → Runs s steps e → (e.version ≡ s.version) × (e.fell_back ≡ s.fell_back)
stays_run [] s e decided here = (ap (λ (x : SessionState). x.version) here, ap (λ (x : SessionState). x.fell_back) here)
stays_run (step ∷ steps) s e decided (mid, goes, runs) =
    let one = stays_in s.phase s step.0 step.1 mid decided goes in
    let rest = stays_run steps mid e one.2 runs in
    (rest.0 ∙ one.0, rest.1 ∙ one.1)

-- after the end nothing is received
none_heard : (steps : List (Event × List Action)) (s e : SessionState) → s.phase ≡ phases.Ended → Runs s steps e → heard_in steps ≡ []
none_heard [] s e over here = refl
none_heard (step ∷ steps) s e over (mid, goes, runs) = absurd (subst (λ (p : Phase). GoesIn p s step.0 step.1 mid) over goes)

-- ---- until then

-- what the first bytes decide
abbrev pub Decides : Greeter → Meeting → SessionState → Type 0
Decides greeter (Opens version rest) e = (e.version ≡ Some version) × (e.fell_back ≡ false)
Decides greeter (Refuses code) e = (e.version ≡ None) × (e.fell_back ≡ refusal greeter code)
Decides greeter Waits e = (e.version ≡ None) × (e.fell_back ≡ false)

-- nothing is decided yet
abbrev pub IsOpen : SessionState → Type 0
IsOpen s = (s.version ≡ None) × (s.fell_back ≡ false)

pub open_at : (s e x : SessionState) → e ≡ x → (x.version ≡ s.version) × (x.fell_back ≡ s.fell_back) → IsOpen s → IsOpen e
open_at s e x is same undecided = (ap (λ (y : SessionState). y.version) is ∙ (same.0 ∙ undecided.0), ap (λ (y : SessionState). y.fell_back) is ∙ (same.1 ∙ undecided.1))

-- What comes after: `heard` is received, and the session `mid` becomes `e`. What is decided stays so, and one that is over receives nothing.
abbrev pub After : SessionState → List ℕ → SessionState → Type 0
After mid heard e = (IsDecided mid.phase → (e.version ≡ mid.version) × (e.fell_back ≡ mid.fell_back)) × (mid.phase ≡ phases.Ended → heard ≡ [])

after_run : (steps : List (Event × List Action)) (mid e : SessionState) → Runs mid steps e → After mid (heard_in steps) e
after_run steps mid e runs = ((λ decided. stays_run steps mid e decided runs), (λ over. none_heard steps mid e over runs))

-- a session that ends undecided
pub cut_off : (greeter : Greeter) (bytes heard : List ℕ) (mid e : SessionState) → meeting greeter bytes ≡ Waits → mid.phase ≡ phases.Ended → IsOpen mid → After mid heard e
    → Decides greeter (meeting greeter (bytes ++ heard)) e
cut_off greeter bytes heard mid e waits over undecided after =
    let all : bytes ++ heard ≡ bytes = ap (λ (more : List ℕ). bytes ++ more) (after.1 over) ∙ append-nil bytes in
    let same = after.0 (subst IsDecided (sym over) tt) in
    subst (λ (m : Meeting). Decides greeter m e) (sym (ap (meeting greeter) all ∙ waits)) (same.0 ∙ undecided.0, same.1 ∙ undecided.1)

-- bytes of a hello or a status, and what follows
decides_first : (greeter : Greeter) (bytes heard : List ℕ) (c : Course) (s mid e : SessionState) (acts : List Action) (m : Meeting)
    → meeting greeter bytes ≡ m → IsOpen s → Met m s greeter bytes c acts mid → After mid heard e
    → (meeting greeter bytes ≡ Waits → mid.phase ≡ phases.Hello greeter bytes c → IsOpen mid → Decides greeter (meeting greeter (bytes ++ heard)) e)
    → Decides greeter (meeting greeter (bytes ++ heard)) e
decides_first greeter bytes heard c s mid e acts (Opens version rest) is undecided (first, silent, sends, receives) after later =
    let one = stays_received (speaking version s) (course_fed c rest) (first ∷ opening version c.shares) acts mid receives in
    let same = after.0 one.2 in
    subst (λ (m : Meeting). Decides greeter m e) (sym (finds greeter bytes heard (Opens version rest) is)) (same.0 ∙ one.0, same.1 ∙ (one.1 ∙ undecided.1))
decides_first greeter bytes heard c s mid e acts (Refuses code) is undecided (tells, quiet, ends) after later =
    let same = after.0 (subst IsDecided (sym (ap (λ (x : SessionState). x.phase) ends)) tt) in
    let falls : mid.fell_back ≡ refusal greeter code =
    ap (λ (x : SessionState). x.fell_back) ends ∙ (ap (λ (b : Bool). refusal greeter code || b) undecided.1 ∙ or_false (refusal greeter code)) in
    subst (λ (m : Meeting). Decides greeter m e) (sym (finds greeter bytes heard (Refuses code) is))
    (same.0 ∙ (ap (λ (x : SessionState). x.version) ends ∙ undecided.0), same.1 ∙ falls)
decides_first greeter bytes heard c s mid e acts Waits is undecided (nothing, stays) after later =
    later is (ap (λ (x : SessionState). x.phase) stays) (open_at s mid _ stays (refl, refl) undecided)

-- a step in Hello, and what follows
pub decides_in_hello : (greeter : Greeter) (bytes heard : List ℕ) (c : Course) (s mid e : SessionState) (event : Event) (acts : List Action)
    → meeting greeter bytes ≡ Waits → IsOpen s → GoesHello s greeter bytes c event acts mid → After mid heard e
    → ((more : List ℕ) (course : Course) → mid.phase ≡ phases.Hello greeter more course → meeting greeter more ≡ Waits → IsOpen mid → Decides greeter (meeting greeter (more ++ heard)) e)
    → Decides greeter (meeting greeter (bytes ++ (bytes_of event ++ heard))) e
decides_in_hello greeter bytes heard c s mid e (events.Bytes piece) acts waits undecided here after again =
    subst (λ (b : List ℕ). Decides greeter (meeting greeter b) e) (append_assoc bytes piece heard)
    (decides_first greeter (bytes ++ piece) heard c s mid e acts (meeting greeter (bytes ++ piece)) refl undecided (greets_meets greeter s (bytes ++ piece) c acts mid here) after
    (λ waits_so stands_so so. again (bytes ++ piece) c stands_so waits_so so))
decides_in_hello greeter bytes heard c s mid e events.Turn acts waits undecided (is, ends) after again = again bytes c (ap (λ (x : SessionState). x.phase) ends) waits (open_at s mid _ ends (refl, refl) undecided)
decides_in_hello greeter bytes heard c s mid e events.Tick acts waits undecided (is, ends) after again = again bytes c (ap (λ (x : SessionState). x.phase) ends) waits (open_at s mid _ ends (refl, refl) undecided)
decides_in_hello greeter bytes heard c s mid e events.Ask acts waits undecided (is, ends) after again = again bytes c (ap (λ (x : SessionState). x.phase) ends) waits (open_at s mid _ ends (refl, refl) undecided)
decides_in_hello greeter bytes heard c s mid e events.CaughtUp acts waits undecided (is, ends) after again = again bytes (caught_up c) (ap (λ (x : SessionState). x.phase) ends) waits (open_at s mid _ ends (refl, refl) undecided)
decides_in_hello greeter bytes heard c s mid e events.End acts waits undecided (is, ends) after again =
    cut_off greeter bytes heard mid e waits (ap (λ (x : SessionState). x.phase) ends) (open_at s mid _ ends (refl, refl) undecided) after
decides_in_hello greeter bytes heard c s mid e events.ReadFault acts waits undecided (is, ends) after again =
    cut_off greeter bytes heard mid e waits (ap (λ (x : SessionState). x.phase) ends) (open_at s mid _ ends (refl, refl) undecided) after
decides_in_hello greeter bytes heard c s mid e events.WriteFault acts waits undecided (is, ends) after again =
    cut_off greeter bytes heard mid e waits (ap (λ (x : SessionState). x.phase) ends) (open_at s mid _ ends (refl, refl) undecided) after
decides_in_hello greeter bytes heard c s mid e events.Opened acts waits undecided here after again = absurd here
decides_in_hello greeter bytes heard c s mid e (events.Copied table batch) acts waits undecided here after again = absurd here
decides_in_hello greeter bytes heard c s mid e (events.Nothing table) acts waits undecided here after again = absurd here
decides_in_hello greeter bytes heard c s mid e (events.Written known) acts waits undecided here after again = absurd here
decides_in_hello greeter bytes heard c s mid e (events.Settled table settled) acts waits undecided here after again = absurd here
decides_in_hello greeter bytes heard c s mid e (events.Refused table) acts waits undecided here after again = absurd here

-- a session in Hello
decides : (steps : List (Event × List Action)) (s e : SessionState) (greeter : Greeter) (bytes : List ℕ) (c : Course)
    → s.phase ≡ phases.Hello greeter bytes c → meeting greeter bytes ≡ Waits → IsOpen s → Runs s steps e → Decides greeter (meeting greeter (bytes ++ heard_in steps)) e
decides [] s e greeter bytes c stands waits undecided here =
    subst (λ (m : Meeting). Decides greeter m e) (sym (ap (meeting greeter) (append-nil bytes) ∙ waits)) (open_at s e s here (refl, refl) undecided)
decides ((event, acts) ∷ steps) s e greeter bytes c stands waits undecided (mid, goes, runs) =
    decides_in_hello greeter bytes (heard_in steps) c s mid e event acts waits undecided (subst (λ (p : Phase). GoesIn p s event acts mid) stands goes) (after_run steps mid e runs)
    (λ more course stands_so waits_so so. decides steps mid e greeter more course stands_so waits_so so runs)

-- a step in New, and what follows
pub decides_in_new : (hello : Hello) (heard : List ℕ) (c : Course) (s mid e : SessionState) (event : Event) (acts : List Action)
    → IsOpen s → GoesNew s hello c event acts mid → After mid heard e
    → (mid.phase ≡ phases.Hello (greeters.Connects hello.version) [] c → IsOpen mid → Decides (greeters.Connects hello.version) (meeting (greeters.Connects hello.version) heard) e)
    → ((course : Course) → mid.phase ≡ phases.New hello course → IsOpen mid → Decides (greeters.Connects hello.version) (meeting (greeters.Connects hello.version) heard) e)
    → Decides (greeters.Connects hello.version) (meeting (greeters.Connects hello.version) (bytes_of event ++ heard)) e
decides_in_new hello heard c s mid e events.Opened acts undecided (is, ends) after opened again = opened (ap (λ (x : SessionState). x.phase) ends) (open_at s mid _ ends (refl, refl) undecided)
decides_in_new hello heard c s mid e events.Turn acts undecided (is, ends) after opened again = again c (ap (λ (x : SessionState). x.phase) ends) (open_at s mid _ ends (refl, refl) undecided)
decides_in_new hello heard c s mid e events.Tick acts undecided (is, ends) after opened again = again c (ap (λ (x : SessionState). x.phase) ends) (open_at s mid _ ends (refl, refl) undecided)
decides_in_new hello heard c s mid e events.Ask acts undecided (is, ends) after opened again = again c (ap (λ (x : SessionState). x.phase) ends) (open_at s mid _ ends (refl, refl) undecided)
decides_in_new hello heard c s mid e events.CaughtUp acts undecided (is, ends) after opened again = again (caught_up c) (ap (λ (x : SessionState). x.phase) ends) (open_at s mid _ ends (refl, refl) undecided)
decides_in_new hello heard c s mid e events.End acts undecided (is, ends) after opened again =
    cut_off (greeters.Connects hello.version) [] heard mid e refl (ap (λ (x : SessionState). x.phase) ends) (open_at s mid _ ends (refl, refl) undecided) after
decides_in_new hello heard c s mid e events.ReadFault acts undecided (is, ends) after opened again =
    cut_off (greeters.Connects hello.version) [] heard mid e refl (ap (λ (x : SessionState). x.phase) ends) (open_at s mid _ ends (refl, refl) undecided) after
decides_in_new hello heard c s mid e events.WriteFault acts undecided (is, ends) after opened again =
    cut_off (greeters.Connects hello.version) [] heard mid e refl (ap (λ (x : SessionState). x.phase) ends) (open_at s mid _ ends (refl, refl) undecided) after
decides_in_new hello heard c s mid e (events.Bytes bytes) acts undecided here after opened again = absurd here
decides_in_new hello heard c s mid e (events.Copied table batch) acts undecided here after opened again = absurd here
decides_in_new hello heard c s mid e (events.Nothing table) acts undecided here after opened again = absurd here
decides_in_new hello heard c s mid e (events.Written known) acts undecided here after opened again = absurd here
decides_in_new hello heard c s mid e (events.Settled table settled) acts undecided here after opened again = absurd here
decides_in_new hello heard c s mid e (events.Refused table) acts undecided here after opened again = absurd here

-- a session in New
decides_new : (steps : List (Event × List Action)) (s e : SessionState) (hello : Hello) (c : Course)
    → s.phase ≡ phases.New hello c → IsOpen s → Runs s steps e → Decides (greeters.Connects hello.version) (meeting (greeters.Connects hello.version) (heard_in steps)) e
decides_new [] s e hello c stands undecided here = open_at s e s here (refl, refl) undecided
decides_new ((event, acts) ∷ steps) s e hello c stands undecided (mid, goes, runs) =
    decides_in_new hello (heard_in steps) c s mid e event acts undecided (subst (λ (p : Phase). GoesIn p s event acts mid) stands goes) (after_run steps mid e runs)
    (λ stands_so so. decides steps mid e (greeters.Connects hello.version) [] c stands_so refl so runs)
    (λ course stands_so so. decides_new steps mid e hello course stands_so so runs)

-- ---- the law

pub connected_so : (version : Version) (m : Meeting) (e : SessionState) → Decides (greeters.Connects version) m e → (e.version ≡ version_in m) × (e.fell_back ≡ falls_back_in version m)
connected_so version (Opens other rest) e decided = decided
connected_so version (Refuses (Some code)) e decided = decided
connected_so version (Refuses None) e decided = decided
connected_so version Waits e decided = decided

pub accepted_so : (own : List ℕ) (peers : List (List ℕ)) (m : Meeting) (e : SessionState) → Decides (greeters.Accepts own peers) m e → (e.version ≡ version_in m) × (e.fell_back ≡ false)
accepted_so own peers (Opens other rest) e decided = decided
accepted_so own peers (Refuses code) e decided = decided
accepted_so own peers Waits e decided = decided

pub decided_by_status : (hello : Hello) (roster : List Definition) (up_to_date : Bool) (s : SessionState) (steps : List (Event × List Action)) → Runs (connecting hello roster up_to_date) steps s
    → (s.version ≡ version_in (by_status hello.version (status_of (heard_in steps)) (heard_in steps)))
    × (s.fell_back ≡ falls_back_in hello.version (by_status hello.version (status_of (heard_in steps)) (heard_in steps)))
decided_by_status hello roster up_to_date s steps runs =
    connected_so hello.version (meeting (greeters.Connects hello.version) (heard_in steps)) s (decides_new steps (connecting hello roster up_to_date) s hello _ refl (refl, refl) runs)

pub decided_by_answer : (own : List ℕ) (peers : List (List ℕ)) (roster : List Definition) (up_to_date : Bool) (s : SessionState) (steps : List (Event × List Action))
    → Runs (accepting own peers roster up_to_date) steps s
    → (s.version ≡ version_in (by_answer (answer_of own peers (heard_in steps)) (heard_in steps))) × (s.fell_back ≡ false)
decided_by_answer own peers roster up_to_date s steps runs =
    accepted_so own peers (meeting (greeters.Accepts own peers) (heard_in steps)) s
    (decides steps (accepting own peers roster up_to_date) s (greeters.Accepts own peers) [] _ refl refl (refl, refl) runs)
