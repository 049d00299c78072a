-- What a session of either manner counts of the bytes that open it and of those after them, however they are cut.
use Rattle.std.proofs.Common.{◌≡◌, ℕ, Bool, List, [], ◌∷◌, ◌++◌, refl, sym, ap, ◌∙◌, subst, inl, inr, append_assoc}
use Rattle.std.proofs.lemmas.List.{append-nil}
use Rattle.peers_msg.specs.Integers.{IsBytes}
use Rattle.peers_msg.proofs.CuttingIndependence.{front_good}
use Rattle.peers_hello.specs.Meetings.{Meeting, Opens, Refuses, Waits}
use Rattle.session_core.specs.declared.action.Action.{Action}
use Rattle.session_core.specs.declared.event.Event.{Event}
use Rattle.session_core.specs.declared.event.Event.TheVariants as events
use Rattle.session_core.specs.declared.heard.Heard.{Heard}
use Rattle.session_core.specs.declared.phase.Greeter.{Greeter}
use Rattle.session_core.specs.declared.phase.Greeter.TheVariants as greeters
use Rattle.session_core.specs.Phases.{Phase}
use Rattle.session_core.specs.Phases as phases
use Rattle.session_core.specs.Courses.{Course}
use Rattle.session_core.specs.HeardCounts.{CountsAfter, CountsEvent, meeting_of}
use Rattle.session_core.specs.Keeping.{KeptSession}
use Rattle.session_core.specs.Sessions.{Goes, GoesIn, SessionState, opening, speaking}
use Rattle.session_core.specs.Runs.{HoldsBytes}
use Rattle.session_core.specs.Happenings.{Happening, handed}
use Rattle.session_core.specs.Cutting.{IsFedOut}
use Rattle.session_core.specs.Hearing.{Awaits, Hears, heard_in}
use Rattle.session_core.proofs.BytesStay.{append_good}
use Rattle.session_core.proofs.EitherHeard.{heard_from, over_hears, then_more}
use Rattle.session_core.proofs.EitherRuns.{hears_as}
use Rattle.session_core.proofs.GreetedHoweverCut.{meeting}
use Rattle.session_core.proofs.GreetingInOrder.{Met, finds, greets_meets, meeting_good}
use Rattle.session_core.proofs.HeardInRuns.{IsHeard, bytes_heard, heard_once, heard_out}
use Rattle.session_core.proofs.ReadersGoOn.{reading_of}
use Rattle.session_core.proofs.SameHoweverFed.{after_good}
use Rattle.session_core.proofs.StandingInOrder.{received_as}

-- what is heard of these bytes, by what they amount to, and where the session then is
abbrev CameHeard : Meeting → Greeter → List ℕ → Course → Heard → Heard → Phase → Type 0
CameHeard (Opens version rest) greeter bytes c n m phase = IsHeard (reading_of c) rest n m phase
CameHeard (Refuses code) greeter bytes c n m phase = (m ≡ n) × (phase ≡ phases.Ended)
CameHeard Waits greeter bytes c n m phase = (m ≡ n) × (phase ≡ phases.Hello greeter bytes c)

-- ---- one event

met_as : (greeter : Greeter) (bytes : List ℕ) → meeting_of greeter bytes ≡ meeting greeter bytes
met_as (greeters.Connects version) bytes = refl
met_as (greeters.Accepts own peers) bytes = refl

one_heard : (m : Meeting) (s : SessionState) (greeter : Greeter) (bytes : List ℕ) (c : Course) (acts : List Action) (e : SessionState) (n k : Heard) → Met m s greeter bytes c acts e → CountsAfter m c n k → CameHeard m greeter bytes c n k e.phase
one_heard (Opens version rest) s greeter bytes c acts e n k (first, silent, sends, receives) counts = bytes_heard (speaking version s) c rest (first ∷ opening version c.shares) acts e n k receives counts
one_heard (Refuses code) s greeter bytes c acts e n k (tells, quiet, ends) same = (same, ap (λ (x : SessionState). x.phase) ends)
one_heard Waits s greeter bytes c acts e n k (nothing, stays) same = (same, ap (λ (x : SessionState). x.phase) stays)

-- ---- events one after another

-- what a session in Hello has heard once these happen, where its first bytes are `bytes`
abbrev HearsInHello : (ℕ → ℕ → Bool) → List Happening → Type 0
HearsInHello settles steps =
    (s e : KeptSession) (greeter : Greeter) (bytes : List ℕ) (c : Course) (due left : List (ℕ × ℕ)) → IsBytes c.intake.unread → IsBytes (bytes ++ heard_in (handed steps)) → s.session.phase ≡ phases.Hello greeter bytes c
    → (steps ≡ [] → meeting greeter bytes ≡ Waits) → Hears settles s due steps e left
    → CameHeard (meeting greeter (bytes ++ heard_in (handed steps))) greeter (bytes ++ heard_in (handed steps)) c s.heard e.heard e.session.phase

-- the first bytes amount to this, and what follows
hello_then : (settles : ℕ → ℕ → Bool) (m : Meeting) (s mid e : KeptSession) (greeter : Greeter) (bytes : List ℕ) (c : Course) (due left : List (ℕ × ℕ)) (steps : List Happening)
    → meeting greeter bytes ≡ m → IsBytes c.intake.unread → IsBytes (bytes ++ heard_in (handed steps)) → CameHeard m greeter bytes c s.heard mid.heard mid.session.phase → HearsInHello settles steps → Hears settles mid due steps e left
    → CameHeard (meeting greeter (bytes ++ heard_in (handed steps))) greeter (bytes ++ heard_in (handed steps)) c s.heard e.heard e.session.phase
hello_then settles (Opens version more) s mid e greeter bytes c due left steps is unread good (ts, y, end, takes, over, counted, left_at) later hears =
    let after : List ℕ = heard_in (handed steps) in
    let good_more : IsBytes (c.intake.unread ++ more) = append_good c.intake.unread more unread (meeting_good greeter version bytes more (front_good bytes after good) is) in
    subst (λ (n : Meeting). CameHeard n greeter (bytes ++ after) c s.heard e.heard e.session.phase) (sym (finds greeter bytes after (Opens version more) is))
    (then_more settles end s mid e (reading_of c) more ts y due left steps good_more (after_good bytes after good) takes over counted left_at (heard_from settles steps) hears)
hello_then settles (Refuses code) s mid e greeter bytes c due left steps is unread good (same, over) later hears =
    let after : List ℕ = heard_in (handed steps) in
    let none = over_hears settles mid e due left steps over hears in
    subst (λ (n : Meeting). CameHeard n greeter (bytes ++ after) c s.heard e.heard e.session.phase) (sym (finds greeter bytes after (Refuses code) is))
    (ap (λ (x : KeptSession). x.heard) none.1 ∙ same, ap (λ (x : KeptSession). x.session.phase) none.1 ∙ over)
hello_then settles Waits s mid e greeter bytes c due left steps is unread good (same, stays) later hears =
    subst (λ (n : Heard). CameHeard (meeting greeter (bytes ++ heard_in (handed steps))) greeter (bytes ++ heard_in (handed steps)) c n e.heard e.session.phase) same
    (later mid e greeter bytes c due left unread good stays (λ none. is) hears)

hello_event : (settles : ℕ → ℕ → Bool) (event : Event) (s mid e : KeptSession) (greeter : Greeter) (bytes : List ℕ) (c : Course) (acts : List Action) (due rest left : List (ℕ × ℕ)) (steps : List Happening)
    → IsBytes c.intake.unread → IsBytes (bytes ++ heard_in ((event, acts) ∷ handed steps)) → s.session.phase ≡ phases.Hello greeter bytes c
    → Goes s.session (received_as event) acts mid.session → Awaits settles s.session (received_as event) acts due rest → CountsEvent event s.session.phase s.heard mid.heard → HearsInHello settles steps → Hears settles mid rest steps e left
    → CameHeard (meeting greeter (bytes ++ heard_in ((event, acts) ∷ handed steps))) greeter (bytes ++ heard_in ((event, acts) ∷ handed steps)) c s.heard e.heard e.session.phase
hello_event settles (events.Bytes piece) s mid e greeter bytes c acts due rest left steps unread good opens goes awaits counts later hears =
    let all : List ℕ = bytes ++ piece in
    let grouped : all ++ heard_in (handed steps) ≡ bytes ++ (piece ++ heard_in (handed steps)) = append_assoc bytes piece (heard_in (handed steps)) in
    let there : GoesIn (phases.Hello greeter bytes c) s.session (events.Bytes piece) acts mid.session = subst (λ (p : Phase). GoesIn p s.session (events.Bytes piece) acts mid.session) opens goes in
    let counted : CountsAfter (meeting_of greeter all) c s.heard mid.heard = subst (λ (p : Phase). CountsEvent (events.Bytes piece) p s.heard mid.heard) opens counts in
    let first = one_heard (meeting greeter all) s.session greeter all c acts mid.session s.heard mid.heard (greets_meets greeter s.session all c acts mid.session there)
    (subst (λ (m : Meeting). CountsAfter m c s.heard mid.heard) (met_as greeter all) counted) in
    subst (λ (b : List ℕ). CameHeard (meeting greeter b) greeter b c s.heard e.heard e.session.phase) grouped
    (hello_then settles (meeting greeter all) s mid e greeter all c rest left steps refl unread (subst IsBytes (sym grouped) good) first later hears)
hello_event settles (events.Settled table settled) s mid e greeter bytes c acts due rest left steps unread good opens goes awaits counts later hears =
    absurd (subst (λ (p : Phase). GoesIn p s.session (received_as (events.Settled table settled)) acts mid.session) opens goes)
hello_event settles (events.Refused table) s mid e greeter bytes c acts due rest left steps unread good opens goes awaits counts later hears =
    absurd (subst (λ (p : Phase). GoesIn p s.session (received_as (events.Refused table)) acts mid.session) opens goes)
hello_event settles events.Turn s mid e greeter bytes c acts due rest left steps unread good opens goes awaits counts later hears = absurd awaits
hello_event settles events.Tick s mid e greeter bytes c acts due rest left steps unread good opens goes awaits counts later hears = absurd awaits
hello_event settles events.Ask s mid e greeter bytes c acts due rest left steps unread good opens goes awaits counts later hears = absurd awaits
hello_event settles events.CaughtUp s mid e greeter bytes c acts due rest left steps unread good opens goes awaits counts later hears = absurd awaits
hello_event settles events.Opened s mid e greeter bytes c acts due rest left steps unread good opens goes awaits counts later hears = absurd awaits
hello_event settles events.End s mid e greeter bytes c acts due rest left steps unread good opens goes awaits counts later hears = absurd awaits
hello_event settles events.ReadFault s mid e greeter bytes c acts due rest left steps unread good opens goes awaits counts later hears = absurd awaits
hello_event settles events.WriteFault s mid e greeter bytes c acts due rest left steps unread good opens goes awaits counts later hears = absurd awaits
hello_event settles (events.Copied table batch) s mid e greeter bytes c acts due rest left steps unread good opens goes awaits counts later hears = absurd awaits
hello_event settles (events.Nothing table) s mid e greeter bytes c acts due rest left steps unread good opens goes awaits counts later hears = absurd awaits
hello_event settles (events.Written known) s mid e greeter bytes c acts due rest left steps unread good opens goes awaits counts later hears = absurd awaits

hello_heard : (settles : ℕ → ℕ → Bool) (steps : List Happening) → HearsInHello settles steps
hello_heard settles [] s e greeter bytes c due left unread good opens waits (here, is) =
    subst (λ (b : List ℕ). CameHeard (meeting greeter b) greeter b c s.heard e.heard e.session.phase) (sym (append-nil bytes))
    (subst (λ (m : Meeting). CameHeard m greeter bytes c s.heard e.heard e.session.phase) (sym (waits refl))
    (ap (λ (x : KeptSession). x.heard) here, ap (λ (x : KeptSession). x.session.phase) here ∙ opens))
hello_heard settles (one ∷ steps) s e greeter bytes c due left unread good opens waits (mid, rest, takes, awaits, again) =
    let step = hears_as settles s.manner one.event s mid due rest one.now one.acts takes.0 awaits in
    hello_event settles one.event s mid e greeter bytes c one.acts due rest left steps unread good opens step.0 step.1 takes.1 (hello_heard settles steps) again

-- ---- two ways to cut

-- with the bytes after the end of the session
came_out : (greeter : Greeter) (bytes more : List ℕ) (c : Course) (m : Meeting) (n k : Heard) (e : SessionState) → IsBytes c.intake.unread → IsBytes bytes → meeting greeter bytes ≡ m → IsFedOut more e
    → CameHeard m greeter bytes c n k e.phase → CameHeard (meeting greeter (bytes ++ more)) greeter (bytes ++ more) c n k e.phase
came_out greeter bytes more c m n k e unread good is (inl none) came =
    let same : bytes ≡ bytes ++ more = sym (ap (λ (x : List ℕ). bytes ++ x) none ∙ append-nil bytes) in
    subst (λ (b : List ℕ). CameHeard (meeting greeter b) greeter b c n k e.phase) same (subst (λ (x : Meeting). CameHeard x greeter bytes c n k e.phase) (sym is) came)
came_out greeter bytes more c (Opens version rest) n k e unread good is (inr ended) came =
    subst (λ (x : Meeting). CameHeard x greeter (bytes ++ more) c n k e.phase) (sym (finds greeter bytes more (Opens version rest) is))
    (heard_out (reading_of c) rest more n k e.phase (append_good c.intake.unread rest unread (meeting_good greeter version bytes rest good is)) (inr ended) came)
came_out greeter bytes more c (Refuses code) n k e unread good is (inr ended) came =
    subst (λ (x : Meeting). CameHeard x greeter (bytes ++ more) c n k e.phase) (sym (finds greeter bytes more (Refuses code) is)) came
came_out greeter bytes more c Waits n k e unread good is (inr ended) (same, stays) =
    let never : phases.Hello greeter bytes c ≡ phases.Ended = sym stays ∙ ended in
    absurd cc

came_once : (m : Meeting) (greeter : Greeter) (bytes : List ℕ) (c : Course) (n k l : Heard) (p q : Phase) → CameHeard m greeter bytes c n k p → CameHeard m greeter bytes c n l q → k ≡ l
came_once (Opens version rest) greeter bytes c n k l p q one other = heard_once (reading_of c) rest n k l p q one other
came_once (Refuses code) greeter bytes c n k l p q one other = one.0 ∙ sym other.0
came_once Waits greeter bytes c n k l p q one other = one.0 ∙ sym other.0

pub greetings_heard : (settles : ℕ → ℕ → Bool) (s e end : KeptSession) (greeter : Greeter) (bytes : List ℕ) (c : Course) (one other : Happening) (steps others : List Happening) (more rest : List ℕ) (left over : List (ℕ × ℕ))
    → s.session.phase ≡ phases.Hello greeter bytes c → HoldsBytes s.session.phase
    → IsBytes (heard_in (handed (one ∷ steps)) ++ more) → heard_in (handed (one ∷ steps)) ++ more ≡ heard_in (handed (other ∷ others)) ++ rest
    → Hears settles s [] (one ∷ steps) e left → Hears settles s [] (other ∷ others) end over → IsFedOut more e.session → IsFedOut rest end.session
    → e.heard ≡ end.heard
greetings_heard settles s e end greeter bytes c one other steps others more rest left over opens holds good cut first again out out' =
    let held : IsBytes bytes × IsBytes c.intake.unread = subst HoldsBytes opens holds in
    let a : List ℕ = heard_in (handed (one ∷ steps)) in
    let b : List ℕ = heard_in (handed (other ∷ others)) in
    let good_a : IsBytes (bytes ++ a) = append_good bytes a held.0 (front_good a more good) in
    let good_b : IsBytes (bytes ++ b) = append_good bytes b held.0 (front_good b rest (subst IsBytes cut good)) in
    let some : (st : Happening) (sts : List Happening) → st ∷ sts ≡ [] → meeting greeter bytes ≡ Waits = λ st sts is. cc in
    let here = came_out greeter (bytes ++ a) more c (meeting greeter (bytes ++ a)) s.heard e.heard e.session held.1 good_a refl out
    (hello_heard settles (one ∷ steps) s e greeter bytes c [] left held.1 good_a opens (some one steps) first) in
    let there = came_out greeter (bytes ++ b) rest c (meeting greeter (bytes ++ b)) s.heard end.heard end.session held.1 good_b refl out'
    (hello_heard settles (other ∷ others) s end greeter bytes c [] over held.1 good_b opens (some other others) again) in
    let all : (bytes ++ b) ++ rest ≡ (bytes ++ a) ++ more = append_assoc bytes b rest ∙ ap (λ (x : List ℕ). bytes ++ x) (sym cut) ∙ sym (append_assoc bytes a more) in
    came_once (meeting greeter ((bytes ++ a) ++ more)) greeter ((bytes ++ a) ++ more) c s.heard e.heard end.heard e.session.phase end.session.phase here
    (subst (λ (x : List ℕ). CameHeard (meeting greeter x) greeter x c s.heard end.heard end.session.phase) all there)
