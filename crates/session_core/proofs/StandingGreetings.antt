-- What holds of the version, the confirmation and the fault of a session that stays, as it does of a plain one.
use Rattle.std.proofs.Common.{◌≡◌, ◌⊎◌, ℕ, Bool, false, ◌||◌, List, [], ◌∷◌, ◌++◌, None, refl, sym, ap, ◌∙◌, subst, inl, inr}
use Rattle.std.proofs.lemmas.List.{append-nil}
use Rattle.table_types.specs.Tables.{Definition}
use Rattle.peers_hello.specs.declared.hello.Hello.{Hello}
use Rattle.peers_hello.specs.Hellos.{answer_of}
use Rattle.peers_hello.specs.Meetings.{Meeting, Waits, by_answer, by_status}
use Rattle.peers_hello.specs.Statuses.{status_of}
use Rattle.session_core.specs.declared.event.Event.{Event}
use Rattle.session_core.specs.declared.event.Event.TheVariants as events
use Rattle.session_core.specs.declared.phase.Greeter.{Greeter}
use Rattle.session_core.specs.declared.phase.Greeter.TheVariants as greeters
use Rattle.session_core.specs.Phases.{Phase}
use Rattle.session_core.specs.Phases as phases
use Rattle.session_core.specs.Actions.{confirms}
use Rattle.session_core.specs.Courses.{Course}
use Rattle.session_core.specs.Sessions.{SessionState, GoesIn, accepting, connecting}
use Rattle.session_core.specs.Runs.{falls_back_in, version_in, was_confirmed}
use Rattle.session_core.specs.Hearing.{bytes_of, heard_in}
use Rattle.session_core.specs.Standing.{StandingState, changed, stays_from}
use Rattle.session_core.specs.Happenings.{Happening, handed}
use Rattle.session_core.proofs.MachineRuns.{Lasts, BeginsToStay}
use Rattle.session_core.proofs.ConfirmedLaws.{IsSaid, begins_unsaid, or_group, or_none, said_in}
use Rattle.session_core.proofs.FaultLaws.{IsFaultless, begins_unfaulted, ended_stays, unfaulted_in}
use Rattle.session_core.proofs.GreetedHoweverCut.{meeting}
use Rattle.session_core.proofs.HelloDecides.{After, Decides, IsDecided, IsOpen, accepted_so, connected_so, cut_off, decides_in_hello, decides_in_new, open_at, stays_in}
use Rattle.session_core.proofs.StandingMoves.{IsOnward, Moves, happens_moves, heard_by, heard_more}

-- ---- confirmations

said_moves : (s : SessionState) (one : Happening) (e : SessionState) → Moves s one e → IsSaid s one.acts e
said_moves s one e (inl (event, acts, goes, same, heard)) = said_in s.phase s event acts e goes ∙ ap (λ (b : Bool). s.confirmed || b) (sym same)
said_moves s one e (inr (alike, onward, quiet, heard)) = alike.1 ∙ (or_none s.confirmed ∙ ap (λ (b : Bool). s.confirmed || b) (sym quiet))

said_lasts : (steps : List Happening) (s e : StandingState) → Lasts s steps e → e.session.confirmed ≡ (s.session.confirmed || was_confirmed (handed steps))
said_lasts [] s e here = ap (λ (x : StandingState). x.session.confirmed) here ∙ or_none s.session.confirmed
said_lasts (one ∷ steps) s e (mid, happens, lasts) =
    said_lasts steps mid e lasts
    ∙ (ap (λ (b : Bool). b || was_confirmed (handed steps)) (said_moves s.session one mid.session (happens_moves one s mid happens))
    ∙ or_group s.session.confirmed (confirms one.acts) (was_confirmed (handed steps)))

pub sent_while_staying : (roster : List Definition) (begun s : StandingState) (steps : List Happening) → BeginsToStay roster begun → Lasts begun steps s → s.session.confirmed ≡ was_confirmed (handed steps)
sent_while_staying roster begun s steps (first, now, begins, is) lasts =
    let none : begun.session.confirmed ≡ false = ap (λ (x : StandingState). x.session.confirmed) is ∙ begins_unsaid roster first begins in
    said_lasts steps begun s lasts ∙ ap (λ (b : Bool). b || was_confirmed (handed steps)) none

-- ---- faults

-- one that is over stays over
over_onward : (p q : Phase) → p ≡ phases.Ended → IsOnward p q → q ≡ phases.Ended
over_onward p q over (inl ends) = ends
over_onward p q over (inr (change, is)) = is ∙ ap (changed change) over

unfaulted_moves : (s : SessionState) (one : Happening) (e : SessionState) → IsFaultless s → Moves s one e → IsFaultless e
unfaulted_moves s one e (inl over) (inl (event, acts, goes, same, heard)) = absurd (ended_stays s.phase s event acts e over goes)
unfaulted_moves s one e (inr none) (inl (event, acts, goes, same, heard)) = unfaulted_in s.phase s event acts e goes none
unfaulted_moves s one e (inl over) (inr (alike, onward, quiet, heard)) = inl (over_onward s.phase e.phase over onward)
unfaulted_moves s one e (inr none) (inr (alike, onward, quiet, heard)) = inr (alike.0 ∙ none)

unfaulted_lasts : (steps : List Happening) (s e : StandingState) → IsFaultless s.session → Lasts s steps e → IsFaultless e.session
unfaulted_lasts [] s e before here = subst (λ (x : StandingState). IsFaultless x.session) (sym here) before
unfaulted_lasts (one ∷ steps) s e before (mid, happens, lasts) = unfaulted_lasts steps mid e (unfaulted_moves s.session one mid.session before (happens_moves one s mid happens)) lasts

-- what begins to stay is changed in its course alone
stays_unfaulted : (s : SessionState) (now : ℕ) → IsFaultless s → IsFaultless (stays_from now s).session
stays_unfaulted s now (inl over) = inl (ap (changed _) over)
stays_unfaulted s now (inr none) = inr none

pub faultless_while_staying : (roster : List Definition) (begun s : StandingState) (steps : List Happening) → BeginsToStay roster begun → Lasts begun steps s → (s.session.phase ≡ phases.Ended) ⊎ (s.session.fault ≡ None)
faultless_while_staying roster begun s steps (first, now, begins, is) lasts =
    let before : IsFaultless begun.session = subst (λ (x : StandingState). IsFaultless x.session) (sym is) (stays_unfaulted first now (begins_unfaulted roster first begins)) in
    unfaulted_lasts steps begun s before lasts

-- ---- the hello

decided_changed : (change : Course → Course) (p : Phase) → IsDecided p → IsDecided (changed change p)
decided_changed change (phases.New hello c) decided = decided
decided_changed change (phases.Hello greeter bytes c) decided = decided
decided_changed change (phases.Open c) decided = decided
decided_changed change phases.Ended decided = decided

decided_onward : (p q : Phase) → IsDecided p → IsOnward p q → IsDecided q
decided_onward p q decided (inl ends) = subst IsDecided (sym ends) tt
decided_onward p q decided (inr (change, is)) = subst IsDecided (sym is) (decided_changed change p decided)

decided_moves : (s : SessionState) (one : Happening) (e : SessionState) → IsDecided s.phase → Moves s one e → (e.version ≡ s.version) × (e.fell_back ≡ s.fell_back) × IsDecided e.phase
decided_moves s one e decided (inl (event, acts, goes, same, heard)) = stays_in s.phase s event acts e decided goes
decided_moves s one e decided (inr (alike, onward, quiet, heard)) = (alike.2, alike.3, decided_onward s.phase e.phase decided onward)

decided_lasts : (steps : List Happening) (s e : StandingState) → IsDecided s.session.phase → Lasts s steps e → (e.session.version ≡ s.session.version) × (e.session.fell_back ≡ s.session.fell_back)
decided_lasts [] s e decided here = (ap (λ (x : StandingState). x.session.version) here, ap (λ (x : StandingState). x.session.fell_back) here)
decided_lasts (one ∷ steps) s e decided (mid, happens, lasts) =
    let first = decided_moves s.session one mid.session decided (happens_moves one s mid happens) in
    let rest = decided_lasts steps mid e first.2 lasts in
    (rest.0 ∙ first.0, rest.1 ∙ first.1)

-- after the end nothing is received
over_moves : (s : SessionState) (one : Happening) (e : SessionState) → s.phase ≡ phases.Ended → Moves s one e → (e.phase ≡ phases.Ended) × (heard_by one ≡ [])
over_moves s one e over (inl (event, acts, goes, same, heard)) = absurd (subst (λ (p : Phase). GoesIn p s event acts e) over goes)
over_moves s one e over (inr (alike, onward, quiet, heard)) = (over_onward s.phase e.phase over onward, heard)

none_heard : (steps : List Happening) (s e : StandingState) → s.session.phase ≡ phases.Ended → Lasts s steps e → heard_in (handed steps) ≡ []
none_heard [] s e over here = refl
none_heard (one ∷ steps) s e over (mid, happens, lasts) =
    let first = over_moves s.session one mid.session over (happens_moves one s mid happens) in
    heard_more one steps ∙ (ap (λ (l : List ℕ). l ++ heard_in (handed steps)) first.1 ∙ none_heard steps mid e first.0 lasts)

after_lasts : (steps : List Happening) (mid e : StandingState) → Lasts mid steps e → After mid.session (heard_in (handed steps)) e.session
after_lasts steps mid e lasts = ((λ decided. decided_lasts steps mid e decided lasts), (λ over. none_heard steps mid e over lasts))

-- what is received in one step, and after it
heard_then : (one : Happening) (steps : List Happening) (event : Event) → heard_by one ≡ bytes_of event → bytes_of event ++ heard_in (handed steps) ≡ heard_in (handed (one ∷ steps))
heard_then one steps event same = sym (heard_more one steps ∙ ap (λ (l : List ℕ). l ++ heard_in (handed steps)) same)

-- a session in Hello
decides : (steps : List Happening) (s e : StandingState) (greeter : Greeter) (bytes : List ℕ) (c : Course)
    → s.session.phase ≡ phases.Hello greeter bytes c → meeting greeter bytes ≡ Waits → IsOpen s.session → Lasts s steps e
    → Decides greeter (meeting greeter (bytes ++ heard_in (handed steps))) e.session
decides [] s e greeter bytes c stands waits undecided here =
    subst (λ (m : Meeting). Decides greeter m e.session) (sym (ap (meeting greeter) (append-nil bytes) ∙ waits))
    (open_at s.session e.session s.session (ap (λ (x : StandingState). x.session) here) (refl, refl) undecided)
decides (one ∷ steps) s e greeter bytes c stands waits undecided (mid, happens, lasts) =
    by (λ more course stands_so waits_so so. decides steps mid e greeter more course stands_so waits_so so lasts) (happens_moves one s mid happens)
  where
    by : ((more : List ℕ) (course : Course) → mid.session.phase ≡ phases.Hello greeter more course → meeting greeter more ≡ Waits → IsOpen mid.session → Decides greeter (meeting greeter (more ++ heard_in (handed steps))) e.session)
        → Moves s.session one mid.session → Decides greeter (meeting greeter (bytes ++ heard_in (handed (one ∷ steps)))) e.session
    by again (inl (event, acts, goes, same, heard)) =
        subst (λ (l : List ℕ). Decides greeter (meeting greeter (bytes ++ l)) e.session) (heard_then one steps event heard)
        (decides_in_hello greeter bytes (heard_in (handed steps)) c s.session mid.session e.session event acts waits undecided
        (subst (λ (p : Phase). GoesIn p s.session event acts mid.session) stands goes) (after_lasts steps mid e lasts)
        (λ more course stands_so waits_so so. again more course stands_so waits_so so))
    by again (inr (alike, inl over, quiet, heard)) =
        subst (λ (l : List ℕ). Decides greeter (meeting greeter (bytes ++ l)) e.session) (heard_then one steps events.Turn heard)
        (cut_off greeter bytes (heard_in (handed steps)) mid.session e.session waits over (alike.2 ∙ undecided.0, alike.3 ∙ undecided.1) (after_lasts steps mid e lasts))
    by again (inr (alike, inr (change, is), quiet, heard)) =
        subst (λ (l : List ℕ). Decides greeter (meeting greeter (bytes ++ l)) e.session) (heard_then one steps events.Turn heard)
        (again bytes (change c) (is ∙ ap (changed change) stands) waits (alike.2 ∙ undecided.0, alike.3 ∙ undecided.1))

-- a session in New
decides_new : (steps : List Happening) (s e : StandingState) (hello : Hello) (c : Course)
    → s.session.phase ≡ phases.New hello c → IsOpen s.session → Lasts s steps e
    → Decides (greeters.Connects hello.version) (meeting (greeters.Connects hello.version) (heard_in (handed steps))) e.session
decides_new [] s e hello c stands undecided here = open_at s.session e.session s.session (ap (λ (x : StandingState). x.session) here) (refl, refl) undecided
decides_new (one ∷ steps) s e hello c stands undecided (mid, happens, lasts) =
    by (λ course stands_so so. decides_new steps mid e hello course stands_so so lasts) (happens_moves one s mid happens)
  where
    greeter : Greeter
    greeter = greeters.Connects hello.version

    by : ((course : Course) → mid.session.phase ≡ phases.New hello course → IsOpen mid.session → Decides greeter (meeting greeter (heard_in (handed steps))) e.session)
        → Moves s.session one mid.session → Decides greeter (meeting greeter (heard_in (handed (one ∷ steps)))) e.session
    by again (inl (event, acts, goes, same, heard)) =
        subst (λ (l : List ℕ). Decides greeter (meeting greeter l) e.session) (heard_then one steps event heard)
        (decides_in_new hello (heard_in (handed steps)) c s.session mid.session e.session event acts undecided
        (subst (λ (p : Phase). GoesIn p s.session event acts mid.session) stands goes) (after_lasts steps mid e lasts)
        (λ stands_so so. decides steps mid e greeter [] c stands_so refl so lasts)
        (λ course stands_so so. again course stands_so so))
    by again (inr (alike, inl over, quiet, heard)) =
        subst (λ (l : List ℕ). Decides greeter (meeting greeter l) e.session) (heard_then one steps events.Turn heard)
        (cut_off greeter [] (heard_in (handed steps)) mid.session e.session refl over (alike.2 ∙ undecided.0, alike.3 ∙ undecided.1) (after_lasts steps mid e lasts))
    by again (inr (alike, inr (change, is), quiet, heard)) =
        subst (λ (l : List ℕ). Decides greeter (meeting greeter l) e.session) (heard_then one steps events.Turn heard)
        (again (change c) (is ∙ ap (changed change) stands) (alike.2 ∙ undecided.0, alike.3 ∙ undecided.1))

pub decided_by_status_while_staying : (hello : Hello) (roster : List Definition) (up_to_date : Bool) (now : ℕ) (s : StandingState) (steps : List Happening)
    → Lasts (stays_from now (connecting hello roster up_to_date)) steps s
    → (s.session.version ≡ version_in (by_status hello.version (status_of (heard_in (handed steps))) (heard_in (handed steps))))
    × (s.session.fell_back ≡ falls_back_in hello.version (by_status hello.version (status_of (heard_in (handed steps))) (heard_in (handed steps))))
decided_by_status_while_staying hello roster up_to_date now s steps lasts =
    connected_so hello.version (meeting (greeters.Connects hello.version) (heard_in (handed steps))) s.session
    (decides_new steps (stays_from now (connecting hello roster up_to_date)) s hello _ refl (refl, refl) lasts)

pub decided_by_answer_while_staying : (own : List ℕ) (peers : List (List ℕ)) (roster : List Definition) (up_to_date : Bool) (now : ℕ) (s : StandingState) (steps : List Happening)
    → Lasts (stays_from now (accepting own peers roster up_to_date)) steps s
    → (s.session.version ≡ version_in (by_answer (answer_of own peers (heard_in (handed steps))) (heard_in (handed steps)))) × (s.session.fell_back ≡ false)
decided_by_answer_while_staying own peers roster up_to_date now s steps lasts =
    accepted_so own peers (meeting (greeters.Accepts own peers) (heard_in (handed steps))) s.session
    (decides steps (stays_from now (accepting own peers roster up_to_date)) s (greeters.Accepts own peers) [] _ refl refl (refl, refl) lasts)
