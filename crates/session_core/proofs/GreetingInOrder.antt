-- What a session tells of the bytes that open it and of those after them, however they are cut.
use Rattle.std.proofs.Common.{◌≡◌, inl, inr, ℕ, Bool, true, false, ◌==◌, ◌||◌, List, [], ◌∷◌, ◌++◌, Option, Some, None, refl, sym, ap, ◌∙◌, subst, append_assoc}
use Rattle.std.specs.Prelude.{drop}
use Rattle.std.specs.List.{list_any}
use Rattle.std.specs.Fmt.{decimal}
use Rattle.std.proofs.lemmas.Bool.{false≢true}
use Rattle.std.proofs.lemmas.List.{append-nil}
use Rattle.table_types.specs.declared.version.Version.{Version}
use Rattle.table_types.specs.declared.version.Version.TheVariants as versions
use Rattle.peers_msg.specs.Integers.{IsBytes}
use Rattle.peers_msg.specs.declared.control.Control.TheVariants as controls
use Rattle.peers_msg.proofs.CuttingIndependence.{front_good}
use Rattle.peers_msg.proofs.FieldCanonical.{IsBytes-drop}
use Rattle.peers_hello.specs.declared.hello.Answer.{Answer}
use Rattle.peers_hello.specs.declared.hello.Answer.TheVariants as answers
use Rattle.peers_hello.specs.declared.status.Status.{Status}
use Rattle.peers_hello.specs.declared.status.Status.TheVariants as statuses
use Rattle.peers_hello.specs.Hellos.{answer_of}
use Rattle.peers_hello.specs.Statuses.{status_of}
use Rattle.session_core.specs.declared.action.Action.{Action}
use Rattle.session_core.specs.declared.action.Action.TheVariants as actions
use Rattle.session_core.specs.declared.due.Due.{Due}
use Rattle.session_core.specs.declared.event.Event.{Event}
use Rattle.session_core.specs.declared.event.Event.TheVariants as events
use Rattle.session_core.specs.declared.phase.Greeter.{Greeter}
use Rattle.session_core.specs.declared.phase.Greeter.TheVariants as greeters
use Rattle.session_core.specs.declared.share.Share.{Share}
use Rattle.session_core.specs.Phases.{Phase}
use Rattle.session_core.specs.Phases as phases
use Rattle.session_core.specs.Actions.{confirms, sends_control, status_text}
use Rattle.session_core.specs.Courses.{Course, course_fed}
use Rattle.session_core.specs.Sessions.{Accepts, BecomesReady, Connects, GoesIn, Greets, IsWelcomed, ReceivesBytes, SessionState, ended, falling_back, falls_back, first_word, in_phase, opening, speaking}
use Rattle.session_core.specs.Runs.{HoldsBytes}
use Rattle.session_core.specs.Standing.{is_open, is_reopen}
use Rattle.session_core.specs.Cutting.{IsFedOut}
use Rattle.session_core.specs.Hearing.{asked_in, heard_in, passed_on, without_late}
use Rattle.session_core.proofs.MachineRuns.{Hears}
use Rattle.session_core.proofs.AnswersInOrder.{Sharing, fits_first, requested_in}
use Rattle.session_core.proofs.EndLemmas.{no_control}
use Rattle.peers_hello.specs.Meetings.{Meeting, Opens, Refuses, Stays, Waits, by_answer, by_status, opens_if}
use Rattle.session_core.proofs.GreetedHoweverCut.{meeting, meeting_stays}
use Rattle.session_core.proofs.HeardHoweverCut.{AreAlike, Comes, come_alike, confirmed_same, follows_all, none_follow, out_comes, piece_comes, says_nothing, sharing_of}
use Rattle.session_core.proofs.BytesStay.{append_good}
use Rattle.session_core.proofs.ReadersGoOn.{fed, reading_of}
use Rattle.session_core.proofs.MessagesInOrder.{course_of, passed_reopens, plain, plain_reopens}
use Rattle.session_core.proofs.SameHoweverFed.{after_good}

-- ---- one event

-- whether a session falls back that is refused with this code, if there is one
abbrev pub refusal : Greeter → Option ℕ → Bool
refusal (greeters.Connects version) (Some code) = falls_back version code
refusal (greeters.Connects version) None = false
refusal (greeters.Accepts own peers) code = false

-- what follows, by what the bytes amount to
abbrev pub Met : Meeting → SessionState → Greeter → List ℕ → Course → List Action → SessionState → Type 0
Met (Opens version rest) s greeter bytes c acts e =
    (first : Action) × says_nothing (first ∷ opening version c.shares) × (is_reopen first ≡ false) × BecomesReady version first s c rest acts e
Met (Refuses code) s greeter bytes c acts e = (plain acts ≡ actions.Close ∷ []) × (confirms acts ≡ false) × (e ≡ ended (falling_back (refusal greeter code) s))
Met Waits s greeter bytes c acts e = (acts ≡ []) × (e ≡ in_phase s (phases.Hello greeter bytes c))

-- what a version adds says nothing
opening_plain : (version : Version) (ss : List Share) → plain (opening version ss) ≡ []
opening_plain versions.V20 ss = plain_reopens ss
opening_plain versions.V21 ss = refl

opening_passed : (version : Version) (ss : List Share) → passed_on (opening version ss) ≡ []
opening_passed versions.V20 ss = passed_reopens ss
opening_passed versions.V21 ss = refl

-- nor does the first message of a session that connects
word_says : (stays : Bool) (version : Version) (ss : List Share) → says_nothing (sends_control (first_word stays) ∷ opening version ss)
word_says false version ss = (opening_plain version ss, opening_passed version ss)
word_says true version ss = (opening_plain version ss, opening_passed version ss)

welcomed_meets : (b : Bool) (version : Version) (code : ℕ) (s : SessionState) (bytes : List ℕ) (c : Course) (rest : List ℕ) (acts : List Action) (e : SessionState) → IsWelcomed b version code s c rest acts e → Met (opens_if b version code rest) s (greeters.Connects version) bytes c acts e
welcomed_meets true version code s bytes c rest acts e receives = (sends_control (first_word c.stays), word_says c.stays version c.shares, refl, receives)
welcomed_meets false version code s bytes c rest acts e (is, ends) = (ap plain is, ap confirms is, ends)

connects_meets : (version : Version) (status : Status) (s : SessionState) (bytes : List ℕ) (c : Course) (acts : List Action) (e : SessionState) → Connects version status s bytes c acts e → Met (by_status version status bytes) s (greeters.Connects version) bytes c acts e
connects_meets version statuses.More s bytes c acts e goes = goes
connects_meets version (statuses.Code code used) s bytes c acts e goes = welcomed_meets (code == 200) version code s bytes c (drop used bytes) acts e goes
connects_meets version (statuses.Other used) s bytes c acts e (is, ends) = (ap plain is, ap confirms is, ends)

-- a status line confirms nothing
plain_status : (code : ℕ) (acts : List Action) → plain (actions.Send (status_text code) ∷ acts) ≡ plain acts
plain_status code acts = rw (no_control (decimal code) controls.ResyncConfirmed) refl

status_confirms : (code : ℕ) (acts : List Action) → confirms (actions.Send (status_text code) ∷ acts) ≡ confirms acts
status_confirms code acts = rw (no_control (decimal code) controls.ResyncConfirmed) refl

accepts_meets : (answer : Answer) (s : SessionState) (own : List ℕ) (peers : List (List ℕ)) (bytes : List ℕ) (c : Course) (acts : List Action) (e : SessionState)
    → Accepts answer s (greeters.Accepts own peers) bytes c acts e → Met (by_answer answer bytes) s (greeters.Accepts own peers) bytes c acts e
accepts_meets answers.More s own peers bytes c acts e goes = goes
accepts_meets (answers.Accepted name version used) s own peers bytes c acts e receives =
    (actions.Send (status_text 200), (plain_status 200 (opening version c.shares) ∙ opening_plain version c.shares, opening_passed version c.shares), refl, receives)
accepts_meets (answers.Refused code used) s own peers bytes c acts e (is, ends) =
    (ap plain is ∙ plain_status code (actions.Close ∷ []), ap confirms is ∙ status_confirms code (actions.Close ∷ []), ends)

pub greets_meets : (greeter : Greeter) (s : SessionState) (bytes : List ℕ) (c : Course) (acts : List Action) (e : SessionState) → Greets s greeter bytes c acts e → Met (meeting greeter bytes) s greeter bytes c acts e
greets_meets (greeters.Connects version) s bytes c acts e goes = connects_meets version (status_of bytes) s bytes c acts e goes
greets_meets (greeters.Accepts own peers) s bytes c acts e goes = accepts_meets (answer_of own peers bytes) s own peers bytes c acts e goes

-- ---- the bytes after them

opened_rest : (version other : Version) (rest more : List ℕ) → Opens version rest ≡ Opens other more → rest ≡ more
opened_rest version other rest more same = cc

opens_good : (b : Bool) (version other : Version) (code used : ℕ) (bytes rest : List ℕ) → IsBytes bytes → opens_if b version code (drop used bytes) ≡ Opens other rest → IsBytes rest
opens_good true version other code used bytes rest good is = subst IsBytes (opened_rest version other (drop used bytes) rest is) (IsBytes-drop used bytes good)
opens_good false version other code used bytes rest good is = cc

status_good : (version other : Version) (status : Status) (bytes rest : List ℕ) → IsBytes bytes → by_status version status bytes ≡ Opens other rest → IsBytes rest
status_good version other statuses.More bytes rest good is = cc
status_good version other (statuses.Code code used) bytes rest good is = opens_good (code == 200) version other code used bytes rest good is
status_good version other (statuses.Other used) bytes rest good is = cc

answer_good : (answer : Answer) (other : Version) (bytes rest : List ℕ) → IsBytes bytes → by_answer answer bytes ≡ Opens other rest → IsBytes rest
answer_good answers.More other bytes rest good is = cc
answer_good (answers.Accepted name version used) other bytes rest good is = subst IsBytes (opened_rest version other (drop used bytes) rest is) (IsBytes-drop used bytes good)
answer_good (answers.Refused code used) other bytes rest good is = cc

pub meeting_good : (greeter : Greeter) (version : Version) (bytes rest : List ℕ) → IsBytes bytes → meeting greeter bytes ≡ Opens version rest → IsBytes rest
meeting_good (greeters.Connects said) version bytes rest good is = status_good said version (status_of bytes) bytes rest good is
meeting_good (greeters.Accepts own peers) version bytes rest good is = answer_good (answer_of own peers bytes) version bytes rest good is

-- ---- events one after another

-- what a session shares on becoming Ready with this version
abbrev opened_with : Version → Course → Sharing
opened_with version c = record (sharing_of c) { reopened = list_any is_reopen (opening version c.shares) }

-- what a run comes to, by what its bytes amount to
abbrev CameTo : (ℕ → ℕ → Bool) → Course → SessionState → Greeter → List ℕ → Meeting → List Action → SessionState → List (ℕ × ℕ) → Type 0
CameTo settles c s greeter bytes (Opens version rest) acts e left = Comes requested_in settles c false (reading_of c) (opened_with version c) [] (speaking version s) rest acts e left
CameTo settles c s greeter bytes (Refuses code) acts e left = (plain acts ≡ actions.Close ∷ []) × (confirms acts ≡ false) × (e ≡ ended (falling_back (refusal greeter code) s))
CameTo settles c s greeter bytes Waits acts e left = (acts ≡ []) × (e ≡ in_phase s (phases.Hello greeter bytes c))

-- the same of a session in another phase
came_moved : (settles : ℕ → ℕ → Bool) (c : Course) (s : SessionState) (phase : Phase) (greeter : Greeter) (bytes : List ℕ) (m : Meeting) (acts : List Action) (e : SessionState) (left : List (ℕ × ℕ))
    → CameTo settles c (in_phase s phase) greeter bytes m acts e left → CameTo settles c s greeter bytes m acts e left
came_moved settles c s phase greeter bytes (Opens version rest) acts e left (ts, y, end, takes, ends, says, leaves) =
    (ts, y, end, takes, ends, says, confirmed_same settles c false false (speaking version s) e phase end y _ acts acts left refl refl leaves)
came_moved settles c s phase greeter bytes (Refuses code) acts e left came = came
came_moved settles c s phase greeter bytes Waits acts e left came = came

abbrev pub Finds : Greeter → List ℕ → List ℕ → Meeting → Type 0
Finds greeter bytes more m = Stays m more (meeting greeter (bytes ++ more))

pub finds : (greeter : Greeter) (bytes more : List ℕ) (m : Meeting) → meeting greeter bytes ≡ m → Finds greeter bytes more m
finds greeter bytes more m is = subst (Finds greeter bytes more) is (meeting_stays greeter bytes more)

came_first : (settles : ℕ → ℕ → Bool) (c : Course) (greeter : Greeter) (s mid e : SessionState) (bytes : List ℕ) (m : Meeting) (acts : List Action) (steps : List (Event × List Action)) (rest left : List (ℕ × ℕ))
    → c.due ≡ [] → IsBytes c.intake.unread → IsBytes (bytes ++ heard_in steps) → meeting greeter bytes ≡ m → Met m s greeter bytes c acts mid → rest ≡ passed_on acts → Hears settles mid rest steps e left
    → (mid.phase ≡ phases.Hello greeter bytes c → meeting greeter bytes ≡ Waits → Hears settles mid [] steps e left → CameTo settles c mid greeter (bytes ++ heard_in steps) (meeting greeter (bytes ++ heard_in steps)) (asked_in steps) e left)
    → CameTo settles c s greeter (bytes ++ heard_in steps) (meeting greeter (bytes ++ heard_in steps)) (acts ++ asked_in steps) e left
came_first settles c greeter s mid e bytes (Opens version more) acts steps rest left none unread good is (first, silent, sends, receives) is_rest hears later =
    let a : Sharing = opened_with version c in
    let opened : a.reopened ≡ (is_reopen first || a.reopened) = sym (ap (λ (b : Bool). b || a.reopened) sends) in
    let good_more : IsBytes more = meeting_good greeter version bytes more (front_good bytes (heard_in steps) good) is in
    let good_all : IsBytes ((c.intake.unread ++ more) ++ heard_in steps) = append_good (c.intake.unread ++ more) (heard_in steps) (append_good c.intake.unread more unread good_more) (after_good bytes (heard_in steps) good) in
    let gets : ReceivesBytes (speaking version s) (course_of c (fed (reading_of c) more) a []) (first ∷ opening version c.shares) acts mid =
    subst (λ (ds : List Due). ReceivesBytes (speaking version s) (record (course_fed c more) { due = ds }) (first ∷ opening version c.shares) acts mid) none receives in
    let came = piece_comes settles false c (reading_of c) a a [] (speaking version s) mid e more (first ∷ opening version c.shares) acts steps left silent opened good_all refl (fits_first settles a) gets (follows_all settles c e left steps) (subst (λ (p : List (ℕ × ℕ)). Hears settles mid p steps e left) is_rest hears) in
    subst (λ (n : Meeting). CameTo settles c s greeter (bytes ++ heard_in steps) n (acts ++ asked_in steps) e left) (sym (finds greeter bytes (heard_in steps) (Opens version more) is)) came
came_first settles c greeter s mid e bytes (Refuses code) acts steps rest left none unread good is (tells, quiet, ends) is_rest hears later =
    let over = none_follow settles mid e rest left steps (ap (λ (t : SessionState). t.phase) ends) hears in
    let same : acts ++ asked_in steps ≡ acts = ap (λ (xs : List (Event × List Action)). acts ++ asked_in xs) over.0 ∙ append-nil acts in
    subst (λ (n : Meeting). CameTo settles c s greeter (bytes ++ heard_in steps) n (acts ++ asked_in steps) e left) (sym (finds greeter bytes (heard_in steps) (Refuses code) is))
    (ap plain same ∙ tells, ap confirms same ∙ quiet, over.1 ∙ ends)
came_first settles c greeter s mid e bytes Waits acts steps rest left none unread good is (nothing, stays) is_rest hears later =
    let here : rest ≡ [] = is_rest ∙ ap passed_on nothing in
    let came = later (ap (λ (t : SessionState). t.phase) stays) is (subst (λ (p : List (ℕ × ℕ)). Hears settles mid p steps e left) here hears) in
    let moved = came_moved settles c s (phases.Hello greeter bytes c) greeter (bytes ++ heard_in steps) (meeting greeter (bytes ++ heard_in steps)) (asked_in steps) e left
    (subst (λ (t : SessionState). CameTo settles c t greeter (bytes ++ heard_in steps) (meeting greeter (bytes ++ heard_in steps)) (asked_in steps) e left) stays came) in
    subst (λ (xs : List Action). CameTo settles c s greeter (bytes ++ heard_in steps) (meeting greeter (bytes ++ heard_in steps)) (xs ++ asked_in steps) e left) (sym nothing) moved

as_it_is : (e s : SessionState) (phase : Phase) → e ≡ s → s.phase ≡ phase → e ≡ in_phase s phase
as_it_is e s phase here is = here ∙ ap (λ (p : Phase). in_phase s p) is

came : (settles : ℕ → ℕ → Bool) (c : Course) (greeter : Greeter) (steps : List (Event × List Action)) (s e : SessionState) (bytes : List ℕ) (left : List (ℕ × ℕ))
    → c.due ≡ [] → IsBytes c.intake.unread → IsBytes (bytes ++ heard_in steps) → s.phase ≡ phases.Hello greeter bytes c → (steps ≡ [] → meeting greeter bytes ≡ Waits) → Hears settles s [] steps e left
    → CameTo settles c s greeter (bytes ++ heard_in steps) (meeting greeter (bytes ++ heard_in steps)) (asked_in steps) e left
came settles c greeter [] s e bytes left none unread good opens waits (here, is) =
    let same : bytes ++ [] ≡ bytes = append-nil bytes in
    subst (λ (b : List ℕ). CameTo settles c s greeter b (meeting greeter b) [] e left) (sym same)
    (subst (λ (m : Meeting). CameTo settles c s greeter bytes m [] e left) (sym (waits refl)) (refl, as_it_is e s (phases.Hello greeter bytes c) here opens))
came settles c greeter ((events.Bytes piece, acts) ∷ steps) s e bytes left none unread good opens waits (mid, rest, goes, awaits, hears) =
    let there : Greets s greeter (bytes ++ piece) c acts mid = subst (λ (p : Phase). GoesIn p s (events.Bytes piece) acts mid) opens goes in
    let grouped : (bytes ++ piece) ++ heard_in steps ≡ bytes ++ (piece ++ heard_in steps) = append_assoc bytes piece (heard_in steps) in
    let good_so : IsBytes ((bytes ++ piece) ++ heard_in steps) = subst IsBytes (sym grouped) good in
    subst (λ (b : List ℕ). CameTo settles c s greeter b (meeting greeter b) (acts ++ asked_in steps) e left) grouped
    (came_first settles c greeter s mid e (bytes ++ piece) (meeting greeter (bytes ++ piece)) acts steps rest left none unread good_so refl (greets_meets greeter s (bytes ++ piece) c acts mid there) awaits hears
    (λ opens_so waits_so hears_so. came settles c greeter steps mid e (bytes ++ piece) left none unread good_so opens_so (λ over. waits_so) hears_so))
came settles c greeter ((events.Settled table answer, acts) ∷ steps) s e bytes left none unread good opens waits (mid, rest, goes, (number, is_first, is_answer), hears) = cc
came settles c greeter ((events.Turn, acts) ∷ steps) s e bytes left none unread good opens waits (mid, rest, goes, awaits, hears) = absurd awaits
came settles c greeter ((events.Tick, acts) ∷ steps) s e bytes left none unread good opens waits (mid, rest, goes, awaits, hears) = absurd awaits
came settles c greeter ((events.Ask, acts) ∷ steps) s e bytes left none unread good opens waits (mid, rest, goes, awaits, hears) = absurd awaits
came settles c greeter ((events.CaughtUp, acts) ∷ steps) s e bytes left none unread good opens waits (mid, rest, goes, awaits, hears) = absurd awaits
came settles c greeter ((events.Opened, acts) ∷ steps) s e bytes left none unread good opens waits (mid, rest, goes, awaits, hears) = absurd awaits
came settles c greeter ((events.End, acts) ∷ steps) s e bytes left none unread good opens waits (mid, rest, goes, awaits, hears) = absurd awaits
came settles c greeter ((events.ReadFault, acts) ∷ steps) s e bytes left none unread good opens waits (mid, rest, goes, awaits, hears) = absurd awaits
came settles c greeter ((events.WriteFault, acts) ∷ steps) s e bytes left none unread good opens waits (mid, rest, goes, awaits, hears) = absurd awaits
came settles c greeter ((events.Copied table batch, acts) ∷ steps) s e bytes left none unread good opens waits (mid, rest, goes, awaits, hears) = absurd awaits
came settles c greeter ((events.Nothing table, acts) ∷ steps) s e bytes left none unread good opens waits (mid, rest, goes, awaits, hears) = absurd awaits
came settles c greeter ((events.Written known, acts) ∷ steps) s e bytes left none unread good opens waits (mid, rest, goes, awaits, hears) = absurd awaits
came settles c greeter ((events.Refused table, acts) ∷ steps) s e bytes left none unread good opens waits (mid, rest, goes, awaits, hears) = absurd awaits

-- ---- two ways to cut

-- with the bytes after the end of the session
came_out : (settles : ℕ → ℕ → Bool) (c : Course) (s : SessionState) (greeter : Greeter) (bytes more : List ℕ) (m : Meeting) (acts : List Action) (e : SessionState) (left : List (ℕ × ℕ))
    → IsBytes c.intake.unread → IsBytes bytes → meeting greeter bytes ≡ m → IsFedOut more e → CameTo settles c s greeter bytes m acts e left
    → CameTo settles c s greeter (bytes ++ more) (meeting greeter (bytes ++ more)) acts e left
came_out settles c s greeter bytes more m acts e left unread good is (inl none) came =
    let same : bytes ≡ bytes ++ more = sym (ap (λ (x : List ℕ). bytes ++ x) none ∙ append-nil bytes) in
    subst (λ (b : List ℕ). CameTo settles c s greeter b (meeting greeter b) acts e left) same (subst (λ (n : Meeting). CameTo settles c s greeter bytes n acts e left) (sym is) came)
came_out settles c s greeter bytes more (Opens version rest) acts e left unread good is (inr ended) came =
    let good_rest : IsBytes (c.intake.unread ++ rest) = append_good c.intake.unread rest unread (meeting_good greeter version bytes rest good is) in
    subst (λ (n : Meeting). CameTo settles c s greeter (bytes ++ more) n acts e left) (sym (finds greeter bytes more (Opens version rest) is))
    (out_comes requested_in settles c false (reading_of c) (opened_with version c) [] (speaking version s) rest more acts e left good_rest (inr ended) came)
came_out settles c s greeter bytes more (Refuses code) acts e left unread good is (inr ended) came =
    subst (λ (n : Meeting). CameTo settles c s greeter (bytes ++ more) n acts e left) (sym (finds greeter bytes more (Refuses code) is)) came
came_out settles c s greeter bytes more Waits acts e left unread good is (inr ended) (nothing, stays) =
    let never : phases.Hello greeter bytes c ≡ phases.Ended = sym (ap (λ (t : SessionState). t.phase) stays) ∙ ended in
    absurd cc

came_alike : (settles : ℕ → ℕ → Bool) (c : Course) (s : SessionState) (greeter : Greeter) (bytes : List ℕ) (m : Meeting) (acts given : List Action) (e end : SessionState) (left over : List (ℕ × ℕ))
    → CameTo settles c s greeter bytes m acts e left → CameTo settles c s greeter bytes m given end over → AreAlike settles c s acts given e end left over
came_alike settles c s greeter bytes (Opens version rest) acts given e end left over one other =
    come_alike requested_in settles c (reading_of c) (opened_with version c) (speaking version s) rest acts given e end left over one other
came_alike settles c s greeter bytes (Refuses code) acts given e end left over (tells, quiet, ends) (tells', quiet', ends') = (
  ap (without_late settles []) (tells ∙ sym tells'),
  λ first second. ends ∙ sym ends',
  λ first second opens. absurd (false≢true (ap (λ (t : SessionState). is_open t.phase) (sym ends) ∙ opens)),
)
came_alike settles c s greeter bytes Waits acts given e end left over (nothing, stays) (nothing', stays') = (
  ap (λ (xs : List Action). without_late settles [] (plain xs)) (nothing ∙ sym nothing'),
  λ first second. stays ∙ sym stays',
  λ first second opens. absurd (false≢true (ap (λ (t : SessionState). is_open t.phase) (sym stays) ∙ opens)),
)

pub greeting_however_cut : (settles : ℕ → ℕ → Bool) (s e end : SessionState) (greeter : Greeter) (bytes : List ℕ) (c : Course) (step other : Event × List Action) (steps others : List (Event × List Action)) (more rest : List ℕ) (left over : List (ℕ × ℕ))
    → c.due ≡ [] → s.phase ≡ phases.Hello greeter bytes c → HoldsBytes s.phase → IsBytes (heard_in (step ∷ steps) ++ more) → heard_in (step ∷ steps) ++ more ≡ heard_in (other ∷ others) ++ rest
    → Hears settles s [] (step ∷ steps) e left → Hears settles s [] (other ∷ others) end over → IsFedOut more e → IsFedOut rest end
    → AreAlike settles c s (asked_in (step ∷ steps)) (asked_in (other ∷ others)) e end left over
greeting_however_cut settles s e end greeter bytes c step other steps others more rest left over none opens holds good cut one again out out' =
    let held : IsBytes bytes × IsBytes c.intake.unread = subst HoldsBytes opens holds in
    let first : List ℕ = heard_in (step ∷ steps) in
    let second : List ℕ = heard_in (other ∷ others) in
    let good_one : IsBytes (bytes ++ first) = append_good bytes first held.0 (front_good first more good) in
    let good_other : IsBytes (bytes ++ second) = append_good bytes second held.0 (front_good second rest (subst IsBytes cut good)) in
    let some : (st : Event × List Action) (sts : List (Event × List Action)) → st ∷ sts ≡ [] → meeting greeter bytes ≡ Waits = λ st sts is. cc in
    let here = came_out settles c s greeter (bytes ++ first) more (meeting greeter (bytes ++ first)) (asked_in (step ∷ steps)) e left held.1 good_one refl out (came settles c greeter (step ∷ steps) s e bytes left none held.1 good_one opens (some step steps) one) in
    let there = came_out settles c s greeter (bytes ++ second) rest (meeting greeter (bytes ++ second)) (asked_in (other ∷ others)) end over held.1 good_other refl out' (came settles c greeter (other ∷ others) s end bytes over none held.1 good_other opens (some other others) again) in
    let all : (bytes ++ second) ++ rest ≡ (bytes ++ first) ++ more = append_assoc bytes second rest ∙ ap (λ (b : List ℕ). bytes ++ b) (sym cut) ∙ sym (append_assoc bytes first more) in
    came_alike settles c s greeter ((bytes ++ first) ++ more) (meeting greeter ((bytes ++ first) ++ more)) (asked_in (step ∷ steps)) (asked_in (other ∷ others)) e end left over here
    (subst (λ (b : List ℕ). CameTo settles c s greeter b (meeting greeter b) (asked_in (other ∷ others)) end over) all there)
