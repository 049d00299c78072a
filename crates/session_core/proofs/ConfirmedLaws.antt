-- A session is confirmed exactly if it sent resync confirmed.
use Rattle.std.proofs.Common.{◌≡◌, ℕ, Bool, true, false, ◌||◌, List, [], ◌∷◌, ◌++◌, Some, None, Option, Ok, Err, Result, refl, ap, ◌∙◌, inl, inr}
use Rattle.std.specs.Prelude.{drop}
use Rattle.std.specs.Fmt.{decimal}
use Rattle.table_types.specs.Tables.{Definition}
use Rattle.table_types.specs.declared.copies.Settled.{Settled}
use Rattle.table_types.specs.declared.copies.Settled.TheVariants as settles
use Rattle.table_types.specs.declared.version.Version.{Version}
use Rattle.peers_msg.specs.declared.control.Control.TheVariants as controls
use Rattle.peers_hello.specs.declared.hello.Hello.{Hello}
use Rattle.peers_hello.specs.declared.hello.Answer.{Answer}
use Rattle.peers_hello.specs.declared.hello.Answer.TheVariants as answers
use Rattle.peers_hello.specs.declared.status.Status.{Status}
use Rattle.peers_hello.specs.declared.status.Status.TheVariants as statuses
use Rattle.peers_hello.specs.Hellos.{answer_of}
use Rattle.peers_hello.specs.Statuses.{status_of}
use Rattle.session_core.specs.declared.action.Action.{Action}
use Rattle.session_core.specs.declared.action.Action.TheVariants as actions
use Rattle.session_core.specs.declared.event.Event.{Event}
use Rattle.session_core.specs.declared.event.Event.TheVariants as events
use Rattle.session_core.specs.declared.halt.Halt.{Halt}
use Rattle.session_core.specs.declared.halt.Halt.TheVariants as halts
use Rattle.session_core.specs.declared.phase.Greeter.{Greeter}
use Rattle.session_core.specs.declared.phase.Greeter.TheVariants as greeters
use Rattle.session_core.specs.Phases.{Phase}
use Rattle.session_core.specs.Phases as phases
use Rattle.session_core.specs.declared.share.Share.{Share}
use Rattle.session_core.specs.Actions.{confirms, reopens, sends_control, status_text}
use Rattle.session_core.specs.Courses.{Course, course_fed, table_to_ask, finished}
use Rattle.session_core.specs.Sessions.{SessionState, GoesIn, GoesNew, GoesHello, GoesOpen, Concludes, ReceivesBytes, IsWelcomed, Connects, Accepts, Greets, Turns, HasNothing, FinishesResync, StartsPendingResync, Settles, first_word, opening, speaking}
use Rattle.session_core.specs.Runs.{IsBegun, was_confirmed}
use Rattle.session_core.proofs.MachineRuns.{Runs}
use Rattle.session_core.proofs.EndLemmas.{no_control}

pub or_none : (b : Bool) → b ≡ (b || false)
or_none true = refl
or_none false = refl

pub or_group : (a b c : Bool) → ((a || b) || c) ≡ (a || (b || c))
or_group true b c = refl
or_group false b c = refl

-- the session after a step is confirmed if it was before, or if one of the actions sends resync confirmed
abbrev pub IsSaid : SessionState → List Action → SessionState → Type 0
IsSaid s acts e = e.confirmed ≡ (s.confirmed || confirms acts)

-- any other actions leave it as it was
unsaid : (s e x : SessionState) (acts given : List Action) → acts ≡ given → confirms given ≡ false → e ≡ x → x.confirmed ≡ s.confirmed → IsSaid s acts e
unsaid s e x acts given is plain ends same =
    let none : confirms acts ≡ false = ap confirms is ∙ plain in
    ap (λ (y : SessionState). y.confirmed) ends ∙ (same ∙ rw none (or_none s.confirmed))

said_received : (s : SessionState) (c : Course) (result : Result (Unit {0}) Halt) (given acts : List Action) (e : SessionState) → Concludes s c result given acts e → IsSaid s acts e
said_received s c (Ok u) given acts e (is, ends) = ap (λ (x : SessionState). x.confirmed) ends
said_received s c (Err halts.Failed) given acts e (is, ends) = ap (λ (x : SessionState). x.confirmed) ends
said_received s c (Err (halts.Fault fault)) given acts e (is, ends) = ap (λ (x : SessionState). x.confirmed) ends
said_received s c (Err halts.Memory) given acts e concludes = absurd concludes

said_receives : (s : SessionState) (c : Course) (first acts : List Action) (e : SessionState) → ReceivesBytes s c first acts e → IsSaid s acts e
said_receives s c first acts e (result, given, mid, receives, concludes) = said_received s mid result (first ++ given) acts e concludes

said_new : (s : SessionState) (hello : Hello) (c : Course) (event : Event) (acts : List Action) (e : SessionState) → GoesNew s hello c event acts e → IsSaid s acts e
said_new s hello c events.Opened acts e (is, ends) = unsaid s e _ acts _ is refl ends refl
said_new s hello c events.Turn acts e (is, ends) = unsaid s e _ acts [] is refl ends refl
said_new s hello c events.Tick acts e (is, ends) = unsaid s e _ acts [] is refl ends refl
said_new s hello c events.Ask acts e (is, ends) = unsaid s e _ acts [] is refl ends refl
said_new s hello c events.CaughtUp acts e (is, ends) = unsaid s e _ acts [] is refl ends refl
said_new s hello c events.End acts e (is, ends) = unsaid s e _ acts (actions.Close ∷ []) is refl ends refl
said_new s hello c events.ReadFault acts e (is, ends) = unsaid s e _ acts (actions.Close ∷ []) is refl ends refl
said_new s hello c events.WriteFault acts e (is, ends) = unsaid s e _ acts (actions.Close ∷ []) is refl ends refl
said_new s hello c (events.Bytes bytes) acts e goes = absurd goes
said_new s hello c (events.Copied table batch) acts e goes = absurd goes
said_new s hello c (events.Nothing table) acts e goes = absurd goes
said_new s hello c (events.Written known) acts e goes = absurd goes
said_new s hello c (events.Settled table settled) acts e goes = absurd goes
said_new s hello c (events.Refused table) acts e goes = absurd goes

said_welcomed : (b : Bool) (version : Version) (code : ℕ) (s : SessionState) (c : Course) (rest : List ℕ) (acts : List Action) (e : SessionState) → IsWelcomed b version code s c rest acts e → IsSaid s acts e
said_welcomed true version code s c rest acts e receives = said_receives (speaking version s) (course_fed c rest) (sends_control (first_word c.stays) ∷ opening version c.shares) acts e receives
said_welcomed false version code s c rest acts e (is, ends) = unsaid s e _ acts (actions.Close ∷ []) is refl ends refl

said_connects : (version : Version) (status : Status) (s : SessionState) (bytes : List ℕ) (c : Course) (acts : List Action) (e : SessionState) → Connects version status s bytes c acts e → IsSaid s acts e
said_connects version statuses.More s bytes c acts e (is, ends) = unsaid s e _ acts [] is refl ends refl
said_connects version (statuses.Code code used) s bytes c acts e goes = said_welcomed _ version code s c _ acts e goes
said_connects version (statuses.Other used) s bytes c acts e (is, ends) = unsaid s e _ acts (actions.Close ∷ []) is refl ends refl

turned_away : (code : ℕ) → confirms (actions.Send (status_text code) ∷ (actions.Close ∷ [])) ≡ false
turned_away code = rw (no_control (decimal code) controls.ResyncConfirmed) refl

said_accepts : (answer : Answer) (s : SessionState) (greeter : Greeter) (bytes : List ℕ) (c : Course) (acts : List Action) (e : SessionState) → Accepts answer s greeter bytes c acts e → IsSaid s acts e
said_accepts answers.More s greeter bytes c acts e (is, ends) = unsaid s e _ acts [] is refl ends refl
said_accepts (answers.Accepted name version used) s greeter bytes c acts e goes = said_receives (speaking version s) (course_fed c (drop used bytes)) (actions.Send (status_text 200) ∷ opening version c.shares) acts e goes
said_accepts (answers.Refused code used) s greeter bytes c acts e (is, ends) = unsaid s e _ acts (actions.Send (status_text code) ∷ (actions.Close ∷ [])) is (turned_away code) ends refl

said_greets : (s : SessionState) (greeter : Greeter) (bytes : List ℕ) (c : Course) (acts : List Action) (e : SessionState) → Greets s greeter bytes c acts e → IsSaid s acts e
said_greets s (greeters.Connects version) bytes c acts e goes = said_connects version (status_of bytes) s bytes c acts e goes
said_greets s (greeters.Accepts own peers) bytes c acts e goes = said_accepts (answer_of own peers bytes) s (greeters.Accepts own peers) bytes c acts e goes

said_hello : (s : SessionState) (greeter : Greeter) (bytes : List ℕ) (c : Course) (event : Event) (acts : List Action) (e : SessionState) → GoesHello s greeter bytes c event acts e → IsSaid s acts e
said_hello s greeter bytes c (events.Bytes piece) acts e goes = said_greets s greeter (bytes ++ piece) c acts e goes
said_hello s greeter bytes c events.Turn acts e (is, ends) = unsaid s e _ acts [] is refl ends refl
said_hello s greeter bytes c events.Tick acts e (is, ends) = unsaid s e _ acts [] is refl ends refl
said_hello s greeter bytes c events.Ask acts e (is, ends) = unsaid s e _ acts [] is refl ends refl
said_hello s greeter bytes c events.CaughtUp acts e (is, ends) = unsaid s e _ acts [] is refl ends refl
said_hello s greeter bytes c events.End acts e (is, ends) = unsaid s e _ acts (actions.Close ∷ []) is refl ends refl
said_hello s greeter bytes c events.ReadFault acts e (is, ends) = unsaid s e _ acts (actions.Close ∷ []) is refl ends refl
said_hello s greeter bytes c events.WriteFault acts e (is, ends) = unsaid s e _ acts (actions.Close ∷ []) is refl ends refl
said_hello s greeter bytes c events.Opened acts e goes = absurd goes
said_hello s greeter bytes c (events.Copied table batch) acts e goes = absurd goes
said_hello s greeter bytes c (events.Nothing table) acts e goes = absurd goes
said_hello s greeter bytes c (events.Written known) acts e goes = absurd goes
said_hello s greeter bytes c (events.Settled table settled) acts e goes = absurd goes
said_hello s greeter bytes c (events.Refused table) acts e goes = absurd goes

said_turns : (asked : Option ℕ) (s : SessionState) (c : Course) (acts : List Action) (e : SessionState) → Turns asked s c acts e → IsSaid s acts e
said_turns None s c acts e (is, ends) = unsaid s e _ acts [] is refl ends refl
said_turns (Some table) s c acts e (is, ends) = unsaid s e _ acts _ is refl ends refl

pub reopens_plain : (ss : List Share) → confirms (reopens ss) ≡ false
reopens_plain [] = refl
reopens_plain (s ∷ ss) = reopens_plain ss

said_starts : (b : Bool) (s : SessionState) (c : Course) (acts : List Action) (e : SessionState) → StartsPendingResync b s c acts e → IsSaid s acts e
said_starts true s c acts e (is, ends) = unsaid s e _ acts (reopens c.shares) is (reopens_plain c.shares) ends refl
said_starts false s c acts e (is, ends) = unsaid s e _ acts [] is refl ends refl

said_settles : (settled : Settled) (s : SessionState) (c : Course) (table : ℕ) (acts : List Action) (e : SessionState) → Settles settled s c table acts e → IsSaid s acts e
said_settles settles.All s c table acts e starts = said_starts _ s _ acts e starts
said_settles settles.Some s c table acts e (is, ends) = unsaid s e _ acts [] is refl ends refl
said_settles settles.Older s c table acts e (is, ends) = unsaid s e _ acts [] is refl ends refl

pub finished_plain : (b : Bool) → confirms (sends_control (finished b) ∷ []) ≡ false
finished_plain true = refl
finished_plain false = refl

said_quiets : (b : Bool) (s : SessionState) (c : Course) (acts : List Action) (e : SessionState) → FinishesResync b s c acts e → IsSaid s acts e
said_quiets true s c acts e (is, ends) = unsaid s e _ acts (sends_control (finished c.up_to_date) ∷ []) is (finished_plain c.up_to_date) ends refl
said_quiets false s c acts e (is, ends) = unsaid s e _ acts [] is refl ends refl

said_nothing : (b : Bool) (s : SessionState) (c : Course) (table : ℕ) (acts : List Action) (e : SessionState) → HasNothing b s c table acts e → IsSaid s acts e
said_nothing true s c table acts e quiets = said_quiets _ s _ acts e quiets
said_nothing false s c table acts e (is, ends) = unsaid s e _ acts [] is refl ends refl

said_open : (s : SessionState) (c : Course) (event : Event) (acts : List Action) (e : SessionState) → GoesOpen s c event acts e → IsSaid s acts e
said_open s c events.Turn acts e (none, turns) = said_turns (table_to_ask c) s c acts e turns
said_open s c events.Tick acts e (none, (is, ends)) = unsaid s e _ acts _ is refl ends refl
said_open s c events.Ask acts e (none, (is, ends)) = unsaid s e _ acts _ is refl ends refl
said_open s c events.CaughtUp acts e (none, (is, ends)) = unsaid s e _ acts _ is refl ends refl
said_open s c (events.Bytes bytes) acts e (none, receives) = said_receives s (course_fed c bytes) [] acts e receives
said_open s c (events.Copied table batch) acts e (mid, answered, (is, ends)) = unsaid s e _ acts (actions.Teach batch ∷ []) is refl ends refl
said_open s c (events.Nothing table) acts e (mid, answered, nothing) = said_nothing mid.teaching s mid table acts e nothing
said_open s c (events.Written known) acts e (mid, answered, is, ends) = unsaid s e _ acts [] is refl ends refl
said_open s c (events.Settled table settled) acts e (mid, answered, settles) = said_settles settled s mid table acts e settles
said_open s c (events.Refused table) acts e (mid, answered, is, ends) = unsaid s e _ acts _ is refl ends refl
said_open s c events.End acts e (is, ends) = unsaid s e _ acts (actions.Close ∷ []) is refl ends refl
said_open s c events.ReadFault acts e (is, ends) = unsaid s e _ acts (actions.Close ∷ []) is refl ends refl
said_open s c events.WriteFault acts e (is, ends) = unsaid s e _ acts (actions.Close ∷ []) is refl ends refl
said_open s c events.Opened acts e goes = absurd goes

pub said_in : (phase : Phase) (s : SessionState) (event : Event) (acts : List Action) (e : SessionState) → GoesIn phase s event acts e → IsSaid s acts e
said_in (phases.New hello c) s event acts e goes = said_new s hello c event acts e goes
said_in (phases.Hello greeter bytes c) s event acts e goes = said_hello s greeter bytes c event acts e goes
said_in (phases.Open c) s event acts e goes = said_open s c event acts e goes
said_in phases.Ended s event acts e goes = absurd goes

said_runs : (s e : SessionState) (steps : List (Event × List Action)) → Runs s steps e → e.confirmed ≡ (s.confirmed || was_confirmed steps)
said_runs s e [] here = ap (λ (x : SessionState). x.confirmed) here ∙ or_none s.confirmed
said_runs s e (step ∷ steps) (mid, goes, runs) =
    said_runs mid e steps runs ∙ (ap (λ (b : Bool). b || was_confirmed steps) (said_in s.phase s step.0 step.1 mid goes) ∙ or_group s.confirmed (confirms step.1) (was_confirmed steps))

pub begins_unsaid : (roster : List Definition) (s : SessionState) → IsBegun roster s → s.confirmed ≡ false
begins_unsaid roster s (inl (hello, up_to_date, is)) = ap (λ (x : SessionState). x.confirmed) is
begins_unsaid roster s (inr (own, peers, up_to_date, is)) = ap (λ (x : SessionState). x.confirmed) is

pub sent_where_confirmed : (roster : List Definition) (begun s : SessionState) (steps : List (Event × List Action)) → IsBegun roster begun → Runs begun steps s → s.confirmed ≡ was_confirmed steps
sent_where_confirmed roster begun s steps begins runs =
    said_runs begun s steps runs ∙ ap (λ (b : Bool). b || was_confirmed steps) (begins_unsaid roster begun begins)
