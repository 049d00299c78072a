-- A session has a fault only once it is over.
use Rattle.std.proofs.Common.{◌≡◌, ◌⊎◌, ℕ, Bool, true, false, List, [], ◌∷◌, ◌++◌, Some, None, Option, Ok, Err, Result, refl, ap, ◌∙◌, inl, inr}
use Rattle.std.specs.Prelude.{drop}
use Rattle.table_types.specs.Tables.{Definition}
use Rattle.table_types.specs.declared.copies.Settled.{Settled}
use Rattle.table_types.specs.declared.copies.Settled.TheVariants as settles
use Rattle.table_types.specs.declared.version.Version.{Version}
use Rattle.peers_hello.specs.declared.hello.Hello.{Hello}
use Rattle.peers_hello.specs.declared.hello.Answer.{Answer}
use Rattle.peers_hello.specs.declared.hello.Answer.TheVariants as answers
use Rattle.peers_hello.specs.declared.status.Status.{Status}
use Rattle.peers_hello.specs.declared.status.Status.TheVariants as statuses
use Rattle.peers_hello.specs.Hellos.{answer_of}
use Rattle.peers_hello.specs.Statuses.{status_of}
use Rattle.session_core.specs.declared.action.Action.{Action}
use Rattle.session_core.specs.declared.action.Action.TheVariants as actions
use Rattle.session_core.specs.declared.event.Event.{Event}
use Rattle.session_core.specs.declared.event.Event.TheVariants as events
use Rattle.session_core.specs.declared.halt.Halt.{Halt}
use Rattle.session_core.specs.declared.halt.Halt.TheVariants as halts
use Rattle.session_core.specs.declared.phase.Greeter.{Greeter}
use Rattle.session_core.specs.declared.phase.Greeter.TheVariants as greeters
use Rattle.session_core.specs.Phases.{Phase}
use Rattle.session_core.specs.Phases as phases
use Rattle.session_core.specs.Actions.{sends_control, status_text}
use Rattle.session_core.specs.Courses.{Course, course_fed, table_to_ask}
use Rattle.session_core.specs.Sessions.{SessionState, GoesIn, GoesNew, GoesHello, GoesOpen, Concludes, ReceivesBytes, IsWelcomed, Connects, Accepts, Greets, Turns, HasNothing, FinishesResync, StartsPendingResync, Settles, first_word, opening, speaking}
use Rattle.session_core.specs.Runs.{IsBegun}
use Rattle.session_core.proofs.MachineRuns.{Runs}

-- the session is over or has no fault
abbrev pub IsFaultless : SessionState → Type 0
IsFaultless s = (s.phase ≡ phases.Ended) ⊎ (s.fault ≡ None)

-- the session after a step has no fault if it had none before
keeps : (s e x : SessionState) → e ≡ x → x.fault ≡ s.fault → s.fault ≡ None → IsFaultless e
keeps s e x ends same none = inr (ap (λ (y : SessionState). y.fault) ends ∙ (same ∙ none))

unfaulted_received : (s : SessionState) (c : Course) (result : Result (Unit {0}) Halt) (given acts : List Action) (e : SessionState) → Concludes s c result given acts e → s.fault ≡ None → IsFaultless e
unfaulted_received s c (Ok u) given acts e (is, ends) none = keeps s e _ ends refl none
unfaulted_received s c (Err halts.Failed) given acts e (is, ends) none = inl (ap (λ (x : SessionState). x.phase) ends)
unfaulted_received s c (Err (halts.Fault fault)) given acts e (is, ends) none = inl (ap (λ (x : SessionState). x.phase) ends)
unfaulted_received s c (Err halts.Memory) given acts e concludes none = absurd concludes

unfaulted_receives : (s : SessionState) (c : Course) (first acts : List Action) (e : SessionState) → ReceivesBytes s c first acts e → s.fault ≡ None → IsFaultless e
unfaulted_receives s c first acts e (result, given, mid, receives, concludes) none = unfaulted_received s mid result (first ++ given) acts e concludes none

unfaulted_new : (s : SessionState) (hello : Hello) (c : Course) (event : Event) (acts : List Action) (e : SessionState) → GoesNew s hello c event acts e → s.fault ≡ None → IsFaultless e
unfaulted_new s hello c events.Opened acts e (is, ends) none = keeps s e _ ends refl none
unfaulted_new s hello c events.Turn acts e (is, ends) none = keeps s e _ ends refl none
unfaulted_new s hello c events.Tick acts e (is, ends) none = keeps s e _ ends refl none
unfaulted_new s hello c events.Ask acts e (is, ends) none = keeps s e _ ends refl none
unfaulted_new s hello c events.CaughtUp acts e (is, ends) none = keeps s e _ ends refl none
unfaulted_new s hello c events.End acts e (is, ends) none = keeps s e _ ends refl none
unfaulted_new s hello c events.ReadFault acts e (is, ends) none = keeps s e _ ends refl none
unfaulted_new s hello c events.WriteFault acts e (is, ends) none = keeps s e _ ends refl none
unfaulted_new s hello c (events.Bytes bytes) acts e goes none = absurd goes
unfaulted_new s hello c (events.Copied table batch) acts e goes none = absurd goes
unfaulted_new s hello c (events.Nothing table) acts e goes none = absurd goes
unfaulted_new s hello c (events.Written known) acts e goes none = absurd goes
unfaulted_new s hello c (events.Settled table settled) acts e goes none = absurd goes
unfaulted_new s hello c (events.Refused table) acts e goes none = absurd goes

unfaulted_welcomed : (b : Bool) (version : Version) (code : ℕ) (s : SessionState) (c : Course) (rest : List ℕ) (acts : List Action) (e : SessionState) → IsWelcomed b version code s c rest acts e → s.fault ≡ None → IsFaultless e
unfaulted_welcomed true version code s c rest acts e receives none = unfaulted_receives (speaking version s) (course_fed c rest) (sends_control (first_word c.stays) ∷ opening version c.shares) acts e receives none
unfaulted_welcomed false version code s c rest acts e (is, ends) none = keeps s e _ ends refl none

unfaulted_connects : (version : Version) (status : Status) (s : SessionState) (bytes : List ℕ) (c : Course) (acts : List Action) (e : SessionState) → Connects version status s bytes c acts e → s.fault ≡ None → IsFaultless e
unfaulted_connects version statuses.More s bytes c acts e (is, ends) none = keeps s e _ ends refl none
unfaulted_connects version (statuses.Code code used) s bytes c acts e goes none = unfaulted_welcomed _ version code s c _ acts e goes none
unfaulted_connects version (statuses.Other used) s bytes c acts e (is, ends) none = keeps s e _ ends refl none

unfaulted_accepts : (answer : Answer) (s : SessionState) (greeter : Greeter) (bytes : List ℕ) (c : Course) (acts : List Action) (e : SessionState) → Accepts answer s greeter bytes c acts e → s.fault ≡ None → IsFaultless e
unfaulted_accepts answers.More s greeter bytes c acts e (is, ends) none = keeps s e _ ends refl none
unfaulted_accepts (answers.Accepted name version used) s greeter bytes c acts e goes none = unfaulted_receives (speaking version s) (course_fed c (drop used bytes)) (actions.Send (status_text 200) ∷ opening version c.shares) acts e goes none
unfaulted_accepts (answers.Refused code used) s greeter bytes c acts e (is, ends) none = keeps s e _ ends refl none

unfaulted_greets : (s : SessionState) (greeter : Greeter) (bytes : List ℕ) (c : Course) (acts : List Action) (e : SessionState) → Greets s greeter bytes c acts e → s.fault ≡ None → IsFaultless e
unfaulted_greets s (greeters.Connects version) bytes c acts e goes none = unfaulted_connects version (status_of bytes) s bytes c acts e goes none
unfaulted_greets s (greeters.Accepts own peers) bytes c acts e goes none = unfaulted_accepts (answer_of own peers bytes) s (greeters.Accepts own peers) bytes c acts e goes none

unfaulted_hello : (s : SessionState) (greeter : Greeter) (bytes : List ℕ) (c : Course) (event : Event) (acts : List Action) (e : SessionState) → GoesHello s greeter bytes c event acts e → s.fault ≡ None → IsFaultless e
unfaulted_hello s greeter bytes c (events.Bytes piece) acts e goes none = unfaulted_greets s greeter (bytes ++ piece) c acts e goes none
unfaulted_hello s greeter bytes c events.Turn acts e (is, ends) none = keeps s e _ ends refl none
unfaulted_hello s greeter bytes c events.Tick acts e (is, ends) none = keeps s e _ ends refl none
unfaulted_hello s greeter bytes c events.Ask acts e (is, ends) none = keeps s e _ ends refl none
unfaulted_hello s greeter bytes c events.CaughtUp acts e (is, ends) none = keeps s e _ ends refl none
unfaulted_hello s greeter bytes c events.End acts e (is, ends) none = keeps s e _ ends refl none
unfaulted_hello s greeter bytes c events.ReadFault acts e (is, ends) none = keeps s e _ ends refl none
unfaulted_hello s greeter bytes c events.WriteFault acts e (is, ends) none = keeps s e _ ends refl none
unfaulted_hello s greeter bytes c events.Opened acts e goes none = absurd goes
unfaulted_hello s greeter bytes c (events.Copied table batch) acts e goes none = absurd goes
unfaulted_hello s greeter bytes c (events.Nothing table) acts e goes none = absurd goes
unfaulted_hello s greeter bytes c (events.Written known) acts e goes none = absurd goes
unfaulted_hello s greeter bytes c (events.Settled table settled) acts e goes none = absurd goes
unfaulted_hello s greeter bytes c (events.Refused table) acts e goes none = absurd goes

unfaulted_turns : (asked : Option ℕ) (s : SessionState) (c : Course) (acts : List Action) (e : SessionState) → Turns asked s c acts e → s.fault ≡ None → IsFaultless e
unfaulted_turns None s c acts e (is, ends) none = keeps s e _ ends refl none
unfaulted_turns (Some table) s c acts e (is, ends) none = keeps s e _ ends refl none

unfaulted_starts : (b : Bool) (s : SessionState) (c : Course) (acts : List Action) (e : SessionState) → StartsPendingResync b s c acts e → s.fault ≡ None → IsFaultless e
unfaulted_starts true s c acts e (is, ends) none = keeps s e _ ends refl none
unfaulted_starts false s c acts e (is, ends) none = keeps s e _ ends refl none

unfaulted_settles : (settled : Settled) (s : SessionState) (c : Course) (table : ℕ) (acts : List Action) (e : SessionState) → Settles settled s c table acts e → s.fault ≡ None → IsFaultless e
unfaulted_settles settles.All s c table acts e starts none = unfaulted_starts _ s _ acts e starts none
unfaulted_settles settles.Some s c table acts e (is, ends) none = keeps s e _ ends refl none
unfaulted_settles settles.Older s c table acts e (is, ends) none = keeps s e _ ends refl none

unfaulted_quiets : (b : Bool) (s : SessionState) (c : Course) (acts : List Action) (e : SessionState) → FinishesResync b s c acts e → s.fault ≡ None → IsFaultless e
unfaulted_quiets true s c acts e (is, ends) none = keeps s e _ ends refl none
unfaulted_quiets false s c acts e (is, ends) none = keeps s e _ ends refl none

unfaulted_nothing : (b : Bool) (s : SessionState) (c : Course) (table : ℕ) (acts : List Action) (e : SessionState) → HasNothing b s c table acts e → s.fault ≡ None → IsFaultless e
unfaulted_nothing true s c table acts e quiets none = unfaulted_quiets _ s _ acts e quiets none
unfaulted_nothing false s c table acts e (is, ends) none = keeps s e _ ends refl none

unfaulted_open : (s : SessionState) (c : Course) (event : Event) (acts : List Action) (e : SessionState) → GoesOpen s c event acts e → s.fault ≡ None → IsFaultless e
unfaulted_open s c events.Turn acts e (idle, turns) none = unfaulted_turns (table_to_ask c) s c acts e turns none
unfaulted_open s c events.Tick acts e (idle, (is, ends)) none = keeps s e _ ends refl none
unfaulted_open s c events.Ask acts e (idle, (is, ends)) none = keeps s e _ ends refl none
unfaulted_open s c events.CaughtUp acts e (idle, (is, ends)) none = keeps s e _ ends refl none
unfaulted_open s c (events.Bytes bytes) acts e (idle, receives) none = unfaulted_receives s (course_fed c bytes) [] acts e receives none
unfaulted_open s c (events.Copied table batch) acts e (mid, answered, (is, ends)) none = keeps s e _ ends refl none
unfaulted_open s c (events.Nothing table) acts e (mid, answered, nothing) none = unfaulted_nothing mid.teaching s mid table acts e nothing none
unfaulted_open s c (events.Written known) acts e (mid, answered, is, ends) none = keeps s e _ ends refl none
unfaulted_open s c (events.Settled table settled) acts e (mid, answered, settles) none = unfaulted_settles settled s mid table acts e settles none
unfaulted_open s c (events.Refused table) acts e (mid, answered, is, ends) none = keeps s e _ ends refl none
unfaulted_open s c events.End acts e (is, ends) none = keeps s e _ ends refl none
unfaulted_open s c events.ReadFault acts e (is, ends) none = keeps s e _ ends refl none
unfaulted_open s c events.WriteFault acts e (is, ends) none = keeps s e _ ends refl none
unfaulted_open s c events.Opened acts e goes none = absurd goes

pub unfaulted_in : (phase : Phase) (s : SessionState) (event : Event) (acts : List Action) (e : SessionState) → GoesIn phase s event acts e → s.fault ≡ None → IsFaultless e
unfaulted_in (phases.New hello c) s event acts e goes none = unfaulted_new s hello c event acts e goes none
unfaulted_in (phases.Hello greeter bytes c) s event acts e goes none = unfaulted_hello s greeter bytes c event acts e goes none
unfaulted_in (phases.Open c) s event acts e goes none = unfaulted_open s c event acts e goes none
unfaulted_in phases.Ended s event acts e goes none = absurd goes

-- a session that is over makes no step
pub ended_stays : (phase : Phase) (s : SessionState) (event : Event) (acts : List Action) (e : SessionState) → phase ≡ phases.Ended → GoesIn phase s event acts e → ⊥
ended_stays phases.Ended s event acts e over goes = goes
ended_stays (phases.New hello c) s event acts e over goes = absurd (cc)
ended_stays (phases.Hello greeter bytes c) s event acts e over goes = absurd (cc)
ended_stays (phases.Open c) s event acts e over goes = absurd (cc)

unfaulted_runs : (s e : SessionState) (steps : List (Event × List Action)) → IsFaultless s → Runs s steps e → IsFaultless e
unfaulted_runs s e [] before here = rw here before
unfaulted_runs s e (step ∷ steps) (inl over) (mid, goes, runs) = absurd (ended_stays s.phase s step.0 step.1 mid over goes)
unfaulted_runs s e (step ∷ steps) (inr none) (mid, goes, runs) = unfaulted_runs mid e steps (unfaulted_in s.phase s step.0 step.1 mid goes none) runs

pub begins_unfaulted : (roster : List Definition) (s : SessionState) → IsBegun roster s → IsFaultless s
begins_unfaulted roster s (inl (hello, up_to_date, is)) = inr (ap (λ (x : SessionState). x.fault) is)
begins_unfaulted roster s (inr (own, peers, up_to_date, is)) = inr (ap (λ (x : SessionState). x.fault) is)

pub faultless_until_over : (roster : List Definition) (begun s : SessionState) (steps : List (Event × List Action)) → IsBegun roster begun → Runs begun steps s → (s.phase ≡ phases.Ended) ⊎ (s.fault ≡ None)
faultless_until_over roster begun s steps begins runs = unfaulted_runs begun s steps (begins_unfaulted roster begun begins) runs
