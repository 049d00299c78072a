-- The machine and its reader are kept as the session is.
use Rattle.std.proofs.Common.{◌≡◌, ℕ, Bool, true, false, List, [], ◌∷◌, ◌++◌, Some, None, Option, is_some, Ok, Err, Result, IfOk, OnErr, refl, sym, ap, ◌∙◌, subst}
use Rattle.std.specs.Prelude.{drop}
use Rattle.std.specs.Global.{Global}
use Rattle.std.specs.declared.boxed.Box.{Box}
use Rattle.table_types.specs.declared.copies.Settled.{Settled}
use Rattle.table_types.specs.declared.copies.Settled.TheVariants as settles
use Rattle.table_types.specs.declared.version.Version.{Version}
use Rattle.known_state.specs.Known.{KnownState}
use Rattle.peers_msg.specs.declared.control.Control.{Control}
use Rattle.peers_msg.specs.declared.control.Control.TheVariants as controls
use Rattle.peers_hello.specs.declared.hello.Answer.{Answer}
use Rattle.peers_hello.specs.declared.hello.Answer.TheVariants as answers
use Rattle.peers_hello.specs.declared.hello.Hello.{Hello}
use Rattle.peers_hello.specs.declared.status.Status.{Status}
use Rattle.peers_hello.specs.declared.status.Status.TheVariants as statuses
use Rattle.peers_hello.specs.Hellos.{answer_of}
use Rattle.peers_hello.specs.Statuses.{status_of}
use Rattle.learner.specs.Intake.{Taking}
use Rattle.known_state.specs.declared.effect.Effect.{Effect}
use Rattle.known_state.specs.declared.effect.Effect.TheVariants as effects
use Rattle.learner.specs.declared.fault.Fault.{Fault}
use Rattle.learner.specs.declared.taken.Taken.{Taken}
use Rattle.learner.specs.declared.taken.Taken.TheVariants as taken
use Rattle.tolerant_intake.specs.StandIns.{stand_in}
use Rattle.tolerant_intake.specs.Policy.{Passage, Strict, Defines, Counts, StandsIn, Unnumbered, Breaks, passage_of}
use Rattle.tolerant_intake.specs.Reading.{Passes, Reads, ReadsAs}
use Rattle.tolerant_intake.specs.Tolerance.{Tolerance, counted_for, replaced}
use Rattle.session_core.specs.declared.action.Action.{Action}
use Rattle.session_core.specs.declared.error.SessionError.{SessionError}
use Rattle.session_core.specs.declared.event.Event.{Event}
use Rattle.session_core.specs.declared.event.Event.TheVariants as events
use Rattle.session_core.specs.declared.halt.Halt.{Halt}
use Rattle.session_core.specs.declared.halt.Halt.TheVariants as halts
use Rattle.session_core.specs.declared.machine.Machine.{Machine}
use Rattle.session_core.specs.declared.pace.Task.{Task}
use Rattle.session_core.specs.declared.pace.Task.TheVariants as tasks
use Rattle.session_core.specs.declared.phase.Greeter.{Greeter}
use Rattle.session_core.specs.declared.phase.Greeter.TheVariants as greeters
use Rattle.session_core.specs.declared.stay.Stay.{Stay}
use Rattle.session_core.specs.Phases.{Phase}
use Rattle.session_core.specs.Phases as phases
use Rattle.session_core.specs.Actions.{sends_control, status_text}
use Rattle.session_core.specs.Shares.{all_quiet, is_out, out_set, quiet_set}
use Rattle.session_core.specs.Acks.{ack_of}
use Rattle.session_core.specs.Courses.{Course, AreReceived, Receives, ReceivesAll, ack_received, acknowledged, course_fed, is_held, message_received, requested, said, staying, table_to_ask, teaching_anew}
use Rattle.session_core.specs.Sessions.{SessionState, Accepts, Concludes, Connects, FinishesResync, Goes, GoesHello, GoesIn, GoesNew, GoesOpen, Greets, HasNothing, IsWelcomed, ReceivesBytes, Settles, StartsPendingResync, Turns, ended, first_word, going, opening, seen, speaking}
use Rattle.session_core.specs.declared.action.Action.TheVariants as actions
use Rattle.session_core.specs.Manners.{Manner}
use Rattle.session_core.specs.Manners as manners
use Rattle.session_core.specs.Paces.{inferred, is_ahead, has_left}
use Rattle.session_core.specs.Standing.{StandingState, Does, Stands, TakesTurn, TicksIn, Writes, answer_of_refusal, changed, finished_if, finishing, leaving, stood, task_at, without_tables, word_of}
use Rattle.session_core.specs.Keeping.{AreKeptAs, IsKeptAs, KeptSession, StepsAs, is_staying, manner_of, standing}

-- ---- the reader stays tolerant, or strict

passes_so : (effect : Effect) (left l : Tolerance) (t e : Taking) (answer : Taken) (after : Option Tolerance) → Passes effect left l t (Ok (Some answer)) e after → is_some after ≡ true
passes_so effect left l t e taken.Passed after (same, is) = ap is_some is
passes_so effect left l t e (taken.Row u) after passes = absurd passes
passes_so effect left l t e (taken.Said control) after passes = absurd passes
passes_so effect left l t e (taken.Acked table number) after passes = absurd passes
passes_so effect left l t e (taken.Failed kind) after passes = absurd passes

reads_as_so : (p : Passage) (l : Tolerance) (t e : Taking) (answer : Taken) (after : Option Tolerance) → ReadsAs p l t (Ok (Some answer)) e after → is_some after ≡ true
reads_as_so Strict l t e answer after (takes, is) = ap is_some is
reads_as_so (Defines d) l t e answer after (takes, is) = ap is_some is
reads_as_so (Counts r cause) l t e answer after passes = passes_so (effects.Update r) (counted_for cause l) l t e answer after passes
reads_as_so (StandsIn d) l t e answer after passes = passes_so (effects.Define (stand_in t.roster d)) (replaced d (stand_in t.roster d) t.state.received l) l t e answer after passes
reads_as_so Unnumbered l t e answer after (stops, shut, is) = ap is_some is
reads_as_so (Breaks breach) l t e answer after (stops, shut, is) = ap is_some is

reads_so : (l : Option Tolerance) (t e : Taking) (answer : Taken) (after : Option Tolerance) → Reads l t (Ok (Some answer)) e after → is_some after ≡ is_some l
reads_so None t e answer after (takes, is) = ap is_some is
reads_so (Some l) t e answer after reads = reads_as_so (passage_of l t) l t e answer after reads

-- ---- messages

receives_so : (b : Bool) (c e : Course) (t : Taken) → IsKeptAs b c → Receives c t e → IsKeptAs b e
receives_so b c e t (stays, tolerant) (no_failure, reads, is) =
    (ap (λ (x : Course). x.stays) is ∙ stays, reads_so c.tolerance c.intake e.intake t e.tolerance reads ∙ tolerant)

requested_so : (b q : Bool) (c : Course) → IsKeptAs b c → IsKeptAs b (requested q c).1
requested_so b true c kept = kept
requested_so b false c kept = kept

said_so : (b : Bool) (c : Course) (control : Control) → IsKeptAs b c → IsKeptAs b (said c control).1
said_so b c controls.ResyncRequest kept = requested_so b (is_held c.stays c.shares) c kept
said_so b c controls.ResyncFinished kept = kept
said_so b c controls.ResyncPartial kept = kept
said_so b c controls.ResyncConfirmed kept = kept
said_so b c controls.Heartbeat kept = kept

passed_so : (b q : Bool) (c : Course) (table number : ℕ) → IsKeptAs b c → IsKeptAs b (acknowledged q c table number).1
passed_so b true c table number kept = kept
passed_so b false c table number kept = kept

ack_so : (b : Bool) (c : Course) (ack : Option (ℕ × ℕ)) → IsKeptAs b c → IsKeptAs b (ack_received c ack).1
ack_so b c (Some (table, number)) kept = passed_so b (is_out table c.shares) c table number kept
ack_so b c None kept = kept

message_so : (b : Bool) (c : Course) (t : Taken) → IsKeptAs b c → IsKeptAs b (message_received c t).1
message_so b c (taken.Row u) kept = kept
message_so b c taken.Passed kept = kept
message_so b c (taken.Said control) kept = said_so b c control kept
message_so b c (taken.Acked table number) kept = ack_so b c (ack_of c.intake.roster (taken.Acked table number)) kept
message_so b c (taken.Failed kind) kept = kept

all_so : (b : Bool) (c e : Course) (ts : List Taken) (acts : List Action) → IsKeptAs b c → AreReceived c ts acts e → IsKeptAs b e
all_so b c e [] acts kept (none, here) = subst (IsKeptAs b) (sym here) kept
all_so b c e (t ∷ ts) acts kept (mid, rest, receives, all, later) = all_so b (message_received mid t).1 e ts rest (message_so b mid t (receives_so b c mid t kept receives)) later

kept_at : (b : Bool) (e x : SessionState) → e ≡ x → AreKeptAs b x.phase → AreKeptAs b e.phase
kept_at b e x is kept = subst (λ (y : SessionState). AreKeptAs b y.phase) (sym is) kept

concluded_so : (b : Bool) (s : SessionState) (c mid : Course) (result : Result (Unit {0}) Halt) (first given acts : List Action) (e : SessionState) → IsKeptAs b c → ReceivesAll c result given mid → Concludes s mid result (first ++ given) acts e → AreKeptAs b e.phase
concluded_so b s c mid (Ok u) first given acts e kept (ts, are, waits) (is, ends) = kept_at b e _ ends (all_so b c mid ts given kept are)
concluded_so b s c mid (Err halts.Failed) first given acts e kept receives (is, ends) = kept_at b e _ ends tt
concluded_so b s c mid (Err (halts.Fault fault)) first given acts e kept receives (is, ends) = kept_at b e _ ends tt
concluded_so b s c mid (Err halts.Memory) first given acts e kept receives concludes = absurd concludes

bytes_so : (b : Bool) (s : SessionState) (c : Course) (first acts : List Action) (e : SessionState) → IsKeptAs b c → ReceivesBytes s c first acts e → AreKeptAs b e.phase
bytes_so b s c first acts e kept (result, given, mid, receives, concludes) = concluded_so b s c mid result first given acts e kept receives concludes

-- ---- the machine

new_so : (b : Bool) (s : SessionState) (hello : Hello) (c : Course) (event : Event) (acts : List Action) (e : SessionState) → IsKeptAs b c → GoesNew s hello c event acts e → AreKeptAs b e.phase
new_so b s hello c events.Opened acts e kept (is, ends) = kept_at b e _ ends kept
new_so b s hello c events.Turn acts e kept (is, ends) = kept_at b e _ ends kept
new_so b s hello c events.Tick acts e kept (is, ends) = kept_at b e _ ends kept
new_so b s hello c events.Ask acts e kept (is, ends) = kept_at b e _ ends kept
new_so b s hello c events.CaughtUp acts e kept (is, ends) = kept_at b e _ ends kept
new_so b s hello c events.End acts e kept (is, ends) = kept_at b e _ ends tt
new_so b s hello c events.ReadFault acts e kept (is, ends) = kept_at b e _ ends tt
new_so b s hello c events.WriteFault acts e kept (is, ends) = kept_at b e _ ends tt
new_so b s hello c (events.Bytes bytes) acts e kept goes = absurd goes
new_so b s hello c (events.Copied table batch) acts e kept goes = absurd goes
new_so b s hello c (events.Nothing table) acts e kept goes = absurd goes
new_so b s hello c (events.Written known) acts e kept goes = absurd goes
new_so b s hello c (events.Settled table settled) acts e kept goes = absurd goes
new_so b s hello c (events.Refused table) acts e kept goes = absurd goes

welcomed_so : (b q : Bool) (version : Version) (code : ℕ) (s : SessionState) (c : Course) (rest : List ℕ) (acts : List Action) (e : SessionState) → IsKeptAs b c → IsWelcomed q version code s c rest acts e → AreKeptAs b e.phase
welcomed_so b true version code s c rest acts e kept receives = bytes_so b (speaking version s) (course_fed c rest) (sends_control (first_word c.stays) ∷ opening version c.shares) acts e kept receives
welcomed_so b false version code s c rest acts e kept (is, ends) = kept_at b e _ ends tt

connects_so : (b : Bool) (version : Version) (status : Status) (s : SessionState) (bytes : List ℕ) (c : Course) (acts : List Action) (e : SessionState) → IsKeptAs b c → Connects version status s bytes c acts e → AreKeptAs b e.phase
connects_so b version statuses.More s bytes c acts e kept (is, ends) = kept_at b e _ ends kept
connects_so b version (statuses.Code code used) s bytes c acts e kept goes = welcomed_so b _ version code s c _ acts e kept goes
connects_so b version (statuses.Other used) s bytes c acts e kept (is, ends) = kept_at b e _ ends tt

accepts_so : (b : Bool) (answer : Answer) (s : SessionState) (greeter : Greeter) (bytes : List ℕ) (c : Course) (acts : List Action) (e : SessionState) → IsKeptAs b c → Accepts answer s greeter bytes c acts e → AreKeptAs b e.phase
accepts_so b answers.More s greeter bytes c acts e kept (is, ends) = kept_at b e _ ends kept
accepts_so b (answers.Accepted name version used) s greeter bytes c acts e kept goes = bytes_so b (speaking version s) (course_fed c (drop used bytes)) (actions.Send (status_text 200) ∷ opening version c.shares) acts e kept goes
accepts_so b (answers.Refused code used) s greeter bytes c acts e kept (is, ends) = kept_at b e _ ends tt

greets_so : (b : Bool) (s : SessionState) (greeter : Greeter) (bytes : List ℕ) (c : Course) (acts : List Action) (e : SessionState) → IsKeptAs b c → Greets s greeter bytes c acts e → AreKeptAs b e.phase
greets_so b s (greeters.Connects version) bytes c acts e kept goes = connects_so b version (status_of bytes) s bytes c acts e kept goes
greets_so b s (greeters.Accepts own peers) bytes c acts e kept goes = accepts_so b (answer_of own peers bytes) s (greeters.Accepts own peers) bytes c acts e kept goes

hello_so : (b : Bool) (s : SessionState) (greeter : Greeter) (bytes : List ℕ) (c : Course) (event : Event) (acts : List Action) (e : SessionState) → IsKeptAs b c → GoesHello s greeter bytes c event acts e → AreKeptAs b e.phase
hello_so b s greeter bytes c (events.Bytes piece) acts e kept goes = greets_so b s greeter (bytes ++ piece) c acts e kept goes
hello_so b s greeter bytes c events.Turn acts e kept (is, ends) = kept_at b e _ ends kept
hello_so b s greeter bytes c events.Tick acts e kept (is, ends) = kept_at b e _ ends kept
hello_so b s greeter bytes c events.Ask acts e kept (is, ends) = kept_at b e _ ends kept
hello_so b s greeter bytes c events.CaughtUp acts e kept (is, ends) = kept_at b e _ ends kept
hello_so b s greeter bytes c events.End acts e kept (is, ends) = kept_at b e _ ends tt
hello_so b s greeter bytes c events.ReadFault acts e kept (is, ends) = kept_at b e _ ends tt
hello_so b s greeter bytes c events.WriteFault acts e kept (is, ends) = kept_at b e _ ends tt
hello_so b s greeter bytes c events.Opened acts e kept goes = absurd goes
hello_so b s greeter bytes c (events.Copied table batch) acts e kept goes = absurd goes
hello_so b s greeter bytes c (events.Nothing table) acts e kept goes = absurd goes
hello_so b s greeter bytes c (events.Written known) acts e kept goes = absurd goes
hello_so b s greeter bytes c (events.Settled table settled) acts e kept goes = absurd goes
hello_so b s greeter bytes c (events.Refused table) acts e kept goes = absurd goes

turns_so : (b : Bool) (asked : Option ℕ) (s : SessionState) (c : Course) (acts : List Action) (e : SessionState) → IsKeptAs b c → Turns asked s c acts e → AreKeptAs b e.phase
turns_so b None s c acts e kept (is, ends) = kept_at b e _ ends kept
turns_so b (Some table) s c acts e kept (is, ends) = kept_at b e _ ends kept

finishes_so : (b q : Bool) (s : SessionState) (c : Course) (acts : List Action) (e : SessionState) → IsKeptAs b c → FinishesResync q s c acts e → AreKeptAs b e.phase
finishes_so b true s c acts e kept (is, ends) = kept_at b e _ ends kept
finishes_so b false s c acts e kept (is, ends) = kept_at b e _ ends kept

nothing_so : (b q : Bool) (s : SessionState) (c : Course) (table : ℕ) (acts : List Action) (e : SessionState) → IsKeptAs b c → HasNothing q s c table acts e → AreKeptAs b e.phase
nothing_so b true s c table acts e kept finishes = finishes_so b (all_quiet (quiet_set table c.shares)) s (record c { shares = quiet_set table c.shares }) acts e kept finishes
nothing_so b false s c table acts e kept (is, ends) = kept_at b e _ ends kept

starts_so : (b q : Bool) (s : SessionState) (c : Course) (acts : List Action) (e : SessionState) → IsKeptAs b c → StartsPendingResync q s c acts e → AreKeptAs b e.phase
starts_so b true s c acts e kept (is, ends) = kept_at b e _ ends kept
starts_so b false s c acts e kept (is, ends) = kept_at b e _ ends kept

settles_so : (b : Bool) (settled : Settled) (s : SessionState) (c : Course) (table : ℕ) (acts : List Action) (e : SessionState) → IsKeptAs b c → Settles settled s c table acts e → AreKeptAs b e.phase
settles_so b settles.All s c table acts e kept starts = starts_so b _ s (record c { shares = out_set table false c.shares }) acts e kept starts
settles_so b settles.Some s c table acts e kept (is, ends) = kept_at b e _ ends kept
settles_so b settles.Older s c table acts e kept (is, ends) = kept_at b e _ ends kept

answered_so : (b : Bool) (c mid : Course) → mid ≡ record c { due = mid.due } → IsKeptAs b c → IsKeptAs b mid
answered_so b c mid is kept = subst (IsKeptAs b) (sym is) kept

open_so : (b : Bool) (s : SessionState) (c : Course) (event : Event) (acts : List Action) (e : SessionState) → IsKeptAs b c → GoesOpen s c event acts e → AreKeptAs b e.phase
open_so b s c events.Turn acts e kept (due, turns) = turns_so b (table_to_ask c) s c acts e kept turns
open_so b s c events.Tick acts e kept (due, (is, ends)) = kept_at b e _ ends kept
open_so b s c events.Ask acts e kept (due, (is, ends)) = kept_at b e _ ends kept
open_so b s c events.CaughtUp acts e kept (due, (is, ends)) = kept_at b e _ ends kept
open_so b s c (events.Bytes bytes) acts e kept (due, receives) = bytes_so b s (course_fed c bytes) [] acts e kept receives
open_so b s c (events.Copied table batch) acts e kept (mid, answered, (is, ends)) = kept_at b e _ ends (answered_so b c mid answered.1 kept)
open_so b s c (events.Nothing table) acts e kept (mid, answered, nothing) = nothing_so b mid.teaching s mid table acts e (answered_so b c mid answered.1 kept) nothing
open_so b s c (events.Written known) acts e kept (mid, answered, is, ends) = kept_at b e _ ends (answered_so b c mid answered.1 kept)
open_so b s c (events.Settled table settled) acts e kept (mid, answered, settles) = settles_so b settled s mid table acts e (answered_so b c mid answered.1 kept) settles
open_so b s c (events.Refused table) acts e kept (mid, answered, is, ends) = kept_at b e _ ends tt
open_so b s c events.End acts e kept (is, ends) = kept_at b e _ ends tt
open_so b s c events.ReadFault acts e kept (is, ends) = kept_at b e _ ends tt
open_so b s c events.WriteFault acts e kept (is, ends) = kept_at b e _ ends tt
open_so b s c events.Opened acts e kept goes = absurd goes

goes_so : (b : Bool) (phase : Phase) (s : SessionState) (event : Event) (acts : List Action) (e : SessionState) → AreKeptAs b phase → GoesIn phase s event acts e → AreKeptAs b e.phase
goes_so b (phases.New hello c) s event acts e kept goes = new_so b s hello c event acts e kept goes
goes_so b (phases.Hello greeter bytes c) s event acts e kept goes = hello_so b s greeter bytes c event acts e kept goes
goes_so b (phases.Open c) s event acts e kept goes = open_so b s c event acts e kept goes
goes_so b phases.Ended s event acts e kept goes = absurd goes

-- ---- a session that stays

finished_so : (b q : Bool) (c : Course) → IsKeptAs b c → IsKeptAs b (finished_if q c).1
finished_so b true c kept = kept
finished_so b false c kept = kept

finishing_so : (b : Bool) (c : Course) → IsKeptAs b c → IsKeptAs b (finishing c).1
finishing_so b c kept = finished_so b _ c kept

leaving_so : (b : Bool) (left : List ℕ) (c : Course) → IsKeptAs b c → IsKeptAs b (leaving left c).1
leaving_so b [] c kept = kept
leaving_so b (table ∷ tables) c kept = finishing_so b (without_tables (table ∷ tables) c) kept

same_so : (b : Bool) (s e : StandingState) → e ≡ s → AreKeptAs b s.session.phase → AreKeptAs b e.session.phase
same_so b s e same kept = subst (λ (x : StandingState). AreKeptAs b x.session.phase) (sym same) kept

does_so : (b : Bool) (task : Task) (s e : StandingState) (c : Course) (now : ℕ) (acts : List Action) → s.session.phase ≡ phases.Open c → AreKeptAs b s.session.phase → Does task s c now acts e → AreKeptAs b e.session.phase
does_so b tasks.Copy s e c now acts stands kept (goes, paces) = goes_so b s.session.phase s.session events.Turn acts e.session kept goes
does_so b tasks.Rest s e c now acts stands kept (due, is, same) = same_so b s e same kept
does_so b tasks.Begin s e c now acts stands kept (due, is, session, paces) = kept_at b e.session _ session (finishing_so b (teaching_anew c) (subst (AreKeptAs b) stands kept))

turn_so : (b : Bool) (phase : Phase) (s e : StandingState) (now : ℕ) (acts : List Action) → s.session.phase ≡ phase → AreKeptAs b s.session.phase → TakesTurn phase s now acts e → AreKeptAs b e.session.phase
turn_so b (phases.Open c) s e now acts stands kept does = does_so b (task_at now s.pace c) s e c now acts stands kept does
turn_so b (phases.New hello c) s e now acts stands kept (goes, paces) = goes_so b s.session.phase s.session events.Turn acts e.session kept goes
turn_so b (phases.Hello greeter bytes c) s e now acts stands kept (goes, paces) = goes_so b s.session.phase s.session events.Turn acts e.session kept goes
turn_so b phases.Ended s e now acts stands kept (goes, paces) = goes_so b s.session.phase s.session events.Turn acts e.session kept goes

writes_so : (b : Bool) (phase : Phase) (s e : StandingState) (now : ℕ) (known : KnownState) (acts : List Action) → AreKeptAs b phase → Writes phase s now known acts e → AreKeptAs b e.session.phase
writes_so b (phases.Open c) s e now known acts kept (goes, is, paces) =
    open_so b (going s.session (ack_received c (inferred c.asked s.pace.progress)).1) (ack_received c (inferred c.asked s.pace.progress)).1 (events.Written known) [] e.session (ack_so b c (inferred c.asked s.pace.progress) kept) goes
writes_so b (phases.New hello c) s e now known acts kept writes = absurd writes
writes_so b (phases.Hello greeter bytes c) s e now known acts kept writes = absurd writes
writes_so b phases.Ended s e now known acts kept writes = absurd writes

ticks_so : (b silent : Bool) (phase : Phase) (s e : StandingState) (now : ℕ) (left : List ℕ) (rest : List Action) → s.session.phase ≡ phase → AreKeptAs b s.session.phase → TicksIn silent phase s now left rest e → AreKeptAs b e.session.phase
ticks_so b true phase s e now left rest stands kept (leaves, is, session, paces) = kept_at b e.session _ session tt
ticks_so b false (phases.Open c) s e now left rest stands kept (leaves, is, session, paces) = kept_at b e.session _ session (leaving_so b left c (subst (AreKeptAs b) stands kept))
ticks_so b false (phases.New hello c) s e now left rest stands kept (leaves, is, same) = same_so b s e same kept
ticks_so b false (phases.Hello greeter bytes c) s e now left rest stands kept (leaves, is, same) = same_so b s e same kept
ticks_so b false phases.Ended s e now left rest stands kept (leaves, is, same) = same_so b s e same kept

stands_so : (b : Bool) (event : Event) (s e : StandingState) (now : ℕ) (acts : List Action) → AreKeptAs b s.session.phase → Stands s now event acts e → AreKeptAs b e.session.phase
stands_so b (events.Bytes bytes) s e now acts kept (goes, paces) = goes_so b s.session.phase s.session (events.Bytes bytes) acts e.session kept goes
stands_so b events.Turn s e now acts kept turns = turn_so b s.session.phase s e now acts refl kept turns
stands_so b events.Tick s e now acts kept (asked, (left, rest, ticks, is)) = ticks_so b _ s.session.phase s e now left rest refl kept ticks
stands_so b (events.Written known) s e now acts kept writes = writes_so b s.session.phase s e now known acts kept writes
stands_so b (events.Copied table batch) s e now acts kept (goes, paces) = goes_so b s.session.phase s.session (events.Copied table batch) acts e.session kept goes
stands_so b (events.Refused table) s e now acts kept (goes, paces) = goes_so b s.session.phase s.session (answer_of_refusal (is_ahead table s.pace.progress) table) acts e.session kept goes
stands_so b events.CaughtUp s e now acts kept (goes, paces) = goes_so b s.session.phase s.session (word_of (has_left s.pace.progress)) acts e.session kept goes
stands_so b events.Ask s e now acts kept (goes, paces) = goes_so b s.session.phase s.session events.Ask acts e.session kept goes
stands_so b events.Opened s e now acts kept (goes, paces) = goes_so b s.session.phase s.session events.Opened acts e.session kept goes
stands_so b events.End s e now acts kept (goes, paces) = goes_so b s.session.phase s.session events.End acts e.session kept goes
stands_so b events.ReadFault s e now acts kept (goes, paces) = goes_so b s.session.phase s.session events.ReadFault acts e.session kept goes
stands_so b events.WriteFault s e now acts kept (goes, paces) = goes_so b s.session.phase s.session events.WriteFault acts e.session kept goes
stands_so b (events.Nothing table) s e now acts kept (goes, paces) = goes_so b s.session.phase s.session (events.Nothing table) acts e.session kept goes
stands_so b (events.Settled table settled) s e now acts kept (goes, paces) = goes_so b s.session.phase s.session (events.Settled table settled) acts e.session kept goes

-- ---- a session of either manner

kept_as : (m : Manner) (s e : KeptSession) (now : ℕ) (event : Event) (acts : List Action) → AreKeptAs (is_staying m) s.session.phase → StepsAs m s now event acts e → AreKeptAs (is_staying e.manner) e.session.phase
kept_as manners.Plain s e now event acts kept (goes, is) =
    subst (λ (k : Manner). AreKeptAs (is_staying k) e.session.phase) (sym is) (goes_so false s.session.phase s.session event acts e.session kept goes)
kept_as (manners.Staying p) s e now event acts kept (q, stands, is) =
    subst (λ (k : Manner). AreKeptAs (is_staying k) e.session.phase) (sym is) (stands_so true event (standing s.session p) (standing e.session q) now acts kept stands)

pub one_manner : (s e : KeptSession) (now : ℕ) (event : Event) (acts : List Action) → AreKeptAs (is_staying s.manner) s.session.phase → StepsAs s.manner s now event acts e → AreKeptAs (is_staying e.manner) e.session.phase
one_manner s e now event acts kept steps = kept_as s.manner s e now event acts kept steps

-- so it is after an event, refused or not
over_so : (b : Bool) (s e : SessionState) → e ≡ ended s → AreKeptAs b e.phase
over_so b s e ends = subst (λ (x : SessionState). AreKeptAs b x.phase) (sym ends) tt

pub plain_kept : {A : Type 0} (items : A → List Action) (result : Result A SessionError) (stay : Option (Box Stay Global)) (m n : Machine) (event : Event) → stay ≡ None → AreKeptAs (is_staying (manner_of stay)) (seen m).phase
    → IfOk result (λ acts. Goes (seen m) event (items acts) (seen n)) → OnErr result ((seen n ≡ ended (seen m)) × (n.heard ≡ m.heard)) → AreKeptAs (is_staying (manner_of stay)) (seen n).phase
plain_kept items (Ok acts) stay m n event is kept goes ends =
    let before : AreKeptAs false (seen m).phase = subst (λ (x : Option (Box Stay Global)). AreKeptAs (is_staying (manner_of x)) (seen m).phase) is kept in
    let after : AreKeptAs false (seen n).phase = goes_so false (seen m).phase (seen m) event (items acts) (seen n) before goes in
    subst (λ (x : Option (Box Stay Global)). AreKeptAs (is_staying (manner_of x)) (seen n).phase) (sym is) after
plain_kept items (Err e) stay m n event is kept goes ends = over_so (is_staying (manner_of stay)) (seen m) (seen n) ends.0

pub staying_kept : {A : Type 0} (items : A → List Action) (result : Result A SessionError) (stay : Option (Box Stay Global)) (box : Box Stay Global) (m n : Machine) (t u : Stay) (now : ℕ) (event : Event) → stay ≡ Some box → AreKeptAs (is_staying (manner_of stay)) (seen m).phase
    → IfOk result (λ acts. Stands (stood m t) now event (items acts) (stood n u)) → OnErr result ((seen n ≡ ended (seen m)) × (n.heard ≡ m.heard) × (u ≡ t)) → AreKeptAs true (seen n).phase
staying_kept items (Ok acts) stay box m n t u now event is kept stands ends =
    let before : AreKeptAs true (seen m).phase = subst (λ (x : Option (Box Stay Global)). AreKeptAs (is_staying (manner_of x)) (seen m).phase) is kept in
    stands_so true event (stood m t) (stood n u) now (items acts) before stands
staying_kept items (Err e) stay box m n t u now event is kept stands ends = over_so true (seen m) (seen n) ends.0

-- a session that begins to stay
pub stays_so : (phase : Phase) → AreKeptAs true (changed staying phase)
stays_so (phases.New hello c) = (refl, refl)
stays_so (phases.Hello greeter bytes c) = (refl, refl)
stays_so (phases.Open c) = (refl, refl)
stays_so phases.Ended = tt
