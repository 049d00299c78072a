-- A session that holds only bytes goes on to hold only bytes.
use Rattle.std.proofs.Common.{◌≡◌, ℕ, zero, suc, ◌<◌, Bool, true, false, List, [], ◌∷◌, ◌++◌, Option, Some, None, Ok, Err, sym, subst, arith, inl, inr}
use Rattle.std.specs.Prelude.{drop, slice_index}
use Rattle.table_types.specs.Tables.{Definition}
use Rattle.table_types.specs.declared.copies.Settled.{Settled}
use Rattle.table_types.specs.declared.copies.Settled.TheVariants as settles
use Rattle.table_types.specs.declared.version.Version.{Version}
use Rattle.peers_msg.specs.Integers.{IsBytes}
use Rattle.peers_msg.proofs.FieldCanonical.{IsBytes-drop}
use Rattle.peers_hello.specs.declared.hello.Hello.{Hello}
use Rattle.peers_hello.specs.declared.hello.Answer.{Answer}
use Rattle.peers_hello.specs.declared.hello.Answer.TheVariants as answers
use Rattle.peers_hello.specs.declared.status.Status.{Status}
use Rattle.peers_hello.specs.declared.status.Status.TheVariants as statuses
use Rattle.peers_hello.specs.Hellos.{answer_of}
use Rattle.peers_hello.specs.Statuses.{status_of}
use Rattle.session_core.specs.declared.action.Action.{Action}
use Rattle.session_core.specs.declared.action.Action.TheVariants as actions
use Rattle.session_core.specs.declared.due.Due.{Due}
use Rattle.session_core.specs.declared.event.Event.{Event}
use Rattle.session_core.specs.declared.event.Event.TheVariants as events
use Rattle.session_core.specs.declared.halt.Halt.TheVariants as halts
use Rattle.session_core.specs.declared.phase.Greeter.{Greeter}
use Rattle.session_core.specs.declared.phase.Greeter.TheVariants as greeters
use Rattle.session_core.specs.Phases.{Phase}
use Rattle.session_core.specs.Phases as phases
use Rattle.session_core.specs.Actions.{sends_control, status_text}
use Rattle.session_core.specs.Courses.{Course, course_fed, table_to_ask}
use Rattle.session_core.specs.Runs.{BringsBytes, HoldsBytes, IsBegun}
use Rattle.session_core.specs.Sessions.{SessionState, Accepts, Connects, FinishesResync, Goes, GoesHello, GoesIn, GoesNew, GoesOpen, Greets, HasNothing, IsWelcomed, ReceivesBytes, Settles, StartsPendingResync, Turns, first_word, opening, speaking}
use Rattle.session_core.proofs.ReceivingGoesOn.{received_good}

pub append_good : (a b : List ℕ) → IsBytes a → IsBytes b → (i : ℕ) → slice_index (a ++ b) i < 256
append_good [] b one other i = other i
append_good (x ∷ xs) b one other zero = one zero
append_good (x ∷ xs) b one other (suc i) = append_good xs b (λ (j : ℕ). one (suc j)) other i

-- the session after a step holds only bytes
held : (e x : SessionState) → e ≡ x → HoldsBytes x.phase → HoldsBytes e.phase
held e x ends holds = subst (λ (y : SessionState). HoldsBytes y.phase) (sym ends) holds

-- an answer leaves the unread bytes as they were
answered_good : (c mid : Course) (due : List Due) → mid ≡ record c { due = due } → IsBytes c.intake.unread → IsBytes mid.intake.unread
answered_good c mid due is good = subst (λ (x : Course). IsBytes x.intake.unread) (sym is) good

held_received : (s e : SessionState) (c : Course) (first acts : List Action) → IsBytes c.intake.unread → ReceivesBytes s c first acts e → HoldsBytes e.phase
held_received s e c first acts good (Ok _, given, mid, (ts, all, waits), (is, ends)) = held e _ ends (received_good c mid ts given good all)
held_received s e c first acts good (Err halts.Failed, given, mid, receives, (is, ends)) = held e _ ends tt
held_received s e c first acts good (Err (halts.Fault fault), given, mid, receives, (is, ends)) = held e _ ends tt
held_received s e c first acts good (Err halts.Memory, given, mid, receives, concludes) = absurd concludes

held_new : (s e : SessionState) (hello : Hello) (c : Course) (event : Event) (acts : List Action) → IsBytes c.intake.unread → GoesNew s hello c event acts e → HoldsBytes e.phase
held_new s e hello c events.Opened acts good (is, ends) = held e _ ends ((λ i. omega arith), good)
held_new s e hello c events.Turn acts good (is, ends) = held e _ ends good
held_new s e hello c events.Tick acts good (is, ends) = held e _ ends good
held_new s e hello c events.Ask acts good (is, ends) = held e _ ends good
held_new s e hello c events.CaughtUp acts good (is, ends) = held e _ ends good
held_new s e hello c events.End acts good (is, ends) = held e _ ends tt
held_new s e hello c events.ReadFault acts good (is, ends) = held e _ ends tt
held_new s e hello c events.WriteFault acts good (is, ends) = held e _ ends tt
held_new s e hello c (events.Bytes bytes) acts good goes = absurd goes
held_new s e hello c (events.Copied table batch) acts good goes = absurd goes
held_new s e hello c (events.Nothing table) acts good goes = absurd goes
held_new s e hello c (events.Written known) acts good goes = absurd goes
held_new s e hello c (events.Settled table settled) acts good goes = absurd goes
held_new s e hello c (events.Refused table) acts good goes = absurd goes

-- only bytes are fed after a greeting
pub fed_good : (c : Course) (used : ℕ) (bytes : List ℕ) → IsBytes c.intake.unread → IsBytes bytes → IsBytes (course_fed c (drop used bytes)).intake.unread
fed_good c used bytes unread good = append_good c.intake.unread (drop used bytes) unread (IsBytes-drop used bytes good)

held_welcomed : (welcome : Bool) (version : Version) (code : ℕ) (s e : SessionState) (c : Course) (rest : List ℕ) (acts : List Action) → IsBytes (course_fed c rest).intake.unread → IsWelcomed welcome version code s c rest acts e → HoldsBytes e.phase
held_welcomed true version code s e c rest acts good receives = held_received (speaking version s) e (course_fed c rest) (sends_control (first_word c.stays) ∷ opening version c.shares) acts good receives
held_welcomed false version code s e c rest acts good (is, ends) = held e _ ends tt

held_connects : (version : Version) (status : Status) (s e : SessionState) (bytes : List ℕ) (c : Course) (acts : List Action) → IsBytes bytes → IsBytes c.intake.unread → Connects version status s bytes c acts e → HoldsBytes e.phase
held_connects version statuses.More s e bytes c acts good unread (is, ends) = held e _ ends (good, unread)
held_connects version (statuses.Code code used) s e bytes c acts good unread goes = held_welcomed _ version code s e c (drop used bytes) acts (fed_good c used bytes unread good) goes
held_connects version (statuses.Other used) s e bytes c acts good unread (is, ends) = held e _ ends tt

held_accepts : (answer : Answer) (s e : SessionState) (greeter : Greeter) (bytes : List ℕ) (c : Course) (acts : List Action) → IsBytes bytes → IsBytes c.intake.unread → Accepts answer s greeter bytes c acts e → HoldsBytes e.phase
held_accepts answers.More s e greeter bytes c acts good unread (is, ends) = held e _ ends (good, unread)
held_accepts (answers.Accepted name version used) s e greeter bytes c acts good unread goes =
    held_received (speaking version s) e (course_fed c (drop used bytes)) (actions.Send (status_text 200) ∷ opening version c.shares) acts (fed_good c used bytes unread good) goes
held_accepts (answers.Refused code used) s e greeter bytes c acts good unread (is, ends) = held e _ ends tt

held_greets : (greeter : Greeter) (s e : SessionState) (bytes : List ℕ) (c : Course) (acts : List Action) → IsBytes bytes → IsBytes c.intake.unread → Greets s greeter bytes c acts e → HoldsBytes e.phase
held_greets (greeters.Connects version) s e bytes c acts good unread goes = held_connects version (status_of bytes) s e bytes c acts good unread goes
held_greets (greeters.Accepts own peers) s e bytes c acts good unread goes = held_accepts (answer_of own peers bytes) s e (greeters.Accepts own peers) bytes c acts good unread goes

held_hello : (s e : SessionState) (greeter : Greeter) (bytes : List ℕ) (c : Course) (event : Event) (acts : List Action) → IsBytes bytes × IsBytes c.intake.unread → BringsBytes event → GoesHello s greeter bytes c event acts e → HoldsBytes e.phase
held_hello s e greeter bytes c (events.Bytes piece) acts holds brings goes = held_greets greeter s e (bytes ++ piece) c acts (append_good bytes piece holds.0 brings) holds.1 goes
held_hello s e greeter bytes c events.Turn acts holds brings (is, ends) = held e _ ends holds
held_hello s e greeter bytes c events.Tick acts holds brings (is, ends) = held e _ ends holds
held_hello s e greeter bytes c events.Ask acts holds brings (is, ends) = held e _ ends holds
held_hello s e greeter bytes c events.CaughtUp acts holds brings (is, ends) = held e _ ends holds
held_hello s e greeter bytes c events.End acts holds brings (is, ends) = held e _ ends tt
held_hello s e greeter bytes c events.ReadFault acts holds brings (is, ends) = held e _ ends tt
held_hello s e greeter bytes c events.WriteFault acts holds brings (is, ends) = held e _ ends tt
held_hello s e greeter bytes c events.Opened acts holds brings goes = absurd goes
held_hello s e greeter bytes c (events.Copied table batch) acts holds brings goes = absurd goes
held_hello s e greeter bytes c (events.Nothing table) acts holds brings goes = absurd goes
held_hello s e greeter bytes c (events.Written known) acts holds brings goes = absurd goes
held_hello s e greeter bytes c (events.Settled table settled) acts holds brings goes = absurd goes
held_hello s e greeter bytes c (events.Refused table) acts holds brings goes = absurd goes

held_turns : (table : Option ℕ) (s e : SessionState) (c : Course) (acts : List Action) → IsBytes c.intake.unread → Turns table s c acts e → HoldsBytes e.phase
held_turns None s e c acts good (is, ends) = held e _ ends good
held_turns (Some table) s e c acts good (is, ends) = held e _ ends good

held_finishes : (quiet : Bool) (s e : SessionState) (c : Course) (acts : List Action) → IsBytes c.intake.unread → FinishesResync quiet s c acts e → HoldsBytes e.phase
held_finishes true s e c acts good (is, ends) = held e _ ends good
held_finishes false s e c acts good (is, ends) = held e _ ends good

held_nothing : (teaching : Bool) (s e : SessionState) (c : Course) (table : ℕ) (acts : List Action) → IsBytes c.intake.unread → HasNothing teaching s c table acts e → HoldsBytes e.phase
held_nothing true s e c table acts good goes = held_finishes _ s e _ acts good goes
held_nothing false s e c table acts good (is, ends) = held e _ ends good

held_starts : (starts : Bool) (s e : SessionState) (c : Course) (acts : List Action) → IsBytes c.intake.unread → StartsPendingResync starts s c acts e → HoldsBytes e.phase
held_starts true s e c acts good (is, ends) = held e _ ends good
held_starts false s e c acts good (is, ends) = held e _ ends good

held_settles : (settled : Settled) (s e : SessionState) (c : Course) (table : ℕ) (acts : List Action) → IsBytes c.intake.unread → Settles settled s c table acts e → HoldsBytes e.phase
held_settles settles.All s e c table acts good goes = held_starts _ s e _ acts good goes
held_settles settles.Some s e c table acts good (is, ends) = held e _ ends good
held_settles settles.Older s e c table acts good (is, ends) = held e _ ends good

held_open : (s e : SessionState) (c : Course) (event : Event) (acts : List Action) → IsBytes c.intake.unread → BringsBytes event → GoesOpen s c event acts e → HoldsBytes e.phase
held_open s e c events.Turn acts good brings (none, turns) = held_turns (table_to_ask c) s e c acts good turns
held_open s e c events.Tick acts good brings (none, (is, ends)) = held e _ ends good
held_open s e c events.Ask acts good brings (none, (is, ends)) = held e _ ends good
held_open s e c events.CaughtUp acts good brings (none, (is, ends)) = held e _ ends good
held_open s e c (events.Bytes bytes) acts good brings (none, receives) =
    held_received s e (course_fed c bytes) [] acts (append_good c.intake.unread bytes good brings) receives
held_open s e c (events.Copied table batch) acts good brings (mid, answered, (is, ends)) = held e _ ends (answered_good c mid mid.due answered.1 good)
held_open s e c (events.Nothing table) acts good brings (mid, answered, nothing) = held_nothing mid.teaching s e mid table acts (answered_good c mid mid.due answered.1 good) nothing
held_open s e c (events.Written known) acts good brings (mid, answered, is, ends) = held e _ ends (answered_good c mid mid.due answered.1 good)
held_open s e c (events.Settled table settled) acts good brings (mid, answered, settles) = held_settles settled s e mid table acts (answered_good c mid mid.due answered.1 good) settles
held_open s e c (events.Refused table) acts good brings (mid, answered, is, ends) = held e _ ends tt
held_open s e c events.End acts good brings (is, ends) = held e _ ends tt
held_open s e c events.ReadFault acts good brings (is, ends) = held e _ ends tt
held_open s e c events.WriteFault acts good brings (is, ends) = held e _ ends tt
held_open s e c events.Opened acts good brings goes = absurd goes

held_in : (phase : Phase) (s e : SessionState) (event : Event) (acts : List Action) → HoldsBytes phase → BringsBytes event → GoesIn phase s event acts e → HoldsBytes e.phase
held_in (phases.New hello c) s e event acts holds brings goes = held_new s e hello c event acts holds goes
held_in (phases.Hello greeter bytes c) s e event acts holds brings goes = held_hello s e greeter bytes c event acts holds brings goes
held_in (phases.Open c) s e event acts holds brings goes = held_open s e c event acts holds brings goes
held_in phases.Ended s e event acts holds brings goes = absurd goes

pub step_holds : (s e : SessionState) (event : Event) (acts : List Action) → HoldsBytes s.phase → BringsBytes event → Goes s event acts e → HoldsBytes e.phase
step_holds s e event acts holds brings goes = held_in s.phase s e event acts holds brings goes

-- ---- the beginning

pub begun_holds : (roster : List Definition) (s : SessionState) → IsBegun roster s → HoldsBytes s.phase
begun_holds roster s (inl (hello, up_to_date, is)) = held s _ is (λ i. omega arith)
begun_holds roster s (inr (own, peers, up_to_date, is)) = held s _ is ((λ i. omega arith), (λ i. omega arith))
