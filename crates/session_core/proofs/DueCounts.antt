-- How many answers are due in a session, before and after each event.
use Rattle.std.proofs.Common.{arith, ◌≡◌, ◌⊎◌, ◌+◌, ◌&&◌, ℕ, suc, Bool, true, false, List, [], ◌∷◌, ◌++◌, length, Option, Some, None, Ok, Err, refl, sym, ap, ◌∙◌, inl, inr}
use Rattle.std.specs.Prelude.{◌==◌, drop}
use Rattle.std.proofs.lemmas.List.{length_push}
use Rattle.table_types.specs.declared.copies.Settled.{Settled}
use Rattle.table_types.specs.declared.copies.Settled.TheVariants as settles
use Rattle.table_types.specs.declared.version.Version.{Version}
use Rattle.table_types.specs.declared.version.Version.TheVariants as versions
use Rattle.peers_msg.specs.declared.control.Control.{Control}
use Rattle.peers_msg.specs.declared.control.Control.TheVariants as controls
use Rattle.peers_msg.specs.declared.message.Message.{Message}
use Rattle.peers_hello.specs.declared.hello.Hello.{Hello}
use Rattle.peers_hello.specs.declared.hello.Answer.{Answer}
use Rattle.peers_hello.specs.declared.hello.Answer.TheVariants as hellos
use Rattle.peers_hello.specs.declared.status.Status.{Status}
use Rattle.peers_hello.specs.declared.status.Status.TheVariants as statuses
use Rattle.peers_hello.specs.Hellos.{answer_of}
use Rattle.peers_hello.specs.Statuses.{status_of}
use Rattle.known_state.specs.Known.{KnownState}
use Rattle.learner.specs.Intake.{due_acks}
use Rattle.learner.specs.declared.taken.Taken.{Taken}
use Rattle.learner.specs.declared.taken.Taken.TheVariants as taken
use Rattle.session_core.specs.declared.action.Action.{Action}
use Rattle.session_core.specs.declared.action.Action.TheVariants as actions
use Rattle.session_core.specs.declared.due.Due.{Due}
use Rattle.session_core.specs.declared.due.Due.TheVariants as dues
use Rattle.session_core.specs.declared.event.Event.{Event}
use Rattle.session_core.specs.declared.event.Event.TheVariants as events
use Rattle.session_core.specs.declared.halt.Halt.TheVariants as halts
use Rattle.session_core.specs.declared.pace.Task.{Task}
use Rattle.session_core.specs.declared.pace.Task.TheVariants as tasks
use Rattle.session_core.specs.declared.phase.Greeter.{Greeter}
use Rattle.session_core.specs.declared.phase.Greeter.TheVariants as greeters
use Rattle.session_core.specs.declared.share.Share.{Share}
use Rattle.session_core.specs.Acks.{ack_of}
use Rattle.session_core.specs.Actions.{control_text, reopens, sends_acks, status_text}
use Rattle.session_core.specs.Shares.{all_quiet, is_out, out_set, quiet_set}
use Rattle.session_core.specs.Courses.{Course, AreReceived, ack_received, acknowledged, course_fed, is_held, message_received, requested, said, table_to_ask, teaching_anew}
use Rattle.session_core.specs.Keeping.{KeptSession, StepsAs, standing}
use Rattle.session_core.specs.Manners.{Manner}
use Rattle.session_core.specs.Manners as manners
use Rattle.session_core.specs.Paces.{has_left, has_passed, heartbeat_time, silence_time, inferred, is_ahead}
use Rattle.session_core.specs.Phases.{Phase}
use Rattle.session_core.specs.Phases as phases
use Rattle.session_core.specs.Sessions.{SessionState, Accepts, BecomesReady, Connects, FinishesResync, GoesHello, GoesIn, GoesNew, GoesOpen, Greets, HasNothing, IsWelcomed, ReceivesBytes, Settles, StartsPendingResync, Stays, Turns, first_word, going, opening, speaking}
use Rattle.session_core.specs.Standing.{StandingState, Does, Stands, TakesTurn as StandsTurn, TicksIn, Writes, answer_of_refusal, finished_if, finishing, heartbeats, leaving, reopening, task_at, without_tables, word_of}

-- ---- how many answers

-- an action has an answer or none
abbrev pub weight : Action → ℕ
weight (actions.Ack table number) = 1
weight (actions.Copy table kind) = 1
weight (actions.Teach batch) = 1
weight act = 0

abbrev pub answers_of : List Action → ℕ
answers_of [] = 0
answers_of (act ∷ acts) = weight act + answers_of acts

-- an event gives an answer or none
abbrev pub given_by : Event → ℕ
given_by (events.Copied table batch) = 1
given_by (events.Nothing table) = 1
given_by (events.Written known) = 1
given_by (events.Settled table settled) = 1
given_by (events.Refused table) = 1
given_by event = 0

-- the answers that are due
abbrev pub due_in : Phase → ℕ
due_in (phases.New hello c) = length c.due
due_in (phases.Hello greeter bytes c) = length c.due
due_in (phases.Open c) = length c.due
due_in phases.Ended = 0

-- At the event the session is over; or the answer that the event gives is no longer due, and those of the actions are.
abbrev pub Balances : Phase → Event → List Action → Phase → Type 0
Balances a event acts b = (b ≡ phases.Ended) ⊎ (due_in b + given_by event ≡ due_in a + answers_of acts)

sums : (a b c : ℕ) → a + (b + c) ≡ (a + b) + c
sums a b c = omega arith

none_first : (n : ℕ) → n ≡ 0 + n
none_first n = omega arith

pub answers_on : (xs ys : List Action) → answers_of (xs ++ ys) ≡ answers_of xs + answers_of ys
answers_on [] ys = none_first (answers_of ys)
answers_on (act ∷ xs) ys = ap (λ (n : ℕ). weight act + n) (answers_on xs ys) ∙ sums (weight act) (answers_of xs) (answers_of ys)

both_none : (a b : ℕ) → a ≡ 0 → b ≡ 0 → a + b ≡ 0
both_none a b one other = omega (arith, one, other)

reopens_none : (ss : List Share) → answers_of (reopens ss) ≡ 0
reopens_none [] = refl
reopens_none (s ∷ ss) = both_none 0 (answers_of (reopens ss)) refl (reopens_none ss)

reopening_none : (tables : List ℕ) → answers_of (reopening tables) ≡ 0
reopening_none [] = refl
reopening_none (table ∷ tables) = both_none 0 (answers_of (reopening tables)) refl (reopening_none tables)

-- ---- sums

-- as many are due as before, and no answer comes or goes
pub level : (b g a n : ℕ) → b ≡ a → g ≡ 0 → n ≡ 0 → b + g ≡ a + n
level b g a n same none silent = omega (arith, same, none, silent)

-- the first that is due is given
one_less : (b a n m : ℕ) → b ≡ m → a ≡ m + 1 → n ≡ 0 → b + 1 ≡ a + n
one_less b a n m left first silent = omega (arith, left, first, silent)

-- the first that is due is given, and another one is due
another : (b a n m : ℕ) → b ≡ m + 1 → a ≡ m + 1 → n ≡ 1 → b + 1 ≡ a + n
another b a n m left first one = omega (arith, left, first, one)

none_more : (n m : ℕ) → m ≡ 0 → n ≡ n + m
none_more n m none = omega (arith, none)

after_more : (e m d c a r all : ℕ) → e ≡ m + r → m ≡ d + a → d ≡ c → all ≡ a + r → e ≡ c + all
after_more e m d c a r all more one same joined = omega (arith, more, one, same, joined)

one_longer : (n : ℕ) → suc n ≡ n + 1
one_longer n = omega arith

first_due : (xs rest : List Due) (d : Due) → xs ≡ d ∷ rest → length xs ≡ length rest + 1
first_due xs rest d is = ap length is ∙ one_longer (length rest)

-- ---- messages

requested_counts : (b : Bool) (c : Course) → length (requested b c).1.due ≡ length c.due + answers_of (requested b c).0
requested_counts true c = none_more (length c.due) 0 refl
requested_counts false c = none_more (length c.due) (answers_of (reopens c.shares)) (reopens_none c.shares)

said_counts : (c : Course) (control : Control) → length (said c control).1.due ≡ length c.due + answers_of (said c control).0
said_counts c controls.ResyncRequest = requested_counts (is_held c.stays c.shares) c
said_counts c controls.ResyncFinished = none_more (length c.due) 0 refl
said_counts c controls.ResyncPartial = none_more (length c.due) 0 refl
said_counts c controls.ResyncConfirmed = none_more (length c.due) 0 refl
said_counts c controls.Heartbeat = none_more (length c.due) 0 refl

acknowledged_counts : (b : Bool) (c : Course) (table number : ℕ) → length (acknowledged b c table number).1.due ≡ length c.due + answers_of (acknowledged b c table number).0
acknowledged_counts true c table number = length_push c.due (dues.Ack table)
acknowledged_counts false c table number = none_more (length c.due) 0 refl

ack_counts : (c : Course) (ack : Option (ℕ × ℕ)) → length (ack_received c ack).1.due ≡ length c.due + answers_of (ack_received c ack).0
ack_counts c None = none_more (length c.due) 0 refl
ack_counts c (Some (table, number)) = acknowledged_counts (is_out table c.shares) c table number

message_counts : (c : Course) (t : Taken) → length (message_received c t).1.due ≡ length c.due + answers_of (message_received c t).0
message_counts c (taken.Row u) = none_more (length c.due) 0 refl
message_counts c taken.Passed = none_more (length c.due) 0 refl
message_counts c (taken.Said control) = said_counts c control
message_counts c (taken.Acked table number) = ack_counts c (ack_of c.intake.roster (taken.Acked table number))
message_counts c (taken.Failed kind) = none_more (length c.due) 0 refl

received_counts : (c : Course) (ts : List Taken) (acts : List Action) (e : Course) → AreReceived c ts acts e → length e.due ≡ length c.due + answers_of acts
received_counts c [] acts e (none, same) = ap (λ (x : Course). length x.due) same ∙ none_more (length c.due) (answers_of acts) (ap answers_of none)
received_counts c (t ∷ ts) acts e (mid, rest, (fails, reads, is), all, after) =
    let one = message_counts mid t in
    let more = received_counts (message_received mid t).1 ts rest e after in
    after_more (length e.due) (length (message_received mid t).1.due) (length mid.due) (length c.due) (answers_of (message_received mid t).0) (answers_of rest) (answers_of acts)
    more one (ap (λ (x : Course). length x.due) is) (ap answers_of all ∙ answers_on (message_received mid t).0 rest)

-- a course that was fed bytes ends, or has as many more due as the actions have answers
abbrev Adds : Course → List Action → SessionState → Type 0
Adds c acts e = (e.phase ≡ phases.Ended) ⊎ (due_in e.phase ≡ length c.due + answers_of acts)

acks_none : (ms : List Message) → answers_of (sends_acks ms) ≡ 0
acks_none [] = refl
acks_none (m ∷ ms) = refl

concluded : (e m c g f a acts : ℕ) → e ≡ m → m ≡ c + g → f ≡ 0 → a ≡ 0 → acts ≡ (f + g) + a → e ≡ c + acts
concluded e m c g f a acts same more first acks all = omega (arith, same, more, first, acks, all)

receives_counts : (s : SessionState) (c : Course) (first acts : List Action) (e : SessionState) → answers_of first ≡ 0 → ReceivesBytes s c first acts e → Adds c acts e
receives_counts s c first acts e none (Ok done, given, mid, (ts, received, waits), (is, then)) =
    inr (concluded (due_in e.phase) (length mid.due) (length c.due) (answers_of given) (answers_of first) (answers_of (sends_acks (due_acks mid.intake))) (answers_of acts)
    (ap (λ (x : SessionState). due_in x.phase) then) (received_counts c ts given mid received) none (acks_none (due_acks mid.intake))
    (ap answers_of is ∙ (answers_on (first ++ given) (sends_acks (due_acks mid.intake)) ∙ ap (λ (n : ℕ). n + answers_of (sends_acks (due_acks mid.intake))) (answers_on first given))))
receives_counts s c first acts e none (Err halts.Failed, given, mid, received, (is, then)) = inl (ap (λ (x : SessionState). x.phase) then)
receives_counts s c first acts e none (Err (halts.Fault fault), given, mid, received, (is, then)) = inl (ap (λ (x : SessionState). x.phase) then)
receives_counts s c first acts e none (Err halts.Memory, given, mid, received, concludes) = absurd concludes

-- ---- one event of a plain session

added : (a : Phase) (c : Course) (event : Event) (acts : List Action) (e : SessionState) → due_in a ≡ length c.due → given_by event ≡ 0 → Adds c acts e → Balances a event acts e.phase
added a c event acts e same none (inl over) = inl over
added a c event acts e same none (inr count) = inr (balanced (due_in e.phase) (given_by event) (due_in a) (length c.due) (answers_of acts) count none same)
  where
    balanced : (b g a c n : ℕ) → b ≡ c + n → g ≡ 0 → a ≡ c → b + g ≡ a + n
    balanced b g a c n count none same = omega (arith, count, none, same)

stays_level : (a b : Phase) (s : SessionState) (event : Event) (acts : List Action) (e : SessionState) → due_in b ≡ due_in a → given_by event ≡ 0 → Stays s b acts e → Balances a event acts e.phase
stays_level a b s event acts e same none (is, then) =
    inr (level (due_in e.phase) (given_by event) (due_in a) (answers_of acts) (ap (λ (x : SessionState). due_in x.phase) then ∙ same) none (ap answers_of is))

closes_over : (a : Phase) (s : SessionState) (event : Event) (acts : List Action) (e : SessionState) → e ≡ record s { phase = phases.Ended } → Balances a event acts e.phase
closes_over a s event acts e then = inl (ap (λ (x : SessionState). x.phase) then)

-- an answer that leaves as many due as the course `c` has, and asks for nothing that has one
abbrev IsQuiet : Course → List Action → SessionState → Type 0
IsQuiet c acts e = (due_in e.phase ≡ length c.due) × (answers_of acts ≡ 0)

finishes_quiet : (b : Bool) (s : SessionState) (c : Course) (acts : List Action) (e : SessionState) → FinishesResync b s c acts e → IsQuiet c acts e
finishes_quiet true s c acts e (is, then) = (ap (λ (x : SessionState). due_in x.phase) then, ap answers_of is)
finishes_quiet false s c acts e (is, then) = (ap (λ (x : SessionState). due_in x.phase) then, ap answers_of is)

nothing_quiet : (b : Bool) (s : SessionState) (c : Course) (table : ℕ) (acts : List Action) (e : SessionState) → HasNothing b s c table acts e → IsQuiet c acts e
nothing_quiet true s c table acts e goes = finishes_quiet (all_quiet (quiet_set table c.shares)) s (record c { shares = quiet_set table c.shares }) acts e goes
nothing_quiet false s c table acts e (is, then) = (ap (λ (x : SessionState). due_in x.phase) then, ap answers_of is)

pending_quiet : (b : Bool) (s : SessionState) (c : Course) (acts : List Action) (e : SessionState) → StartsPendingResync b s c acts e → IsQuiet c acts e
pending_quiet true s c acts e (is, then) = (ap (λ (x : SessionState). due_in x.phase) then, ap answers_of is ∙ reopens_none c.shares)
pending_quiet false s c acts e (is, then) = (ap (λ (x : SessionState). due_in x.phase) then, ap answers_of is)

settles_quiet : (settled : Settled) (s : SessionState) (c : Course) (table : ℕ) (acts : List Action) (e : SessionState) → Settles settled s c table acts e → IsQuiet c acts e
settles_quiet settles.All s c table acts e goes = pending_quiet _ s (record c { shares = out_set table false c.shares }) acts e goes
settles_quiet settles.Some s c table acts e (is, then) = (ap (λ (x : SessionState). due_in x.phase) then, ap answers_of is)
settles_quiet settles.Older s c table acts e (is, then) = (ap (λ (x : SessionState). due_in x.phase) then, ap answers_of is)

-- the answer `d`, the first due, is given
answered_less : (c mid : Course) (d : Due) (event : Event) (acts : List Action) (e : SessionState) → given_by event ≡ 1 → c.due ≡ d ∷ mid.due → IsQuiet mid acts e → Balances (phases.Open c) event acts e.phase
answered_less c mid d event acts e gives first quiet =
    inr (ap (λ (n : ℕ). due_in e.phase + n) gives
    ∙ one_less (due_in e.phase) (length c.due) (answers_of acts) (length mid.due) quiet.0 (first_due c.due mid.due d first) quiet.1)

turns_balance : (asked : Option ℕ) (s : SessionState) (c : Course) (acts : List Action) (e : SessionState) → c.due ≡ [] → Turns asked s c acts e → Balances (phases.Open c) events.Turn acts e.phase
turns_balance None s c acts e none stays = stays_level (phases.Open c) (phases.Open c) s events.Turn acts e refl refl stays
turns_balance (Some table) s c acts e none (is, then) =
    inr (asks (due_in e.phase) (length c.due) (answers_of acts) (ap (λ (x : SessionState). due_in x.phase) then) (ap length none) (ap answers_of is))
  where
    asks : (b a n : ℕ) → b ≡ 1 → a ≡ 0 → n ≡ 1 → b + 0 ≡ a + n
    asks b a n one none other = omega (arith, one, none, other)

open_balance : (s : SessionState) (c : Course) (event : Event) (acts : List Action) (e : SessionState) → GoesOpen s c event acts e → Balances (phases.Open c) event acts e.phase
open_balance s c events.Turn acts e (none, turns) = turns_balance (table_to_ask c) s c acts e none turns
open_balance s c events.Tick acts e (none, stays) = stays_level (phases.Open c) (phases.Open c) s events.Tick acts e refl refl stays
open_balance s c events.Ask acts e (none, (is, then)) = inr (level (due_in e.phase) 0 (length c.due) (answers_of acts) (ap (λ (x : SessionState). due_in x.phase) then) refl (ap answers_of is))
open_balance s c events.CaughtUp acts e (none, (is, then)) = inr (level (due_in e.phase) 0 (length c.due) (answers_of acts) (ap (λ (x : SessionState). due_in x.phase) then) refl (ap answers_of is))
open_balance s c (events.Bytes bytes) acts e (none, receives) = added (phases.Open c) (course_fed c bytes) (events.Bytes bytes) acts e refl refl (receives_counts s (course_fed c bytes) [] acts e refl receives)
open_balance s c (events.Copied table batch) acts e (mid, answered, (is, then)) =
    inr (another (due_in e.phase) (length c.due) (answers_of acts) (length mid.due) (ap (λ (x : SessionState). due_in x.phase) then ∙ one_longer (length mid.due)) (first_due c.due mid.due (dues.Copy table) answered.0) (ap answers_of is))
open_balance s c (events.Nothing table) acts e (mid, answered, goes) = answered_less c mid (dues.Copy table) (events.Nothing table) acts e refl answered.0 (nothing_quiet mid.teaching s mid table acts e goes)
open_balance s c (events.Written known) acts e (mid, answered, is, then) = answered_less c mid dues.Teach (events.Written known) acts e refl answered.0 (ap (λ (x : SessionState). due_in x.phase) then, ap answers_of is)
open_balance s c (events.Settled table settled) acts e (mid, answered, goes) = answered_less c mid (dues.Ack table) (events.Settled table settled) acts e refl answered.0 (settles_quiet settled s mid table acts e goes)
open_balance s c (events.Refused table) acts e (mid, answered, is, then) = closes_over (phases.Open c) s (events.Refused table) acts e then
open_balance s c events.End acts e (is, then) = closes_over (phases.Open c) s events.End acts e then
open_balance s c events.ReadFault acts e (is, then) = closes_over (phases.Open c) s events.ReadFault acts e then
open_balance s c events.WriteFault acts e (is, then) = closes_over (phases.Open c) s events.WriteFault acts e then
open_balance s c events.Opened acts e goes = absurd goes

new_balance : (s : SessionState) (hello : Hello) (c : Course) (event : Event) (acts : List Action) (e : SessionState) → GoesNew s hello c event acts e → Balances (phases.New hello c) event acts e.phase
new_balance s hello c events.Opened acts e (is, then) = inr (level (due_in e.phase) 0 (length c.due) (answers_of acts) (ap (λ (x : SessionState). due_in x.phase) then) refl (ap answers_of is))
new_balance s hello c events.Turn acts e stays = stays_level (phases.New hello c) (phases.New hello c) s events.Turn acts e refl refl stays
new_balance s hello c events.Tick acts e stays = stays_level (phases.New hello c) (phases.New hello c) s events.Tick acts e refl refl stays
new_balance s hello c events.Ask acts e stays = stays_level (phases.New hello c) (phases.New hello c) s events.Ask acts e refl refl stays
new_balance s hello c events.CaughtUp acts e (is, then) = inr (level (due_in e.phase) 0 (length c.due) (answers_of acts) (ap (λ (x : SessionState). due_in x.phase) then) refl (ap answers_of is))
new_balance s hello c events.End acts e (is, then) = closes_over (phases.New hello c) s events.End acts e then
new_balance s hello c events.ReadFault acts e (is, then) = closes_over (phases.New hello c) s events.ReadFault acts e then
new_balance s hello c events.WriteFault acts e (is, then) = closes_over (phases.New hello c) s events.WriteFault acts e then
new_balance s hello c (events.Bytes bytes) acts e goes = absurd goes
new_balance s hello c (events.Copied table batch) acts e goes = absurd goes
new_balance s hello c (events.Nothing table) acts e goes = absurd goes
new_balance s hello c (events.Written known) acts e goes = absurd goes
new_balance s hello c (events.Settled table settled) acts e goes = absurd goes
new_balance s hello c (events.Refused table) acts e goes = absurd goes

opening_none : (version : Version) (ss : List Share) → answers_of (opening version ss) ≡ 0
opening_none versions.V20 ss = reopens_none ss
opening_none versions.V21 ss = refl

ready_balance : (a : Phase) (version : Version) (bytes : List ℕ) (s : SessionState) (c : Course) (rest piece : List ℕ) (acts : List Action) (e : SessionState) → due_in a ≡ length c.due
    → BecomesReady version (actions.Send bytes) s c rest acts e → Balances a (events.Bytes piece) acts e.phase
ready_balance a version bytes s c rest piece acts e same ready =
    added a (course_fed c rest) (events.Bytes piece) acts e same refl
    (receives_counts (speaking version s) (course_fed c rest) (actions.Send bytes ∷ opening version c.shares) acts e (both_none 0 (answers_of (opening version c.shares)) refl (opening_none version c.shares)) ready)

welcomed_balance : (a : Phase) (b : Bool) (version : Version) (code : ℕ) (s : SessionState) (c : Course) (rest piece : List ℕ) (acts : List Action) (e : SessionState) → due_in a ≡ length c.due
    → IsWelcomed b version code s c rest acts e → Balances a (events.Bytes piece) acts e.phase
welcomed_balance a true version code s c rest piece acts e same ready = ready_balance a version (control_text (first_word c.stays)) s c rest piece acts e same ready
welcomed_balance a false version code s c rest piece acts e same (is, then) = inl (ap (λ (x : SessionState). x.phase) then)

connects_balance : (a : Phase) (version : Version) (status : Status) (s : SessionState) (bytes : List ℕ) (c : Course) (piece : List ℕ) (acts : List Action) (e : SessionState) → due_in a ≡ length c.due
    → Connects version status s bytes c acts e → Balances a (events.Bytes piece) acts e.phase
connects_balance a version statuses.More s bytes c piece acts e same stays = stays_level a (phases.Hello (greeters.Connects version) bytes c) s (events.Bytes piece) acts e (sym same) refl stays
connects_balance a version (statuses.Code code used) s bytes c piece acts e same welcomed = welcomed_balance a (code == 200) version code s c (drop used bytes) piece acts e same welcomed
connects_balance a version (statuses.Other used) s bytes c piece acts e same (is, then) = inl (ap (λ (x : SessionState). x.phase) then)

accepts_balance : (a : Phase) (answer : Answer) (s : SessionState) (greeter : Greeter) (bytes : List ℕ) (c : Course) (piece : List ℕ) (acts : List Action) (e : SessionState) → due_in a ≡ length c.due
    → Accepts answer s greeter bytes c acts e → Balances a (events.Bytes piece) acts e.phase
accepts_balance a hellos.More s greeter bytes c piece acts e same stays = stays_level a (phases.Hello greeter bytes c) s (events.Bytes piece) acts e (sym same) refl stays
accepts_balance a (hellos.Accepted name version used) s greeter bytes c piece acts e same ready = ready_balance a version (status_text 200) s c (drop used bytes) piece acts e same ready
accepts_balance a (hellos.Refused code used) s greeter bytes c piece acts e same (is, then) = inl (ap (λ (x : SessionState). x.phase) then)

greets_balance : (a : Phase) (greeter : Greeter) (s : SessionState) (bytes : List ℕ) (c : Course) (piece : List ℕ) (acts : List Action) (e : SessionState) → due_in a ≡ length c.due
    → Greets s greeter bytes c acts e → Balances a (events.Bytes piece) acts e.phase
greets_balance a (greeters.Connects version) s bytes c piece acts e same greets = connects_balance a version (status_of bytes) s bytes c piece acts e same greets
greets_balance a (greeters.Accepts own peers) s bytes c piece acts e same greets = accepts_balance a (answer_of own peers bytes) s (greeters.Accepts own peers) bytes c piece acts e same greets

hello_balance : (s : SessionState) (greeter : Greeter) (bytes : List ℕ) (c : Course) (event : Event) (acts : List Action) (e : SessionState) → GoesHello s greeter bytes c event acts e → Balances (phases.Hello greeter bytes c) event acts e.phase
hello_balance s greeter bytes c (events.Bytes piece) acts e goes = greets_balance (phases.Hello greeter bytes c) greeter s (bytes ++ piece) c piece acts e refl goes
hello_balance s greeter bytes c events.Turn acts e stays = stays_level (phases.Hello greeter bytes c) (phases.Hello greeter bytes c) s events.Turn acts e refl refl stays
hello_balance s greeter bytes c events.Tick acts e stays = stays_level (phases.Hello greeter bytes c) (phases.Hello greeter bytes c) s events.Tick acts e refl refl stays
hello_balance s greeter bytes c events.Ask acts e stays = stays_level (phases.Hello greeter bytes c) (phases.Hello greeter bytes c) s events.Ask acts e refl refl stays
hello_balance s greeter bytes c events.CaughtUp acts e (is, then) = inr (level (due_in e.phase) 0 (length c.due) (answers_of acts) (ap (λ (x : SessionState). due_in x.phase) then) refl (ap answers_of is))
hello_balance s greeter bytes c events.End acts e (is, then) = closes_over (phases.Hello greeter bytes c) s events.End acts e then
hello_balance s greeter bytes c events.ReadFault acts e (is, then) = closes_over (phases.Hello greeter bytes c) s events.ReadFault acts e then
hello_balance s greeter bytes c events.WriteFault acts e (is, then) = closes_over (phases.Hello greeter bytes c) s events.WriteFault acts e then
hello_balance s greeter bytes c events.Opened acts e goes = absurd goes
hello_balance s greeter bytes c (events.Copied table batch) acts e goes = absurd goes
hello_balance s greeter bytes c (events.Nothing table) acts e goes = absurd goes
hello_balance s greeter bytes c (events.Written known) acts e goes = absurd goes
hello_balance s greeter bytes c (events.Settled table settled) acts e goes = absurd goes
hello_balance s greeter bytes c (events.Refused table) acts e goes = absurd goes

goes_balance : (phase : Phase) (s : SessionState) (event : Event) (acts : List Action) (e : SessionState) → GoesIn phase s event acts e → Balances phase event acts e.phase
goes_balance (phases.New hello c) s event acts e goes = new_balance s hello c event acts e goes
goes_balance (phases.Hello greeter bytes c) s event acts e goes = hello_balance s greeter bytes c event acts e goes
goes_balance (phases.Open c) s event acts e goes = open_balance s c event acts e goes
goes_balance phases.Ended s event acts e goes = absurd goes

-- ---- one event of a session that stays

as_given : (a b : Phase) (event other : Event) (acts : List Action) → given_by event ≡ given_by other → Balances a event acts b → Balances a other acts b
as_given a b event other acts same (inl over) = inl over
as_given a b event other acts same (inr count) = inr (ap (λ (n : ℕ). due_in b + n) (sym same) ∙ count)

finished_quiet : (b : Bool) (c : Course) → (length (finished_if b c).1.due ≡ length c.due) × (answers_of (finished_if b c).0 ≡ 0)
finished_quiet true c = (refl, refl)
finished_quiet false c = (refl, refl)

does_balance : (task : Task) (s e : StandingState) (c : Course) (now : ℕ) (acts : List Action) → s.session.phase ≡ phases.Open c → Does task s c now acts e → Balances s.session.phase events.Turn acts e.session.phase
does_balance tasks.Copy s e c now acts stands (goes, pace) = goes_balance s.session.phase s.session events.Turn acts e.session goes
does_balance tasks.Rest s e c now acts stands (none, is, same) =
    inr (level (due_in e.session.phase) 0 (due_in s.session.phase) (answers_of acts) (ap (λ (x : StandingState). due_in x.session.phase) same) refl (ap answers_of is))
does_balance tasks.Begin s e c now acts stands (none, is, goes, pace) =
    let quiet = finished_quiet ((teaching_anew c).teaching && all_quiet (teaching_anew c).shares) (teaching_anew c) in
    inr (level (due_in e.session.phase) 0 (due_in s.session.phase) (answers_of acts)
    (ap (λ (x : SessionState). due_in x.phase) goes ∙ (quiet.0 ∙ sym (ap due_in stands))) refl
    (ap answers_of is ∙ (answers_on (reopens c.shares) (finishing (teaching_anew c)).0 ∙ both_none (answers_of (reopens c.shares)) (answers_of (finishing (teaching_anew c)).0) (reopens_none c.shares) quiet.1)))

turn_balance : (phase : Phase) (s e : StandingState) (now : ℕ) (acts : List Action) → s.session.phase ≡ phase → StandsTurn phase s now acts e → Balances s.session.phase events.Turn acts e.session.phase
turn_balance (phases.New hello c) s e now acts stands (goes, pace) = goes_balance s.session.phase s.session events.Turn acts e.session goes
turn_balance (phases.Hello greeter bytes c) s e now acts stands (goes, pace) = goes_balance s.session.phase s.session events.Turn acts e.session goes
turn_balance (phases.Open c) s e now acts stands does = does_balance (task_at now s.pace c) s e c now acts stands does
turn_balance phases.Ended s e now acts stands (goes, pace) = goes_balance s.session.phase s.session events.Turn acts e.session goes

-- what a lesson's end leaves due, if an acknowledgement is inferred
written_less : (a : Phase) (c mid : Course) (known : KnownState) (acts given : List Action) (b : Phase) → a ≡ phases.Open c → length mid.due ≡ length c.due + answers_of given → acts ≡ given
    → Balances (phases.Open mid) (events.Written known) [] b → Balances a (events.Written known) acts b
written_less a c mid known acts given b stands more is (inl over) = inl over
written_less a c mid known acts given b stands more is (inr count) = inr (count ∙ (nothing_else (length mid.due) ∙ (more ∙ (ap (λ (n : ℕ). n + answers_of given) (sym (ap due_in stands)) ∙ ap (λ (n : ℕ). due_in a + n) (sym (ap answers_of is))))))
  where
    nothing_else : (n : ℕ) → n + 0 ≡ n
    nothing_else n = omega arith

writes_balance : (phase : Phase) (s e : StandingState) (now : ℕ) (known : KnownState) (acts : List Action) → s.session.phase ≡ phase → Writes phase s now known acts e → Balances s.session.phase (events.Written known) acts e.session.phase
writes_balance (phases.New hello c) s e now known acts stands writes = absurd writes
writes_balance (phases.Hello greeter bytes c) s e now known acts stands writes = absurd writes
writes_balance (phases.Open c) s e now known acts stands (goes, is, pace) =
    let after = ack_received c (inferred c.asked s.pace.progress) in
    written_less s.session.phase c after.1 known acts after.0 e.session.phase stands (ack_counts c (inferred c.asked s.pace.progress)) is
    (open_balance (going s.session after.1) after.1 (events.Written known) [] e.session goes)
writes_balance phases.Ended s e now known acts stands writes = absurd writes

leaving_quiet : (left : List ℕ) (c : Course) → (length (leaving left c).1.due ≡ length c.due) × (answers_of (leaving left c).0 ≡ 0)
leaving_quiet [] c = (refl, refl)
leaving_quiet (table ∷ tables) c = finished_quiet _ (without_tables (table ∷ tables) c)

heartbeats_none : (b : Bool) → answers_of (heartbeats b) ≡ 0
heartbeats_none true = refl
heartbeats_none false = refl

-- it is over, or as many answers are due, and what it asks for has none
abbrev IsStill : Phase → List Action → Phase → Type 0
IsStill a acts b = (b ≡ phases.Ended) ⊎ ((due_in b ≡ due_in a) × (answers_of acts ≡ 0))

tick_still : (silent : Bool) (phase : Phase) (s e : StandingState) (now : ℕ) (left : List ℕ) (acts : List Action) → s.session.phase ≡ phase → TicksIn silent phase s now left acts e → IsStill s.session.phase acts e.session.phase
tick_still true phase s e now left acts stands (none, is, ends, pace) = inl (ap (λ (x : SessionState). x.phase) ends)
tick_still false (phases.New hello c) s e now left acts stands (none, is, same) = inr (ap (λ (x : StandingState). due_in x.session.phase) same, ap answers_of is)
tick_still false (phases.Hello greeter bytes c) s e now left acts stands (none, is, same) = inr (ap (λ (x : StandingState). due_in x.session.phase) same, ap answers_of is)
tick_still false (phases.Open c) s e now left acts stands (leaves, is, goes, pace) =
    let quiet = leaving_quiet left c in
    let beats = has_passed heartbeat_time s.pace.sent now in
    inr (
      ap (λ (x : SessionState). due_in x.phase) goes ∙ (quiet.0 ∙ sym (ap due_in stands)),
      ap answers_of is ∙ (answers_on (leaving left c).0 (heartbeats beats) ∙ both_none (answers_of (leaving left c).0) (answers_of (heartbeats beats)) quiet.1 (heartbeats_none beats)),
    )
tick_still false phases.Ended s e now left acts stands (none, is, same) = inr (ap (λ (x : StandingState). due_in x.session.phase) same, ap answers_of is)

ticked : (a b : Phase) (left : List ℕ) (rest acts : List Action) → acts ≡ reopening left ++ rest → IsStill a rest b → Balances a events.Tick acts b
ticked a b left rest acts is (inl over) = inl over
ticked a b left rest acts is (inr (same, silent)) =
    inr (level (due_in b) 0 (due_in a) (answers_of acts) same refl (ap answers_of is ∙ (answers_on (reopening left) rest ∙ both_none (answers_of (reopening left)) (answers_of rest) (reopening_none left) silent)))

word_gives : (b : Bool) → given_by (word_of b) ≡ 0
word_gives true = refl
word_gives false = refl

refusal_gives : (b : Bool) (table : ℕ) → given_by (answer_of_refusal b table) ≡ 1
refusal_gives true table = refl
refusal_gives false table = refl

stands_balance : (s e : StandingState) (now : ℕ) (event : Event) (acts : List Action) → Stands s now event acts e → Balances s.session.phase event acts e.session.phase
stands_balance s e now events.Turn acts turns = turn_balance s.session.phase s e now acts refl turns
stands_balance s e now (events.Written known) acts writes = writes_balance s.session.phase s e now known acts refl writes
stands_balance s e now (events.Refused table) acts (goes, pace) =
    as_given s.session.phase e.session.phase (answer_of_refusal (is_ahead table s.pace.progress) table) (events.Refused table) acts (refusal_gives (is_ahead table s.pace.progress) table)
    (goes_balance s.session.phase s.session (answer_of_refusal (is_ahead table s.pace.progress) table) acts e.session goes)
stands_balance s e now events.CaughtUp acts (goes, pace) =
    as_given s.session.phase e.session.phase (word_of (has_left s.pace.progress)) events.CaughtUp acts (word_gives (has_left s.pace.progress)) (goes_balance s.session.phase s.session (word_of (has_left s.pace.progress)) acts e.session goes)
stands_balance s e now events.Tick acts (asked, (left, rest, ticks, is)) =
    ticked s.session.phase e.session.phase left rest acts is (tick_still (has_passed silence_time s.pace.heard now) s.session.phase s e now left rest refl ticks)
stands_balance s e now (events.Bytes bytes) acts (goes, pace) = goes_balance s.session.phase s.session (events.Bytes bytes) acts e.session goes
stands_balance s e now (events.Copied table batch) acts (goes, pace) = goes_balance s.session.phase s.session (events.Copied table batch) acts e.session goes
stands_balance s e now events.Opened acts (goes, pace) = goes_balance s.session.phase s.session events.Opened acts e.session goes
stands_balance s e now events.Ask acts (goes, pace) = goes_balance s.session.phase s.session events.Ask acts e.session goes
stands_balance s e now events.End acts (goes, pace) = goes_balance s.session.phase s.session events.End acts e.session goes
stands_balance s e now events.ReadFault acts (goes, pace) = goes_balance s.session.phase s.session events.ReadFault acts e.session goes
stands_balance s e now events.WriteFault acts (goes, pace) = goes_balance s.session.phase s.session events.WriteFault acts e.session goes
stands_balance s e now (events.Nothing table) acts (goes, pace) = goes_balance s.session.phase s.session (events.Nothing table) acts e.session goes
stands_balance s e now (events.Settled table settled) acts (goes, pace) = goes_balance s.session.phase s.session (events.Settled table settled) acts e.session goes

pub steps_balance : (manner : Manner) (s e : KeptSession) (now : ℕ) (event : Event) (acts : List Action) → StepsAs manner s now event acts e → Balances s.session.phase event acts e.session.phase
steps_balance manners.Plain s e now event acts (goes, same) = goes_balance s.session.phase s.session event acts e.session goes
steps_balance (manners.Staying p) s e now event acts (q, stood, same) = stands_balance (standing s.session p) (standing e.session q) now event acts stood
