-- A session that stays: at the beginning it is a new one. It goes on to stay, and only a turn that begins a resync has it reopen tables,
-- and bytes with which it opens as a session of version 2.0.
use Rattle.std.proofs.Common.{◌≡◌, ◌⊎◌, ℕ, Bool, true, false, not, ◌&&◌, ◌||◌, List, [], ◌∷◌, ◌++◌, Option, Some, None, Result, Ok, Err, refl, sym, ap, ◌∙◌, subst, inl, inr}
use Rattle.std.specs.Prelude.{drop}
use Rattle.std.specs.List.{list_any}
use Rattle.std.proofs.lemmas.Bool.{false≢true}
use Rattle.std.proofs.lemmas.List.Folds.{list_any-append}
use Rattle.table_types.specs.Tables.{Definition}
use Rattle.table_types.specs.declared.copies.Settled.{Settled}
use Rattle.table_types.specs.declared.copies.Settled.TheVariants as settles
use Rattle.table_types.specs.declared.version.Version.{Version}
use Rattle.table_types.specs.declared.version.Version.TheVariants as versions
use Rattle.known_state.specs.Known.{KnownState}
use Rattle.peers_msg.specs.declared.control.Control.{Control}
use Rattle.peers_msg.specs.declared.control.Control.TheVariants as controls
use Rattle.peers_msg.specs.declared.message.Message.{Message}
use Rattle.peers_hello.specs.declared.hello.Hello.{Hello}
use Rattle.peers_hello.specs.declared.hello.Answer.{Answer}
use Rattle.peers_hello.specs.declared.hello.Answer.TheVariants as answers
use Rattle.peers_hello.specs.declared.status.Status.{Status}
use Rattle.peers_hello.specs.declared.status.Status.TheVariants as statuses
use Rattle.peers_hello.specs.Hellos.{answer_of}
use Rattle.peers_hello.specs.Statuses.{status_of}
use Rattle.learner.specs.declared.taken.Taken.{Taken}
use Rattle.learner.specs.declared.taken.Taken.TheVariants as taken
use Rattle.learner.specs.Intake.{due_acks}
use Rattle.session_core.specs.declared.action.Action.{Action}
use Rattle.session_core.specs.declared.action.Action.TheVariants as actions
use Rattle.session_core.specs.declared.event.Event.{Event}
use Rattle.session_core.specs.declared.event.Event.TheVariants as events
use Rattle.session_core.specs.declared.halt.Halt.{Halt}
use Rattle.session_core.specs.declared.halt.Halt.TheVariants as halts
use Rattle.session_core.specs.declared.pace.Task.{Task}
use Rattle.session_core.specs.declared.pace.Task.TheVariants as tasks
use Rattle.session_core.specs.declared.phase.Greeter.{Greeter}
use Rattle.session_core.specs.declared.phase.Greeter.TheVariants as greeters
use Rattle.session_core.specs.declared.share.Share.{Share}
use Rattle.session_core.specs.Phases.{Phase}
use Rattle.session_core.specs.Phases as phases
use Rattle.session_core.specs.Acks.{ack_of}
use Rattle.session_core.specs.Shares.{any_out, all_quiet, is_out, out_set, quiet_set}
use Rattle.session_core.specs.Actions.{control_text, sends_acks, status_text}
use Rattle.session_core.specs.Courses.{Course, course_begun, staying, course_fed, teaching_anew, requested, acknowledged, ack_received, said, message_received, AreReceived, ReceivesAll, acks_given, table_to_ask}
use Rattle.session_core.specs.Sessions.{SessionState, going, Concludes, ReceivesBytes, first_word, IsWelcomed, Connects, Accepts, Greets, GoesIn, GoesNew, GoesHello, GoesOpen, Turns, HasNothing, FinishesResync, StartsPendingResync, Settles, opening, speaking}
use Rattle.session_core.specs.Runs.{IsBegun}
use Rattle.session_core.specs.Paces.{Pace, has_passed, push_time, is_rested, inferred, awaits_names, has_left}
use Rattle.session_core.specs.Standing.{StandingState, is_open, is_reopen, changed, finished_if, finishing, Does, task_at, TakesTurn, Writes, Stands, without_tables, leaving, TicksIn, word_of}
use Rattle.session_core.specs.Happenings.{Happening}
use Rattle.session_core.proofs.MachineRuns.{Happens, Lasts, BeginsToStay}
use Rattle.session_core.proofs.StandingTimes.{begins_rested}

-- ---- the beginning

-- what holds of each session that begins to stay
abbrev pub HoldsAtFirst : (Phase → Type 0) → List Definition → Type 0
HoldsAtFirst P roster =
    ((hello : Hello) (up_to_date : Bool) → P (phases.New hello (staying (course_begun roster up_to_date))))
    × ((own : List ℕ) (peers : List (List ℕ)) (up_to_date : Bool) → P (phases.Hello (greeters.Accepts own peers) [] (staying (course_begun roster up_to_date))))

holds_first : (P : Phase → Type 0) (roster : List Definition) (s : SessionState) → HoldsAtFirst P roster → IsBegun roster s → P (changed staying s.phase)
holds_first P roster s holds (inl (hello, up_to_date, is)) = subst (λ (x : SessionState). P (changed staying x.phase)) (sym is) (holds.0 hello up_to_date)
holds_first P roster s holds (inr (own, peers, up_to_date, is)) = subst (λ (x : SessionState). P (changed staying x.phase)) (sym is) (holds.1 own peers up_to_date)

pub begun_in : (P : Phase → Type 0) (roster : List Definition) (begun : StandingState) → HoldsAtFirst P roster → BeginsToStay roster begun → P begun.session.phase
begun_in P roster begun holds (first, now, begins, is) = subst (λ (x : StandingState). P x.session.phase) (sym is) (holds_first P roster first holds begins)

-- ---- a session that stays

abbrev reopens_any : List Action → Bool
reopens_any acts = list_any is_reopen acts

abbrev pub StaysOn : Phase → Type 0
StaysOn (phases.New hello c) = c.stays ≡ true
StaysOn (phases.Hello greeter bytes c) = c.stays ≡ true
StaysOn (phases.Open c) = c.stays ≡ true
StaysOn phases.Ended = Unit {0}

stays_at : (e x : SessionState) → e ≡ x → StaysOn x.phase → StaysOn e.phase
stays_at e x is stays = subst (λ (y : SessionState). StaysOn y.phase) (sym is) stays

-- ---- messages

-- nothing is reopened, and the session stays; it teaches as it did, and shares the tables as it did
abbrev IsSteady : Course → List Action → Course → Type 0
IsSteady c acts e = (reopens_any acts ≡ false) × (e.stays ≡ true) × (e.teaching ≡ c.teaching) × (e.shares ≡ c.shares)

steady_requested : (held : Bool) (c : Course) → held ≡ true → c.stays ≡ true → IsSteady c (requested held c).0 (requested held c).1
steady_requested true c is stays = (refl, stays, refl, refl)
steady_requested false c is stays = absurd (false≢true is)

or_first : (a b : Bool) → a ≡ true → (a || b) ≡ true
or_first true b so = refl
or_first false b so = absurd (false≢true so)

steady_said : (c : Course) (control : Control) → c.stays ≡ true → IsSteady c (said c control).0 (said c control).1
steady_said c controls.ResyncRequest stays = steady_requested _ c (or_first c.stays (any_out c.shares) stays) stays
steady_said c controls.ResyncFinished stays = (refl, stays, refl, refl)
steady_said c controls.ResyncPartial stays = (refl, stays, refl, refl)
steady_said c controls.ResyncConfirmed stays = (refl, stays, refl, refl)
steady_said c controls.Heartbeat stays = (refl, stays, refl, refl)

steady_passed : (b : Bool) (c : Course) (table number : ℕ) → c.stays ≡ true → IsSteady c (acknowledged b c table number).0 (acknowledged b c table number).1
steady_passed true c table number stays = (refl, stays, refl, refl)
steady_passed false c table number stays = (refl, stays, refl, refl)

steady_ack : (c : Course) (ack : Option (ℕ × ℕ)) → c.stays ≡ true → IsSteady c (ack_received c ack).0 (ack_received c ack).1
steady_ack c (Some (table, number)) stays = steady_passed (is_out table c.shares) c table number stays
steady_ack c None stays = (refl, stays, refl, refl)

pub stays_ack : (c : Course) (ack : Option (ℕ × ℕ)) → c.stays ≡ true → (ack_received c ack).1.stays ≡ true
stays_ack c ack stays = (steady_ack c ack stays).1

steady_received : (c : Course) (t : Taken) → c.stays ≡ true → IsSteady c (message_received c t).0 (message_received c t).1
steady_received c (taken.Row u) stays = (refl, stays, refl, refl)
steady_received c taken.Passed stays = (refl, stays, refl, refl)
steady_received c (taken.Said control) stays = steady_said c control stays
steady_received c (taken.Acked table number) stays = steady_ack c (ack_of c.intake.roster (taken.Acked table number)) stays
steady_received c (taken.Failed kind) stays = (refl, stays, refl, refl)

or_none : (a b reopens : Bool) → a ≡ reopens → b ≡ false → (a || b) ≡ reopens
or_none true b reopens one none = one
or_none false b reopens one none = none ∙ one

none_after : (xs ys : List Action) (reopens : Bool) → reopens_any xs ≡ reopens → reopens_any ys ≡ false → reopens_any (xs ++ ys) ≡ reopens
none_after xs ys reopens one none = list_any-append is_reopen xs ys ∙ or_none _ _ reopens one none

none_acks : (ms : List Message) → reopens_any (sends_acks ms) ≡ false
none_acks [] = refl
none_acks (m ∷ ms) = refl

steady_all : (c e : Course) (ts : List Taken) (acts : List Action) → c.stays ≡ true → AreReceived c ts acts e → IsSteady c acts e
steady_all c e [] acts stays (none, here) = (
  ap reopens_any none,
  ap (λ (x : Course). x.stays) here ∙ stays,
  ap (λ (x : Course). x.teaching) here,
  ap (λ (x : Course). x.shares) here,
)
steady_all c e (t ∷ ts) acts stays (mid, rest, receives, all, later) =
    let one = steady_received mid t (ap (λ (x : Course). x.stays) receives.2 ∙ stays) in
    let then = steady_all (message_received mid t).1 e ts rest one.1 later in (
      ap reopens_any all ∙ none_after (message_received mid t).0 rest false one.0 then.0,
      then.1,
      then.2 ∙ (one.2 ∙ ap (λ (x : Course). x.teaching) receives.2),
      then.3 ∙ (one.3 ∙ ap (λ (x : Course). x.shares) receives.2),
    )

-- ---- bytes

-- the phase of a session with the course `c` after bytes
abbrev pub HearsOn : Course → Phase → Type 0
HearsOn c (phases.New hello d) = ⊥
HearsOn c (phases.Hello greeter bytes d) = d ≡ c
HearsOn c (phases.Open d) = (d.stays ≡ true) × (d.teaching ≡ c.teaching) × (d.shares ≡ c.shares)
HearsOn c phases.Ended = Unit {0}

-- bytes of messages: whether anything is reopened, and the version
abbrev pub IsHeard : Bool → Option Version → Course → List Action → SessionState → Type 0
IsHeard reopens version c acts e = (reopens_any acts ≡ reopens) × HearsOn c e.phase × (e.version ≡ version)

heard_at : (reopens : Bool) (version : Option Version) (c : Course) (acts given : List Action) (e x : SessionState) → acts ≡ given → e ≡ x → reopens_any given ≡ reopens → HearsOn c x.phase → x.version ≡ version → IsHeard reopens version c acts e
heard_at reopens version c acts given e x is ends all hears says =
    (ap reopens_any is ∙ all, subst (λ (y : SessionState). HearsOn c y.phase) (sym ends) hears, ap (λ (y : SessionState). y.version) ends ∙ says)

-- nothing is reopened but what `first` reopens
heard_concluded : (s : SessionState) (c mid : Course) (fed : List ℕ) (result : Result (Unit {0}) Halt) (first given acts : List Action) (e : SessionState) → c.stays ≡ true → ReceivesAll (course_fed c fed) result given mid → Concludes s mid result (first ++ given) acts e → IsHeard (reopens_any first) s.version c acts e
heard_concluded s c mid fed (Ok u) first given acts e stays (ts, are, waits) (is, ends) =
    let steady = steady_all (course_fed c fed) mid ts given stays are in
    heard_at _ _ c acts _ e _ is ends (none_after (first ++ given) (acks_given mid) _ (none_after first given _ refl steady.0) (none_acks (due_acks mid.intake))) (steady.1, steady.2, steady.3) refl
heard_concluded s c mid fed (Err halts.Failed) first given acts e stays (ts, at_halt, are, halted) (is, ends) =
    heard_at _ _ c acts _ e _ is ends (none_after (first ++ given) (actions.Close ∷ []) _ (none_after first given _ refl (steady_all (course_fed c fed) at_halt ts given stays are).0) refl) tt refl
heard_concluded s c mid fed (Err (halts.Fault fault)) first given acts e stays (ts, at_halt, are, halted) (is, ends) =
    heard_at _ _ c acts _ e _ is ends (none_after (first ++ given) (actions.Part _ ∷ []) _ (none_after first given _ refl (steady_all (course_fed c fed) at_halt ts given stays are).0) refl) tt refl
heard_concluded s c mid fed (Err halts.Memory) first given acts e stays receives concludes = absurd concludes

heard_receives : (s : SessionState) (c : Course) (fed : List ℕ) (first acts : List Action) (e : SessionState) → c.stays ≡ true → ReceivesBytes s (course_fed c fed) first acts e → IsHeard (reopens_any first) s.version c acts e
heard_receives s c fed first acts e stays (result, given, mid, receives, concludes) = heard_concluded s c mid fed result first given acts e stays receives concludes

pub heard_open : (s : SessionState) (c : Course) (bytes : List ℕ) (acts : List Action) (e : SessionState) → c.stays ≡ true → ReceivesBytes s (course_fed c bytes) [] acts e → IsHeard false s.version c acts e
heard_open s c bytes acts e stays receives = heard_receives s c bytes [] acts e stays receives

-- ---- bytes of the hello or the status

-- nothing is reopened, unless the session becomes one of version 2.0
abbrev pub IsGreeted : Course → List Action → SessionState → Type 0
IsGreeted c acts e = ((reopens_any acts ≡ false) ⊎ (e.version ≡ Some versions.V20)) × HearsOn c e.phase

greeted_at : (c : Course) (acts given : List Action) (e x : SessionState) → acts ≡ given → e ≡ x → reopens_any given ≡ false → HearsOn c x.phase → IsGreeted c acts e
greeted_at c acts given e x is ends none hears = (inl (ap reopens_any is ∙ none), subst (λ (y : SessionState). HearsOn c y.phase) (sym ends) hears)

greeted_in : (version : Version) (ss : List Share) (c : Course) (acts : List Action) (e : SessionState) → IsHeard (reopens_any (opening version ss)) (Some version) c acts e → IsGreeted c acts e
greeted_in versions.V20 ss c acts e (reopens, hears, says) = (inr says, hears)
greeted_in versions.V21 ss c acts e (reopens, hears, says) = (inl reopens, hears)

greeted_ready : (version : Version) (s : SessionState) (c : Course) (rest bytes : List ℕ) (acts : List Action) (e : SessionState) → c.stays ≡ true → ReceivesBytes (speaking version s) (course_fed c rest) (actions.Send bytes ∷ opening version c.shares) acts e → IsGreeted c acts e
greeted_ready version s c rest bytes acts e stays receives =
    greeted_in version c.shares c acts e (heard_receives (speaking version s) c rest (actions.Send bytes ∷ opening version c.shares) acts e stays receives)

greeted_welcomed : (b : Bool) (version : Version) (code : ℕ) (s : SessionState) (c : Course) (rest : List ℕ) (acts : List Action) (e : SessionState) → c.stays ≡ true → IsWelcomed b version code s c rest acts e → IsGreeted c acts e
greeted_welcomed true version code s c rest acts e stays receives = greeted_ready version s c rest (control_text (first_word c.stays)) acts e stays receives
greeted_welcomed false version code s c rest acts e stays (is, ends) = greeted_at c acts _ e _ is ends refl tt

greeted_connects : (version : Version) (status : Status) (s : SessionState) (bytes : List ℕ) (c : Course) (acts : List Action) (e : SessionState) → c.stays ≡ true → Connects version status s bytes c acts e → IsGreeted c acts e
greeted_connects version statuses.More s bytes c acts e stays (is, ends) = greeted_at c acts _ e _ is ends refl refl
greeted_connects version (statuses.Code code used) s bytes c acts e stays goes = greeted_welcomed _ version code s c _ acts e stays goes
greeted_connects version (statuses.Other used) s bytes c acts e stays (is, ends) = greeted_at c acts _ e _ is ends refl tt

greeted_accepts : (answer : Answer) (s : SessionState) (greeter : Greeter) (bytes : List ℕ) (c : Course) (acts : List Action) (e : SessionState) → c.stays ≡ true → Accepts answer s greeter bytes c acts e → IsGreeted c acts e
greeted_accepts answers.More s greeter bytes c acts e stays (is, ends) = greeted_at c acts _ e _ is ends refl refl
greeted_accepts (answers.Accepted name version used) s greeter bytes c acts e stays receives = greeted_ready version s c (drop used bytes) (status_text 200) acts e stays receives
greeted_accepts (answers.Refused code used) s greeter bytes c acts e stays (is, ends) = greeted_at c acts _ e _ is ends refl tt

pub greeted : (s : SessionState) (greeter : Greeter) (bytes : List ℕ) (c : Course) (acts : List Action) (e : SessionState) → c.stays ≡ true → Greets s greeter bytes c acts e → IsGreeted c acts e
greeted s (greeters.Connects version) bytes c acts e stays goes = greeted_connects version (status_of bytes) s bytes c acts e stays goes
greeted s (greeters.Accepts own peers) bytes c acts e stays goes = greeted_accepts (answer_of own peers bytes) s (greeters.Accepts own peers) bytes c acts e stays goes

-- ---- events

-- nothing is reopened, and the session goes on to stay
abbrev IsPlain : List Action → SessionState → Type 0
IsPlain acts e = (reopens_any acts ≡ false) × StaysOn e.phase

plain_at : (acts given : List Action) (e x : SessionState) → acts ≡ given → e ≡ x → reopens_any given ≡ false → StaysOn x.phase → IsPlain acts e
plain_at acts given e x is ends none stays = (ap reopens_any is ∙ none, stays_at e x ends stays)

hears_stays : (c : Course) (phase : Phase) → c.stays ≡ true → HearsOn c phase → StaysOn phase
hears_stays c (phases.New hello d) stays hears = absurd hears
hears_stays c (phases.Hello greeter bytes d) stays hears = ap (λ (x : Course). x.stays) hears ∙ stays
hears_stays c (phases.Open d) stays hears = hears.0
hears_stays c phases.Ended stays hears = tt

plain_new : (s : SessionState) (hello : Hello) (c : Course) (event : Event) (acts : List Action) (e : SessionState) → c.stays ≡ true → GoesNew s hello c event acts e → IsPlain acts e
plain_new s hello c events.Opened acts e stays (is, ends) = plain_at acts _ e _ is ends refl stays
plain_new s hello c events.Turn acts e stays (is, ends) = plain_at acts _ e _ is ends refl stays
plain_new s hello c events.Tick acts e stays (is, ends) = plain_at acts _ e _ is ends refl stays
plain_new s hello c events.Ask acts e stays (is, ends) = plain_at acts _ e _ is ends refl stays
plain_new s hello c events.CaughtUp acts e stays (is, ends) = plain_at acts _ e _ is ends refl stays
plain_new s hello c events.End acts e stays (is, ends) = plain_at acts _ e _ is ends refl tt
plain_new s hello c events.ReadFault acts e stays (is, ends) = plain_at acts _ e _ is ends refl tt
plain_new s hello c events.WriteFault acts e stays (is, ends) = plain_at acts _ e _ is ends refl tt
plain_new s hello c (events.Bytes bytes) acts e stays goes = absurd goes
plain_new s hello c (events.Copied table batch) acts e stays goes = absurd goes
plain_new s hello c (events.Nothing table) acts e stays goes = absurd goes
plain_new s hello c (events.Written known) acts e stays goes = absurd goes
plain_new s hello c (events.Settled table settled) acts e stays goes = absurd goes
plain_new s hello c (events.Refused table) acts e stays goes = absurd goes

plain_turns : (asked : Option ℕ) (s : SessionState) (c : Course) (acts : List Action) (e : SessionState) → c.stays ≡ true → Turns asked s c acts e → IsPlain acts e
plain_turns None s c acts e stays (is, ends) = plain_at acts _ e _ is ends refl stays
plain_turns (Some table) s c acts e stays (is, ends) = plain_at acts _ e _ is ends refl stays

plain_finishes : (b : Bool) (s : SessionState) (c : Course) (acts : List Action) (e : SessionState) → c.stays ≡ true → FinishesResync b s c acts e → IsPlain acts e
plain_finishes true s c acts e stays (is, ends) = plain_at acts _ e _ is ends refl stays
plain_finishes false s c acts e stays (is, ends) = plain_at acts _ e _ is ends refl stays

plain_nothing : (b : Bool) (s : SessionState) (c : Course) (table : ℕ) (acts : List Action) (e : SessionState) → c.stays ≡ true → HasNothing b s c table acts e → IsPlain acts e
plain_nothing true s c table acts e stays finishes = plain_finishes (all_quiet (quiet_set table c.shares)) s (record c { shares = quiet_set table c.shares }) acts e stays finishes
plain_nothing false s c table acts e stays (is, ends) = plain_at acts _ e _ is ends refl stays

-- an answer begins no resync in a session that stays
pub never_starts : (waits stays out : Bool) → stays ≡ true → (waits && not (stays || out)) ≡ false
never_starts true true out is = refl
never_starts false true out is = refl
never_starts waits false out is = absurd (false≢true is)

plain_starts : (b : Bool) (s : SessionState) (c : Course) (acts : List Action) (e : SessionState) → b ≡ false → c.stays ≡ true → StartsPendingResync b s c acts e → IsPlain acts e
plain_starts true s c acts e never stays starts = absurd (false≢true (sym never))
plain_starts false s c acts e never stays (is, ends) = plain_at acts _ e _ is ends refl stays

plain_settles : (settled : Settled) (s : SessionState) (c : Course) (table : ℕ) (acts : List Action) (e : SessionState) → c.stays ≡ true → Settles settled s c table acts e → IsPlain acts e
plain_settles settles.All s c table acts e stays starts =
    plain_starts _ s (record c { shares = out_set table false c.shares }) acts e (never_starts c.waits c.stays (any_out (out_set table false c.shares)) stays) stays starts
plain_settles settles.Some s c table acts e stays (is, ends) = plain_at acts _ e _ is ends refl stays
plain_settles settles.Older s c table acts e stays (is, ends) = plain_at acts _ e _ is ends refl stays

answered_stays : (c mid : Course) → mid ≡ record c { due = mid.due } → c.stays ≡ true → mid.stays ≡ true
answered_stays c mid is stays = ap (λ (x : Course). x.stays) is ∙ stays

plain_open : (s : SessionState) (c : Course) (event : Event) (acts : List Action) (e : SessionState) → c.stays ≡ true → GoesOpen s c event acts e → IsPlain acts e
plain_open s c events.Turn acts e stays (due, turns) = plain_turns (table_to_ask c) s c acts e stays turns
plain_open s c events.Tick acts e stays (due, (is, ends)) = plain_at acts _ e _ is ends refl stays
plain_open s c events.Ask acts e stays (due, (is, ends)) = plain_at acts _ e _ is ends refl stays
plain_open s c events.CaughtUp acts e stays (due, (is, ends)) = plain_at acts _ e _ is ends refl stays
plain_open s c (events.Bytes bytes) acts e stays (due, receives) =
    let heard = heard_open s c bytes acts e stays receives in
    (heard.0, hears_stays c e.phase stays heard.1)
plain_open s c (events.Copied table batch) acts e stays (mid, answered, (is, ends)) = plain_at acts _ e _ is ends refl (answered_stays c mid answered.1 stays)
plain_open s c (events.Nothing table) acts e stays (mid, answered, nothing) = plain_nothing mid.teaching s mid table acts e (answered_stays c mid answered.1 stays) nothing
plain_open s c (events.Written known) acts e stays (mid, answered, is, ends) = plain_at acts _ e _ is ends refl (answered_stays c mid answered.1 stays)
plain_open s c (events.Settled table settled) acts e stays (mid, answered, settles) = plain_settles settled s mid table acts e (answered_stays c mid answered.1 stays) settles
plain_open s c (events.Refused table) acts e stays (mid, answered, is, ends) = plain_at acts _ e _ is ends refl tt
plain_open s c events.End acts e stays (is, ends) = plain_at acts _ e _ is ends refl tt
plain_open s c events.ReadFault acts e stays (is, ends) = plain_at acts _ e _ is ends refl tt
plain_open s c events.WriteFault acts e stays (is, ends) = plain_at acts _ e _ is ends refl tt
plain_open s c events.Opened acts e stays goes = absurd goes

plain_turn : (phase : Phase) (s : SessionState) (acts : List Action) (e : SessionState) → StaysOn phase → GoesIn phase s events.Turn acts e → IsPlain acts e
plain_turn (phases.New hello c) s acts e stays goes = plain_new s hello c events.Turn acts e stays goes
plain_turn (phases.Hello greeter bytes c) s acts e stays (is, ends) = plain_at acts _ e _ is ends refl stays
plain_turn (phases.Open c) s acts e stays goes = plain_open s c events.Turn acts e stays goes
plain_turn phases.Ended s acts e stays goes = absurd goes

-- ---- turns

-- a resync begins, and the last one began long enough ago
abbrev pub BeginsThen : StandingState → ℕ → StandingState → Type 0
BeginsThen s now e = (is_rested s.pace.reopened now ≡ true) × (e.pace.reopened ≡ Some now)

-- at a turn: the session goes on to stay, and something is reopened only by a resync that begins then
abbrev pub IsPaced : StandingState → ℕ → List Action → StandingState → Type 0
IsPaced s now acts e = StaysOn e.session.phase × ((list_any is_reopen acts ≡ false) ⊎ BeginsThen s now e)

paced_plain : (s e : StandingState) (now : ℕ) (acts : List Action) → StaysOn s.session.phase → GoesIn s.session.phase s.session events.Turn acts e.session → IsPaced s now acts e
paced_plain s e now acts stays goes = let plain = plain_turn s.session.phase s.session acts e.session stays goes in (plain.1, inl plain.0)

finished_stays : (b : Bool) (c : Course) → (finished_if b c).1.stays ≡ c.stays
finished_stays true c = refl
finished_stays false c = refl

finishing_stays : (c : Course) → (finishing c).1.stays ≡ c.stays
finishing_stays c = finished_stays (c.teaching && all_quiet c.shares) c

stays_still : (s e : StandingState) → e ≡ s → StaysOn s.session.phase → StaysOn e.session.phase
stays_still s e same stays = subst (λ (x : StandingState). StaysOn x.session.phase) (sym same) stays

paced_does : (task : Task) (s e : StandingState) (c : Course) (now : ℕ) (acts : List Action) → s.session.phase ≡ phases.Open c → task_at now s.pace c ≡ task → StaysOn s.session.phase → Does task s c now acts e → IsPaced s now acts e
paced_does tasks.Copy s e c now acts opens is stays (goes, paces) = paced_plain s e now acts stays goes
paced_does tasks.Rest s e c now acts opens is stays (due, none, same) = (stays_still s e same stays, inl (ap reopens_any none))
paced_does tasks.Begin s e c now acts opens is stays (due, begun, session, paces) = (
  stays_at e.session _ session (finishing_stays (teaching_anew c) ∙ subst StaysOn opens stays),
  inr (
    begins_rested c.waits (is_rested s.pace.reopened now) (any_out c.shares) ((c.teaching || has_passed push_time s.pace.opened now) && not (awaits_names (table_to_ask c) s.pace.progress c.shares)) is,
    ap (λ (p : Pace). p.reopened) paces,
  ),
)

pub paced_turn : (phase : Phase) (s e : StandingState) (now : ℕ) (acts : List Action) → s.session.phase ≡ phase → StaysOn s.session.phase → TakesTurn phase s now acts e → IsPaced s now acts e
paced_turn (phases.Open c) s e now acts opens stays does = paced_does (task_at now s.pace c) s e c now acts opens refl stays does
paced_turn (phases.New hello c) s e now acts opens stays (goes, paces) = paced_plain s e now acts stays goes
paced_turn (phases.Hello greeter bytes c) s e now acts opens stays (goes, paces) = paced_plain s e now acts stays goes
paced_turn phases.Ended s e now acts opens stays (goes, paces) = paced_plain s e now acts stays goes

-- ---- each event

-- the session goes on to stay, and something is reopened only at a turn or a tick, or if a session opens with version 2.0
abbrev pub IsRare : Event → Phase → List Action → SessionState → Type 0
IsRare event phase acts e = StaysOn e.phase × ((list_any is_reopen acts ≡ false) ⊎ ((event ≡ events.Turn) ⊎ ((event ≡ events.Tick) ⊎ ((is_open phase ≡ false) × (e.version ≡ Some versions.V20)))))

rarely : (event : Event) (phase : Phase) (acts : List Action) (e : SessionState) → IsPlain acts e → IsRare event phase acts e
rarely event phase acts e plain = (plain.1, inl plain.0)

rare_greeted : (event : Event) (greeter : Greeter) (bytes : List ℕ) (c : Course) (acts : List Action) (e : SessionState) → c.stays ≡ true → IsGreeted c acts e → IsRare event (phases.Hello greeter bytes c) acts e
rare_greeted event greeter bytes c acts e stays (inl none, hears) = (hears_stays c e.phase stays hears, inl none)
rare_greeted event greeter bytes c acts e stays (inr says, hears) = (hears_stays c e.phase stays hears, inr (inr (inr (refl, says))))

rare_hello : (at : Event) (s : SessionState) (greeter : Greeter) (bytes : List ℕ) (c : Course) (event : Event) (acts : List Action) (e : SessionState) → c.stays ≡ true → GoesHello s greeter bytes c event acts e → IsRare at (phases.Hello greeter bytes c) acts e
rare_hello at s greeter bytes c (events.Bytes piece) acts e stays goes = rare_greeted at greeter bytes c acts e stays (greeted s greeter (bytes ++ piece) c acts e stays goes)
rare_hello at s greeter bytes c events.Turn acts e stays (is, ends) = rarely at (phases.Hello greeter bytes c) acts e (plain_at acts _ e _ is ends refl stays)
rare_hello at s greeter bytes c events.Tick acts e stays (is, ends) = rarely at (phases.Hello greeter bytes c) acts e (plain_at acts _ e _ is ends refl stays)
rare_hello at s greeter bytes c events.Ask acts e stays (is, ends) = rarely at (phases.Hello greeter bytes c) acts e (plain_at acts _ e _ is ends refl stays)
rare_hello at s greeter bytes c events.CaughtUp acts e stays (is, ends) = rarely at (phases.Hello greeter bytes c) acts e (plain_at acts _ e _ is ends refl stays)
rare_hello at s greeter bytes c events.End acts e stays (is, ends) = rarely at (phases.Hello greeter bytes c) acts e (plain_at acts _ e _ is ends refl tt)
rare_hello at s greeter bytes c events.ReadFault acts e stays (is, ends) = rarely at (phases.Hello greeter bytes c) acts e (plain_at acts _ e _ is ends refl tt)
rare_hello at s greeter bytes c events.WriteFault acts e stays (is, ends) = rarely at (phases.Hello greeter bytes c) acts e (plain_at acts _ e _ is ends refl tt)
rare_hello at s greeter bytes c events.Opened acts e stays goes = absurd goes
rare_hello at s greeter bytes c (events.Copied table batch) acts e stays goes = absurd goes
rare_hello at s greeter bytes c (events.Nothing table) acts e stays goes = absurd goes
rare_hello at s greeter bytes c (events.Written known) acts e stays goes = absurd goes
rare_hello at s greeter bytes c (events.Settled table settled) acts e stays goes = absurd goes
rare_hello at s greeter bytes c (events.Refused table) acts e stays goes = absurd goes

rare_in : (at : Event) (phase : Phase) (s : SessionState) (event : Event) (acts : List Action) (e : SessionState) → StaysOn phase → GoesIn phase s event acts e → IsRare at phase acts e
rare_in at (phases.New hello c) s event acts e stays goes = rarely at (phases.New hello c) acts e (plain_new s hello c event acts e stays goes)
rare_in at (phases.Hello greeter bytes c) s event acts e stays goes = rare_hello at s greeter bytes c event acts e stays goes
rare_in at (phases.Open c) s event acts e stays goes = rarely at (phases.Open c) acts e (plain_open s c event acts e stays goes)
rare_in at phases.Ended s event acts e stays goes = absurd goes

plain_writes : (phase : Phase) (s e : StandingState) (now : ℕ) (known : KnownState) (acts : List Action) → StaysOn phase → Writes phase s now known acts e → IsPlain acts e.session
plain_writes (phases.Open c) s e now known acts stays (goes, is, paces) =
    let one = steady_ack c (inferred c.asked s.pace.progress) stays in
    let then = plain_open (going s.session (ack_received c (inferred c.asked s.pace.progress)).1) (ack_received c (inferred c.asked s.pace.progress)).1 (events.Written known) [] e.session one.1 goes in
    (ap reopens_any is ∙ one.0, then.1)
plain_writes (phases.New hello c) s e now known acts stays writes = absurd writes
plain_writes (phases.Hello greeter bytes c) s e now known acts stays writes = absurd writes
plain_writes phases.Ended s e now known acts stays writes = absurd writes

leaving_stays : (left : List ℕ) (c : Course) → (leaving left c).1.stays ≡ c.stays
leaving_stays [] c = refl
leaving_stays (table ∷ tables) c = finishing_stays (without_tables (table ∷ tables) c)

stays_ticks : (silent : Bool) (phase : Phase) (s e : StandingState) (now : ℕ) (left : List ℕ) (acts : List Action) → s.session.phase ≡ phase → StaysOn s.session.phase → TicksIn silent phase s now left acts e → StaysOn e.session.phase
stays_ticks true phase s e now left acts stands stays (leaves, is, session, paces) = stays_at e.session _ session tt
stays_ticks false (phases.Open c) s e now left acts stands stays (leaves, is, session, paces) = stays_at e.session _ session (leaving_stays left c ∙ subst StaysOn stands stays)
stays_ticks false (phases.New hello c) s e now left acts stands stays (leaves, is, same) = stays_still s e same stays
stays_ticks false (phases.Hello greeter bytes c) s e now left acts stands stays (leaves, is, same) = stays_still s e same stays
stays_ticks false phases.Ended s e now left acts stands stays (leaves, is, same) = stays_still s e same stays

pub rare_stands : (event : Event) (s e : StandingState) (now : ℕ) (acts : List Action) → StaysOn s.session.phase → Stands s now event acts e → IsRare event s.session.phase acts e.session
rare_stands events.Turn s e now acts stays turns = ((paced_turn s.session.phase s e now acts refl stays turns).0, inr (inl refl))
rare_stands (events.Written known) s e now acts stays writes = rarely (events.Written known) s.session.phase acts e.session (plain_writes s.session.phase s e now known acts stays writes)
rare_stands (events.Bytes bytes) s e now acts stays (goes, paces) = rare_in (events.Bytes bytes) s.session.phase s.session (events.Bytes bytes) acts e.session stays goes
rare_stands (events.Refused table) s e now acts stays (goes, paces) = rare_in (events.Refused table) s.session.phase s.session _ acts e.session stays goes
rare_stands (events.Copied table batch) s e now acts stays (goes, paces) = rare_in (events.Copied table batch) s.session.phase s.session (events.Copied table batch) acts e.session stays goes
rare_stands events.Opened s e now acts stays (goes, paces) = rare_in events.Opened s.session.phase s.session events.Opened acts e.session stays goes
rare_stands events.Ask s e now acts stays (goes, paces) = rare_in events.Ask s.session.phase s.session events.Ask acts e.session stays goes
rare_stands events.CaughtUp s e now acts stays (goes, paces) = rare_in events.CaughtUp s.session.phase s.session (word_of (has_left s.pace.progress)) acts e.session stays goes
rare_stands events.Tick s e now acts stays (asked, (left, rest, ticks, is)) = (stays_ticks _ s.session.phase s e now left rest refl stays ticks, inr (inr (inl refl)))
rare_stands events.End s e now acts stays (goes, paces) = rare_in events.End s.session.phase s.session events.End acts e.session stays goes
rare_stands events.ReadFault s e now acts stays (goes, paces) = rare_in events.ReadFault s.session.phase s.session events.ReadFault acts e.session stays goes
rare_stands events.WriteFault s e now acts stays (goes, paces) = rare_in events.WriteFault s.session.phase s.session events.WriteFault acts e.session stays goes
rare_stands (events.Nothing table) s e now acts stays (goes, paces) = rare_in (events.Nothing table) s.session.phase s.session (events.Nothing table) acts e.session stays goes
rare_stands (events.Settled table settled) s e now acts stays (goes, paces) = rare_in (events.Settled table settled) s.session.phase s.session (events.Settled table settled) acts e.session stays goes

pub stays_happens : (one : Happening) (s e : StandingState) → StaysOn s.session.phase → Happens s one e → StaysOn e.session.phase
stays_happens one s e stays happens = (rare_stands one.event s e one.now one.acts stays happens).0

-- ---- runs

pub stays_lasts : (steps : List Happening) (s e : StandingState) → StaysOn s.session.phase → Lasts s steps e → StaysOn e.session.phase
stays_lasts [] s e stays here = stays_still s e here stays
stays_lasts (one ∷ steps) s e stays (mid, happens, lasts) = stays_lasts steps mid e (stays_happens one s mid stays happens) lasts

pub begun_stays : (roster : List Definition) (begun : StandingState) → BeginsToStay roster begun → StaysOn begun.session.phase
begun_stays roster begun begins = begun_in StaysOn roster begun ((λ hello up_to_date. refl), (λ own peers up_to_date. refl)) begins

-- in every run from the beginning
pub stays_run : (roster : List Definition) (begun s : StandingState) (steps : List Happening) → BeginsToStay roster begun → Lasts begun steps s → StaysOn s.session.phase
stays_run roster begun s steps begins lasts = stays_lasts steps begun s (begun_stays roster begun begins) lasts
