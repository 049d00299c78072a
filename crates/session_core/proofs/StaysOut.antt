-- A batch that is out stays out until its table answers that all of it is acknowledged, or is left, or the session is over.
use Rattle.std.proofs.Common.{◌≡◌, ℕ, Bool, true, false, not, ◌&&◌, ◌||◌, ◌==◌, cond, List, [], ◌∷◌, ◌++◌, Option, Some, None, Result, Ok, Err, refl, sym, ap, ◌∙◌, subst, inl, inr}
use Rattle.std.specs.Prelude.{drop, filter}
use Rattle.std.specs.List.{list_any}
use Rattle.std.proofs.lemmas.Bool.{cases_eq, eq-eqb, ne_eqb, false≢true}
use Rattle.table_types.specs.declared.copies.Settled.{Settled}
use Rattle.table_types.specs.declared.copies.Settled.TheVariants as settles
use Rattle.table_types.specs.declared.version.Version.{Version}
use Rattle.known_state.specs.Known.{KnownState}
use Rattle.peers_msg.specs.declared.control.Control.{Control}
use Rattle.peers_msg.specs.declared.control.Control.TheVariants as controls
use Rattle.peers_hello.specs.declared.hello.Hello.{Hello}
use Rattle.peers_hello.specs.declared.hello.Answer.{Answer}
use Rattle.peers_hello.specs.declared.hello.Answer.TheVariants as answers
use Rattle.peers_hello.specs.declared.status.Status.{Status}
use Rattle.peers_hello.specs.declared.status.Status.TheVariants as statuses
use Rattle.peers_hello.specs.Hellos.{answer_of}
use Rattle.peers_hello.specs.Statuses.{status_of}
use Rattle.learner.specs.declared.taken.Taken.{Taken}
use Rattle.learner.specs.declared.taken.Taken.TheVariants as taken
use Rattle.session_core.specs.declared.action.Action.{Action}
use Rattle.session_core.specs.declared.action.Action.TheVariants as actions
use Rattle.session_core.specs.declared.event.Event.{Event}
use Rattle.session_core.specs.declared.event.Event.TheVariants as events
use Rattle.session_core.specs.declared.halt.Halt.{Halt}
use Rattle.session_core.specs.declared.halt.Halt.TheVariants as halts
use Rattle.session_core.specs.declared.pace.Task.{Task}
use Rattle.session_core.specs.declared.pace.Task.TheVariants as tasks
use Rattle.session_core.specs.declared.phase.Greeter.{Greeter}
use Rattle.session_core.specs.declared.phase.Greeter.TheVariants as greeters
use Rattle.session_core.specs.declared.share.Share.{Share}
use Rattle.session_core.specs.Phases.{Phase}
use Rattle.session_core.specs.Phases as phases
use Rattle.session_core.specs.Acks.{ack_of}
use Rattle.session_core.specs.Shares.{all_quiet, is_out, out_set, quiet_set, unquieted}
use Rattle.session_core.specs.Actions.{sends_control, status_text}
use Rattle.session_core.specs.Courses.{Course, course_fed, is_held, teaching_anew, requested, acknowledged, ack_received, said, message_received, AreReceived, ReceivesAll, table_to_ask}
use Rattle.session_core.specs.Sessions.{SessionState, going, Concludes, ReceivesBytes, first_word, IsWelcomed, Connects, Accepts, Greets, GoesIn, GoesNew, GoesHello, GoesOpen, Turns, HasNothing, FinishesResync, StartsPendingResync, Settles, opening, speaking, Goes}
use Rattle.session_core.specs.Paces.{inferred, is_ahead, has_left}
use Rattle.session_core.specs.Standing.{StandingState, is_open, shared, finished_if, finishing, Does, task_at, TakesTurn, Writes, answer_of_refusal, Stands, without_tables, leaving, TicksIn, word_of}
use Rattle.session_core.specs.Happenings.{Happening, is_tick, leaves, is_settlement, settles_all}
use Rattle.session_core.proofs.MachineRuns.{Happens, at}
use Rattle.session_core.proofs.TickGives.{left_reopened, tick_or_not}

-- ---- truth values

or_true : (b : Bool) → (b || true) ≡ true
or_true true = refl
or_true false = refl

and_left : (a b : Bool) → (a && b) ≡ true → a ≡ true
and_left true b so = refl
and_left false b so = absurd (false≢true so)

or_either : (a b c d : Bool) → (a ≡ true → c ≡ true) → (b ≡ true → d ≡ true) → (a || b) ≡ true → (c || d) ≡ true
or_either true b c d one other so = rw (one refl) refl
or_either false b c d one other so = rw (other so) (or_true c)

second_of : (a b : Bool) → a ≡ false → (a || b) ≡ true → b ≡ true
second_of true b not_it so = absurd (false≢true (sym not_it))
second_of false b not_it so = so

-- ---- changes of the tables

out_more_one : (t : ℕ) (b : Bool) (s : Share) → (s.table == t && s.out) ≡ true → ((cond b (record { table = s.table; out = true; quiet = s.quiet }) s).table == t && (cond b (record { table = s.table; out = true; quiet = s.quiet }) s).out) ≡ true
out_more_one t true s is = rw (and_left (s.table == t) s.out is) refl
out_more_one t false s is = is

-- one more batch is out
out_more : (t table : ℕ) (ss : List Share) → is_out t ss ≡ true → is_out t (out_set table true ss) ≡ true
out_more t table [] is = is
out_more t table (s ∷ ss) is = or_either (s.table == t && s.out) (is_out t ss) _ _ (out_more_one t (s.table == table) s) (out_more t table ss) is

-- a batch of another table is out no longer
pub out_other : (t table : ℕ) (ss : List Share) → (table == t) ≡ false → is_out t (out_set table false ss) ≡ is_out t ss
out_other t table [] apart = refl
out_other t table (s ∷ ss) apart = elim (cases_eq s.table table) [
  | inl same ↦
      let not_it : (s.table == t) ≡ false = ap (λ (x : ℕ). x == t) same ∙ apart in
      rw (eq-eqb s.table table same, not_it) (out_other t table ss apart)
  | inr other ↦ rw (ne_eqb s.table table other) (ap (λ (b : Bool). (s.table == t && s.out) || b) (out_other t table ss apart))
]

quiet_table : (b : Bool) (s : Share) → (cond b (record { table = s.table; out = s.out; quiet = true }) s).table ≡ s.table
quiet_table true s = refl
quiet_table false s = refl

quiet_out : (b : Bool) (s : Share) → (cond b (record { table = s.table; out = s.out; quiet = true }) s).out ≡ s.out
quiet_out true s = refl
quiet_out false s = refl

out_quiet_set : (t table : ℕ) (ss : List Share) → is_out t (quiet_set table ss) ≡ is_out t ss
out_quiet_set t table [] = refl
out_quiet_set t table (s ∷ ss) = rw (quiet_table (s.table == table) s, quiet_out (s.table == table) s, out_quiet_set t table ss) refl

pub out_unquieted : (t : ℕ) (ss : List Share) → is_out t (unquieted ss) ≡ is_out t ss
out_unquieted t [] = refl
out_unquieted t (s ∷ ss) = ap (λ (b : Bool). (s.table == t && s.out) || b) (out_unquieted t ss)

-- the tables that a tick doesn't leave
abbrev kept : List ℕ → List Share → List Share
kept left ss = filter (λ s. not (list_any (λ table. table == s.table) left)) ss

out_in_rest : (t : ℕ) (b : Bool) (s : Share) (ss : List Share) → is_out t ss ≡ true → is_out t (cond b (s ∷ ss) ss) ≡ true
out_in_rest t true s ss is = rw is (or_true (s.table == t && s.out))
out_in_rest t false s ss is = is

out_kept : (t : ℕ) (left : List ℕ) (ss : List Share) → list_any (λ table. table == t) left ≡ false → is_out t ss ≡ true → is_out t (kept left ss) ≡ true
out_kept t left [] stays is = is
out_kept t left (s ∷ ss) stays is = elim (cases_eq s.table t) [
  | inl same ↦
      let here : list_any (λ table. table == s.table) left ≡ false = subst (λ (x : ℕ). list_any (λ table. table == x) left ≡ false) (sym same) stays in
      rw here (or_either (s.table == t && s.out) (is_out t ss) (s.table == t && s.out) (is_out t (kept left ss)) (λ so. so) (out_kept t left ss stays) is)
  | inr other ↦
      let not_it : (s.table == t && s.out) ≡ false = rw (ne_eqb s.table t other) refl in
      out_in_rest t (not (list_any (λ table. table == s.table) left)) s (kept left ss) (out_kept t left ss stays (second_of (s.table == t && s.out) (is_out t ss) not_it is))
]

-- ---- events

-- if the session is open, the batch is out
abbrev IsStillOut : ℕ → Phase → Type 0
IsStillOut t phase = is_open phase ≡ true → is_out t (shared phase) ≡ true

still_at : (t : ℕ) (e x : SessionState) → e ≡ x → IsStillOut t x.phase → IsStillOut t e.phase
still_at t e x is out = subst (λ (y : SessionState). IsStillOut t y.phase) (sym is) out

closed : (t : ℕ) (phase : Phase) → is_open phase ≡ false → IsStillOut t phase
closed t phase not_open = λ opened. absurd (false≢true (sym not_open ∙ opened))

-- ---- bytes

out_requested : (t : ℕ) (held : Bool) (c : Course) → is_out t c.shares ≡ true → is_out t (requested held c).1.shares ≡ true
out_requested t true c out = out
out_requested t false c out = out_unquieted t c.shares ∙ out

out_said : (t : ℕ) (c : Course) (control : Control) → is_out t c.shares ≡ true → is_out t (said c control).1.shares ≡ true
out_said t c controls.ResyncRequest out = out_requested t (is_held c.stays c.shares) c out
out_said t c controls.ResyncFinished out = out
out_said t c controls.ResyncPartial out = out
out_said t c controls.ResyncConfirmed out = out
out_said t c controls.Heartbeat out = out

out_passed : (t : ℕ) (b : Bool) (c : Course) (table number : ℕ) → is_out t c.shares ≡ true → is_out t (acknowledged b c table number).1.shares ≡ true
out_passed t true c table number out = out
out_passed t false c table number out = out

out_ack : (t : ℕ) (c : Course) (ack : Option (ℕ × ℕ)) → is_out t c.shares ≡ true → is_out t (ack_received c ack).1.shares ≡ true
out_ack t c (Some (table, number)) out = out_passed t (is_out table c.shares) c table number out
out_ack t c None out = out

out_received : (t : ℕ) (c : Course) (m : Taken) → is_out t c.shares ≡ true → is_out t (message_received c m).1.shares ≡ true
out_received t c (taken.Row u) out = out
out_received t c taken.Passed out = out
out_received t c (taken.Said control) out = out_said t c control out
out_received t c (taken.Acked table number) out = out_ack t c (ack_of c.intake.roster (taken.Acked table number)) out
out_received t c (taken.Failed kind) out = out

out_all : (t : ℕ) (c e : Course) (ts : List Taken) (acts : List Action) → is_out t c.shares ≡ true → AreReceived c ts acts e → is_out t e.shares ≡ true
out_all t c e [] acts out (is, here) = ap (λ (x : Course). is_out t x.shares) here ∙ out
out_all t c e (m ∷ ms) acts out (mid, rest, receives, all, later) =
    out_all t (message_received mid m).1 e ms rest (out_received t mid m (ap (λ (x : Course). is_out t x.shares) receives.2 ∙ out)) later

out_concluded : (t : ℕ) (s : SessionState) (c mid : Course) (result : Result (Unit {0}) Halt) (gs given acts : List Action) (e : SessionState) → is_out t c.shares ≡ true → ReceivesAll c result gs mid → Concludes s mid result given acts e → IsStillOut t e.phase
out_concluded t s c mid (Ok u) gs given acts e out (ts, are, waits) (all, ends) = still_at t e _ ends (λ opened. out_all t c mid ts gs out are)
out_concluded t s c mid (Err halts.Failed) gs given acts e out receives (all, ends) = still_at t e _ ends (closed t phases.Ended refl)
out_concluded t s c mid (Err (halts.Fault fault)) gs given acts e out receives (all, ends) = still_at t e _ ends (closed t phases.Ended refl)
out_concluded t s c mid (Err halts.Memory) gs given acts e out receives concludes = absurd concludes

out_receives : (t : ℕ) (s : SessionState) (c : Course) (first acts : List Action) (e : SessionState) → is_out t c.shares ≡ true → ReceivesBytes s c first acts e → IsStillOut t e.phase
out_receives t s c first acts e out (result, gs, mid, receives, concludes) = out_concluded t s c mid result gs (first ++ gs) acts e out receives concludes

out_welcomed : (t : ℕ) (b : Bool) (version : Version) (code : ℕ) (s : SessionState) (c : Course) (rest : List ℕ) (acts : List Action) (e : SessionState) → is_out t c.shares ≡ true → IsWelcomed b version code s c rest acts e → IsStillOut t e.phase
out_welcomed t true version code s c rest acts e out receives = out_receives t (speaking version s) (course_fed c rest) (sends_control (first_word c.stays) ∷ opening version c.shares) acts e out receives
out_welcomed t false version code s c rest acts e out (is, ends) = still_at t e _ ends (closed t phases.Ended refl)

out_connects : (t : ℕ) (version : Version) (status : Status) (s : SessionState) (bytes : List ℕ) (c : Course) (acts : List Action) (e : SessionState) → is_out t c.shares ≡ true → Connects version status s bytes c acts e → IsStillOut t e.phase
out_connects t version statuses.More s bytes c acts e out (is, ends) = still_at t e _ ends (λ opened. out)
out_connects t version (statuses.Code code used) s bytes c acts e out goes = out_welcomed t _ version code s c _ acts e out goes
out_connects t version (statuses.Other used) s bytes c acts e out (is, ends) = still_at t e _ ends (closed t phases.Ended refl)

out_accepts : (t : ℕ) (answer : Answer) (s : SessionState) (greeter : Greeter) (bytes : List ℕ) (c : Course) (acts : List Action) (e : SessionState) → is_out t c.shares ≡ true → Accepts answer s greeter bytes c acts e → IsStillOut t e.phase
out_accepts t answers.More s greeter bytes c acts e out (is, ends) = still_at t e _ ends (λ opened. out)
out_accepts t (answers.Accepted name version used) s greeter bytes c acts e out goes = out_receives t (speaking version s) (course_fed c (drop used bytes)) (actions.Send (status_text 200) ∷ opening version c.shares) acts e out goes
out_accepts t (answers.Refused code used) s greeter bytes c acts e out (is, ends) = still_at t e _ ends (closed t phases.Ended refl)

out_greets : (t : ℕ) (s : SessionState) (greeter : Greeter) (bytes : List ℕ) (c : Course) (acts : List Action) (e : SessionState) → is_out t c.shares ≡ true → Greets s greeter bytes c acts e → IsStillOut t e.phase
out_greets t s (greeters.Connects version) bytes c acts e out goes = out_connects t version (status_of bytes) s bytes c acts e out goes
out_greets t s (greeters.Accepts own peers) bytes c acts e out goes = out_accepts t (answer_of own peers bytes) s (greeters.Accepts own peers) bytes c acts e out goes

-- ---- other events

out_new : (t : ℕ) (s : SessionState) (hello : Hello) (c : Course) (event : Event) (acts : List Action) (e : SessionState) → GoesNew s hello c event acts e → IsStillOut t e.phase
out_new t s hello c events.Opened acts e (is, ends) = still_at t e _ ends (λ opened. absurd (false≢true opened))
out_new t s hello c events.Turn acts e (is, ends) = still_at t e _ ends (λ opened. absurd (false≢true opened))
out_new t s hello c events.Tick acts e (is, ends) = still_at t e _ ends (λ opened. absurd (false≢true opened))
out_new t s hello c events.Ask acts e (is, ends) = still_at t e _ ends (λ opened. absurd (false≢true opened))
out_new t s hello c events.CaughtUp acts e (is, ends) = still_at t e _ ends (λ opened. absurd (false≢true opened))
out_new t s hello c events.End acts e (is, ends) = still_at t e _ ends (λ opened. absurd (false≢true opened))
out_new t s hello c events.ReadFault acts e (is, ends) = still_at t e _ ends (λ opened. absurd (false≢true opened))
out_new t s hello c events.WriteFault acts e (is, ends) = still_at t e _ ends (λ opened. absurd (false≢true opened))
out_new t s hello c (events.Bytes bytes) acts e goes = absurd goes
out_new t s hello c (events.Copied table batch) acts e goes = absurd goes
out_new t s hello c (events.Nothing table) acts e goes = absurd goes
out_new t s hello c (events.Written known) acts e goes = absurd goes
out_new t s hello c (events.Settled table settled) acts e goes = absurd goes
out_new t s hello c (events.Refused table) acts e goes = absurd goes

out_hello : (t : ℕ) (s : SessionState) (greeter : Greeter) (bytes : List ℕ) (c : Course) (event : Event) (acts : List Action) (e : SessionState) → is_out t c.shares ≡ true → GoesHello s greeter bytes c event acts e → IsStillOut t e.phase
out_hello t s greeter bytes c (events.Bytes piece) acts e out goes = out_greets t s greeter (bytes ++ piece) c acts e out goes
out_hello t s greeter bytes c events.Turn acts e out (is, ends) = still_at t e _ ends (λ opened. absurd (false≢true opened))
out_hello t s greeter bytes c events.Tick acts e out (is, ends) = still_at t e _ ends (λ opened. absurd (false≢true opened))
out_hello t s greeter bytes c events.Ask acts e out (is, ends) = still_at t e _ ends (λ opened. absurd (false≢true opened))
out_hello t s greeter bytes c events.CaughtUp acts e out (is, ends) = still_at t e _ ends (λ opened. absurd (false≢true opened))
out_hello t s greeter bytes c events.End acts e out (is, ends) = still_at t e _ ends (λ opened. absurd (false≢true opened))
out_hello t s greeter bytes c events.ReadFault acts e out (is, ends) = still_at t e _ ends (λ opened. absurd (false≢true opened))
out_hello t s greeter bytes c events.WriteFault acts e out (is, ends) = still_at t e _ ends (λ opened. absurd (false≢true opened))
out_hello t s greeter bytes c events.Opened acts e out goes = absurd goes
out_hello t s greeter bytes c (events.Copied table batch) acts e out goes = absurd goes
out_hello t s greeter bytes c (events.Nothing table) acts e out goes = absurd goes
out_hello t s greeter bytes c (events.Written known) acts e out goes = absurd goes
out_hello t s greeter bytes c (events.Settled table settled) acts e out goes = absurd goes
out_hello t s greeter bytes c (events.Refused table) acts e out goes = absurd goes

out_turns : (t : ℕ) (asked : Option ℕ) (s : SessionState) (c : Course) (acts : List Action) (e : SessionState) → is_out t c.shares ≡ true → Turns asked s c acts e → IsStillOut t e.phase
out_turns t None s c acts e out (is, ends) = still_at t e _ ends (λ opened. out)
out_turns t (Some table) s c acts e out (is, ends) = still_at t e _ ends (λ opened. out)

out_finishes : (t : ℕ) (b : Bool) (s : SessionState) (c : Course) (acts : List Action) (e : SessionState) → is_out t c.shares ≡ true → FinishesResync b s c acts e → IsStillOut t e.phase
out_finishes t true s c acts e out (is, ends) = still_at t e _ ends (λ opened. out)
out_finishes t false s c acts e out (is, ends) = still_at t e _ ends (λ opened. out)

out_nothing : (t : ℕ) (b : Bool) (s : SessionState) (c : Course) (table : ℕ) (acts : List Action) (e : SessionState) → is_out t c.shares ≡ true → HasNothing b s c table acts e → IsStillOut t e.phase
out_nothing t true s c table acts e out finishes =
    out_finishes t (all_quiet (quiet_set table c.shares)) s (record c { shares = quiet_set table c.shares }) acts e (out_quiet_set t table c.shares ∙ out) finishes
out_nothing t false s c table acts e out (is, ends) = still_at t e _ ends (λ opened. out)

out_starts : (t : ℕ) (b : Bool) (s : SessionState) (c : Course) (acts : List Action) (e : SessionState) → is_out t c.shares ≡ true → StartsPendingResync b s c acts e → IsStillOut t e.phase
out_starts t true s c acts e out (is, ends) = still_at t e _ ends (λ opened. out_unquieted t c.shares ∙ out)
out_starts t false s c acts e out (is, ends) = still_at t e _ ends (λ opened. out)

and_yes : (b : Bool) → (b && true) ≡ false → b ≡ false
and_yes true so = so
and_yes false so = refl

out_settles : (t : ℕ) (settled : Settled) (s : SessionState) (c : Course) (table : ℕ) (acts : List Action) (e : SessionState) → is_settlement t (events.Settled table settled) ≡ false → is_out t c.shares ≡ true → Settles settled s c table acts e → IsStillOut t e.phase
out_settles t settles.All s c table acts e other out starts =
    out_starts t _ s (record c { shares = out_set table false c.shares }) acts e (out_other t table c.shares (and_yes (table == t) other) ∙ out) starts
out_settles t settles.Some s c table acts e other out (is, ends) = still_at t e _ ends (λ opened. out)
out_settles t settles.Older s c table acts e other out (is, ends) = still_at t e _ ends (λ opened. out)

answered_out : (t : ℕ) (c mid : Course) → mid ≡ record c { due = mid.due } → is_out t c.shares ≡ true → is_out t mid.shares ≡ true
answered_out t c mid is out = ap (λ (x : Course). is_out t x.shares) is ∙ out

out_open : (t : ℕ) (s : SessionState) (c : Course) (event : Event) (acts : List Action) (e : SessionState) → is_settlement t event ≡ false → is_out t c.shares ≡ true → GoesOpen s c event acts e → IsStillOut t e.phase
out_open t s c events.Turn acts e unsettled out (due, turns) = out_turns t (table_to_ask c) s c acts e out turns
out_open t s c events.Tick acts e unsettled out (due, (is, ends)) = still_at t e _ ends (λ opened. out)
out_open t s c events.Ask acts e unsettled out (due, (is, ends)) = still_at t e _ ends (λ opened. out)
out_open t s c events.CaughtUp acts e unsettled out (due, (is, ends)) = still_at t e _ ends (λ opened. out)
out_open t s c (events.Bytes bytes) acts e unsettled out (due, receives) = out_receives t s (course_fed c bytes) [] acts e out receives
out_open t s c (events.Copied table batch) acts e unsettled out (mid, answered, (is, ends)) =
    still_at t e _ ends (λ opened. out_more t table mid.shares (answered_out t c mid answered.1 out))
out_open t s c (events.Nothing table) acts e unsettled out (mid, answered, nothing) =
    out_nothing t mid.teaching s mid table acts e (answered_out t c mid answered.1 out) nothing
out_open t s c (events.Written known) acts e unsettled out (mid, answered, is, ends) = still_at t e _ ends (λ opened. answered_out t c mid answered.1 out)
out_open t s c (events.Settled table settled) acts e unsettled out (mid, answered, settles) =
    out_settles t settled s mid table acts e unsettled (answered_out t c mid answered.1 out) settles
out_open t s c (events.Refused table) acts e unsettled out (mid, answered, is, ends) = still_at t e _ ends (λ opened. absurd (false≢true opened))
out_open t s c events.End acts e unsettled out (is, ends) = still_at t e _ ends (λ opened. absurd (false≢true opened))
out_open t s c events.ReadFault acts e unsettled out (is, ends) = still_at t e _ ends (λ opened. absurd (false≢true opened))
out_open t s c events.WriteFault acts e unsettled out (is, ends) = still_at t e _ ends (λ opened. absurd (false≢true opened))
out_open t s c events.Opened acts e unsettled out goes = absurd goes

out_in : (t : ℕ) (phase : Phase) (s : SessionState) (event : Event) (acts : List Action) (e : SessionState) → is_settlement t event ≡ false → is_out t (shared phase) ≡ true → GoesIn phase s event acts e → IsStillOut t e.phase
out_in t (phases.New hello c) s event acts e unsettled out goes = out_new t s hello c event acts e goes
out_in t (phases.Hello greeter bytes c) s event acts e unsettled out goes = out_hello t s greeter bytes c event acts e out goes
out_in t (phases.Open c) s event acts e unsettled out goes = out_open t s c event acts e unsettled out goes
out_in t phases.Ended s event acts e unsettled out goes = absurd goes

-- ---- each step

out_finished : (t : ℕ) (b : Bool) (c : Course) → is_out t c.shares ≡ true → is_out t (finished_if b c).1.shares ≡ true
out_finished t true c out = out
out_finished t false c out = out

out_finishing : (t : ℕ) (c : Course) → is_out t c.shares ≡ true → is_out t (finishing c).1.shares ≡ true
out_finishing t c out = out_finished t (c.teaching && all_quiet c.shares) c out

out_still : (t : ℕ) (s e : StandingState) → e ≡ s → is_out t (shared s.session.phase) ≡ true → IsStillOut t e.session.phase
out_still t s e same out = λ opened. ap (λ (x : StandingState). is_out t (shared x.session.phase)) same ∙ out

out_does : (t : ℕ) (task : Task) (s e : StandingState) (c : Course) (now : ℕ) (acts : List Action) → s.session.phase ≡ phases.Open c → is_out t (shared s.session.phase) ≡ true → Does task s c now acts e → IsStillOut t e.session.phase
out_does t tasks.Copy s e c now acts stands out (goes, paces) = out_in t s.session.phase s.session events.Turn acts e.session refl out goes
out_does t tasks.Rest s e c now acts stands out (due, is, same) = out_still t s e same out
out_does t tasks.Begin s e c now acts stands out (due, is, session, paces) =
    still_at t e.session _ session (λ opened. out_finishing t (teaching_anew c) (out_unquieted t c.shares ∙ subst (λ (p : Phase). is_out t (shared p) ≡ true) stands out))

out_turn : (t : ℕ) (phase : Phase) (s e : StandingState) (now : ℕ) (acts : List Action) → s.session.phase ≡ phase → is_out t (shared s.session.phase) ≡ true → TakesTurn phase s now acts e → IsStillOut t e.session.phase
out_turn t (phases.Open c) s e now acts stands out does = out_does t (task_at now s.pace c) s e c now acts stands out does
out_turn t (phases.New hello c) s e now acts stands out (goes, paces) = out_in t s.session.phase s.session events.Turn acts e.session refl out goes
out_turn t (phases.Hello greeter bytes c) s e now acts stands out (goes, paces) = out_in t s.session.phase s.session events.Turn acts e.session refl out goes
out_turn t phases.Ended s e now acts stands out (goes, paces) = out_in t s.session.phase s.session events.Turn acts e.session refl out goes

out_writes : (t : ℕ) (phase : Phase) (s e : StandingState) (now : ℕ) (known : KnownState) (acts : List Action) → is_out t (shared phase) ≡ true → Writes phase s now known acts e → IsStillOut t e.session.phase
out_writes t (phases.Open c) s e now known acts out (goes, is, paces) =
    out_open t (going s.session (ack_received c (inferred c.asked s.pace.progress)).1) (ack_received c (inferred c.asked s.pace.progress)).1 (events.Written known) [] e.session refl (out_ack t c (inferred c.asked s.pace.progress) out) goes
out_writes t (phases.New hello c) s e now known acts out writes = absurd writes
out_writes t (phases.Hello greeter bytes c) s e now known acts out writes = absurd writes
out_writes t phases.Ended s e now known acts out writes = absurd writes

and-no : (b : Bool) → (b && false) ≡ false
and-no true = refl
and-no false = refl

no_settlement : (t : ℕ) (b : Bool) (table : ℕ) → is_settlement t (answer_of_refusal b table) ≡ false
no_settlement t true table = refl
no_settlement t false table = and-no (table == t)

no_settling_word : (t : ℕ) (b : Bool) → is_settlement t (word_of b) ≡ false
no_settling_word t true = refl
no_settling_word t false = refl

out_stands : (t : ℕ) (event : Event) (s e : StandingState) (now : ℕ) (acts : List Action) → is_settlement t event ≡ false → is_tick event ≡ false → is_out t (shared s.session.phase) ≡ true → Stands s now event acts e → IsStillOut t e.session.phase
out_stands t (events.Bytes bytes) s e now acts unsettled other out (goes, paces) = out_in t s.session.phase s.session (events.Bytes bytes) acts e.session unsettled out goes
out_stands t events.Turn s e now acts unsettled other out turns = out_turn t s.session.phase s e now acts refl out turns
out_stands t (events.Written known) s e now acts unsettled other out writes = out_writes t s.session.phase s e now known acts out writes
out_stands t (events.Refused table) s e now acts unsettled other out (goes, paces) =
    out_in t s.session.phase s.session _ acts e.session (no_settlement t (is_ahead table s.pace.progress) table) out goes
out_stands t (events.Copied table batch) s e now acts unsettled other out (goes, paces) = out_in t s.session.phase s.session (events.Copied table batch) acts e.session unsettled out goes
out_stands t events.Opened s e now acts unsettled other out (goes, paces) = out_in t s.session.phase s.session events.Opened acts e.session unsettled out goes
out_stands t events.Ask s e now acts unsettled other out (goes, paces) = out_in t s.session.phase s.session events.Ask acts e.session unsettled out goes
out_stands t events.CaughtUp s e now acts unsettled other out (goes, paces) = out_in t s.session.phase s.session _ acts e.session (no_settling_word t (has_left s.pace.progress)) out goes
out_stands t events.Tick s e now acts unsettled other out stands = absurd (false≢true (sym other))
out_stands t events.End s e now acts unsettled other out (goes, paces) = out_in t s.session.phase s.session events.End acts e.session unsettled out goes
out_stands t events.ReadFault s e now acts unsettled other out (goes, paces) = out_in t s.session.phase s.session events.ReadFault acts e.session unsettled out goes
out_stands t events.WriteFault s e now acts unsettled other out (goes, paces) = out_in t s.session.phase s.session events.WriteFault acts e.session unsettled out goes
out_stands t (events.Nothing table) s e now acts unsettled other out (goes, paces) = out_in t s.session.phase s.session (events.Nothing table) acts e.session unsettled out goes
out_stands t (events.Settled table settled) s e now acts unsettled other out (goes, paces) = out_in t s.session.phase s.session (events.Settled table settled) acts e.session unsettled out goes

out_leaving : (t : ℕ) (left : List ℕ) (c : Course) → list_any (λ table. table == t) left ≡ false → is_out t c.shares ≡ true → is_out t (leaving left c).1.shares ≡ true
out_leaving t [] c stays out = out
out_leaving t (table ∷ tables) c stays out = out_finishing t (without_tables (table ∷ tables) c) (out_kept t (table ∷ tables) c.shares stays out)

out_ticks : (t : ℕ) (silent : Bool) (phase : Phase) (s e : StandingState) (now : ℕ) (left : List ℕ) (acts : List Action) → s.session.phase ≡ phase → list_any (λ table. table == t) left ≡ false → is_out t (shared s.session.phase) ≡ true → TicksIn silent phase s now left acts e → IsStillOut t e.session.phase
out_ticks t true phase s e now left acts stands stays out (leaves, is, session, paces) = still_at t e.session _ session (λ opened. absurd (false≢true opened))
out_ticks t false (phases.Open c) s e now left acts stands stays out (leaves, is, session, paces) =
    still_at t e.session _ session (λ opened. out_leaving t left c stays (subst (λ (p : Phase). is_out t (shared p) ≡ true) stands out))
out_ticks t false (phases.New hello c) s e now left acts stands stays out (leaves, is, same) = out_still t s e same out
out_ticks t false (phases.Hello greeter bytes c) s e now left acts stands stays out (leaves, is, same) = out_still t s e same out
out_ticks t false phases.Ended s e now left acts stands stays out (leaves, is, same) = out_still t s e same out

out_tick : (t : ℕ) (s e : StandingState) (now : ℕ) (acts : List Action) → is_out t (shared s.session.phase) ≡ true → leaves t (at now events.Tick acts) ≡ false → Stands s now events.Tick acts e → IsStillOut t e.session.phase
out_tick t s e now acts out stays (asked, (left, rest, ticks, is)) =
    out_ticks t _ s.session.phase s e now left rest refl (sym (left_reopened t _ s.session.phase s e now left rest acts ticks is) ∙ stays) out ticks

pub stays_out : (s e : StandingState) (one : Happening) (table : ℕ) → Happens s one e → is_out table (shared s.session.phase) ≡ true → settles_all table one ≡ false → leaves table one ≡ false → is_open e.session.phase ≡ true → is_out table (shared e.session.phase) ≡ true
stays_out s e one table happens out unsettled stays opened = elim (tick_or_not one.event) [
  | inl is ↦
      out_tick table s e one.now one.acts out (subst (λ (event : Event). leaves table (at one.now event one.acts) ≡ false) is stays) (subst (λ (event : Event). Stands s one.now event one.acts e) is happens) opened
  | inr other ↦ out_stands table one.event s e one.now one.acts unsettled other out happens opened
]

-- so it is in a plain session
pub stays_out_plain : (s e : SessionState) (one : Happening) (table : ℕ) → Goes s one.event one.acts e → is_out table (shared s.phase) ≡ true → settles_all table one ≡ false → is_open e.phase ≡ true → is_out table (shared e.phase) ≡ true
stays_out_plain s e one table goes out unsettled opened = out_in table s.phase s one.event one.acts e unsettled out goes opened
