-- A table that was left is left for good.
use Rattle.std.proofs.Common.{◌≡◌, ℕ, Bool, true, false, not, ◌&&◌, ◌||◌, ◌==◌, cond, List, [], ◌∷◌, ◌++◌, Option, Some, None, Result, Ok, Err, refl, sym, ap, ◌∙◌, subst, inl, inr, ◌⊎◌}
use Rattle.session_core.specs.Runs.{reopened}
use Rattle.std.specs.Prelude.{drop, filter, is_some}
use Rattle.std.specs.List.{list_any}
use Rattle.std.specs.Option.{option_or}
use Rattle.std.proofs.lemmas.Bool.{cases_eq, eq-eqb, ne_eqb, false≢true}
use Rattle.std.proofs.lemmas.List.Folds.{list_any-append}
use Rattle.table_types.specs.declared.copies.Settled.{Settled}
use Rattle.table_types.specs.declared.copies.Settled.TheVariants as settles
use Rattle.table_types.specs.declared.version.Version.{Version}
use Rattle.table_types.specs.declared.version.Version.TheVariants as versions
use Rattle.known_state.specs.Known.{KnownState}
use Rattle.peers_msg.specs.declared.control.Control.{Control}
use Rattle.peers_msg.specs.declared.control.Control.TheVariants as controls
use Rattle.peers_msg.specs.declared.message.Message.{Message}
use Rattle.peers_hello.specs.declared.hello.Hello.{Hello}
use Rattle.peers_hello.specs.declared.hello.Answer.{Answer}
use Rattle.peers_hello.specs.declared.hello.Answer.TheVariants as answers
use Rattle.peers_hello.specs.declared.status.Status.{Status}
use Rattle.peers_hello.specs.declared.status.Status.TheVariants as statuses
use Rattle.peers_hello.specs.Hellos.{answer_of}
use Rattle.peers_hello.specs.Statuses.{status_of}
use Rattle.learner.specs.declared.taken.Taken.{Taken}
use Rattle.learner.specs.declared.taken.Taken.TheVariants as taken
use Rattle.learner.specs.Intake.{due_acks}
use Rattle.session_core.specs.declared.action.Action.{Action}
use Rattle.session_core.specs.declared.action.Action.TheVariants as actions
use Rattle.session_core.specs.declared.event.Event.{Event}
use Rattle.session_core.specs.declared.event.Event.TheVariants as events
use Rattle.session_core.specs.declared.halt.Halt.{Halt}
use Rattle.session_core.specs.declared.halt.Halt.TheVariants as halts
use Rattle.session_core.specs.declared.pace.Task.{Task}
use Rattle.session_core.specs.declared.pace.Task.TheVariants as tasks
use Rattle.session_core.specs.declared.phase.Greeter.{Greeter}
use Rattle.session_core.specs.declared.phase.Greeter.TheVariants as greeters
use Rattle.session_core.specs.declared.progress.Progress.{Progress}
use Rattle.session_core.specs.declared.share.Share.{Share}
use Rattle.session_core.specs.Phases.{Phase}
use Rattle.session_core.specs.Phases as phases
use Rattle.session_core.specs.Shares.{all_quiet, is_out, out_set, quiet_set, unquieted, may_copy, first_to_copy, through, past, next_table}
use Rattle.session_core.specs.Actions.{sends_control, sends_acks, status_text, reopens}
use Rattle.session_core.specs.Acks.{ack_of}
use Rattle.session_core.specs.Courses.{Course, course_fed, is_held, teaching_anew, requested, acknowledged, ack_received, said, message_received, AreReceived, ReceivesAll, acks_given, table_to_ask}
use Rattle.session_core.specs.Sessions.{SessionState, going, Concludes, ReceivesBytes, first_word, IsWelcomed, Connects, Accepts, Greets, GoesIn, GoesNew, GoesHello, GoesOpen, Turns, HasNothing, FinishesResync, StartsPendingResync, Settles, opening, speaking}
use Rattle.session_core.specs.Paces.{inferred, has_left}
use Rattle.session_core.specs.Standing.{StandingState, shared, finished_if, finishing, begun_resync, Does, task_at, TakesTurn, Writes, Stands, without_tables, leaving, heartbeats, TicksIn, word_of, reopening}
use Rattle.session_core.specs.Happenings.{Happening, is_tick, leaves, was_left, is_about}
use Rattle.session_core.proofs.MachineRuns.{Happens, Lasts}
use Rattle.session_core.specs.Paces.{is_overdue, tables_to_leave}
use Rattle.session_core.proofs.TickGives.{is_of_tick_event, left_reopened}
use Rattle.session_core.proofs.ShareLemmas.{true_or_false}

-- ---- lists

or_left : (a b : Bool) → (a || b) ≡ false → a ≡ false
or_left true b so = so
or_left false b so = refl

or_right : (a b : Bool) → (a || b) ≡ false → b ≡ false
or_right true b so = absurd (false≢true (sym so))
or_right false b so = so

neither : (a b : Bool) → a ≡ false → b ≡ false → (a || b) ≡ false
neither true b one other = one
neither false b one other = other

any_cond : {X : Type 0} (b : Bool) (p : X → Bool) (x : X) (ys : List X) → p x ≡ false → list_any p ys ≡ false → list_any p (cond b (x ∷ ys) ys) ≡ false
any_cond true p x ys one others = neither (p x) (list_any p ys) one others
any_cond false p x ys one others = others

any_filter : {X : Type 0} (p q : X → Bool) (xs : List X) → list_any p xs ≡ false → list_any p (filter q xs) ≡ false
any_filter p q [] none = refl
any_filter p q (x ∷ xs) none = any_cond (q x) p x (filter q xs) (or_left (p x) (list_any p xs) none) (any_filter p q xs (or_right (p x) (list_any p xs) none))

-- ---- the tables that are shared

-- `table` is among them
abbrev lists : ℕ → List Share → Bool
lists table ss = list_any (λ s. s.table == table) ss

out_table : (b flag : Bool) (s : Share) → (cond b (record { table = s.table; out = flag; quiet = s.quiet }) s).table ≡ s.table
out_table true flag s = refl
out_table false flag s = refl

lists_out_set : (t table : ℕ) (flag : Bool) (ss : List Share) → lists t (out_set table flag ss) ≡ lists t ss
lists_out_set t table flag [] = refl
lists_out_set t table flag (s ∷ ss) = rw (out_table (s.table == table) flag s, lists_out_set t table flag ss) refl

quiet_table : (b : Bool) (s : Share) → (cond b (record { table = s.table; out = s.out; quiet = true }) s).table ≡ s.table
quiet_table true s = refl
quiet_table false s = refl

lists_quiet_set : (t table : ℕ) (ss : List Share) → lists t (quiet_set table ss) ≡ lists t ss
lists_quiet_set t table [] = refl
lists_quiet_set t table (s ∷ ss) = rw (quiet_table (s.table == table) s, lists_quiet_set t table ss) refl

lists_unquieted : (t : ℕ) (ss : List Share) → lists t (unquieted ss) ≡ lists t ss
lists_unquieted t [] = refl
lists_unquieted t (s ∷ ss) = ap (λ (b : Bool). (s.table == t) || b) (lists_unquieted t ss)

-- the tables that a tick doesn't leave
abbrev kept : List ℕ → List Share → List Share
kept left ss = filter (λ s. not (list_any (λ table. table == s.table) left)) ss

lists_kept : (t : ℕ) (left : List ℕ) (ss : List Share) → lists t ss ≡ false → lists t (kept left ss) ≡ false
lists_kept t left ss none = any_filter (λ s. s.table == t) (λ s. not (list_any (λ table. table == s.table) left)) ss none

lists_left : (t : ℕ) (left : List ℕ) (ss : List Share) → list_any (λ table. table == t) left ≡ true → lists t (kept left ss) ≡ false
lists_left t left [] is = refl
lists_left t left (s ∷ ss) is = elim (cases_eq s.table t) [
  | inl same ↦
      let drops : list_any (λ table. table == s.table) left ≡ true = subst (λ (x : ℕ). list_any (λ table. table == x) left ≡ true) (sym same) is in
      rw drops (lists_left t left ss is)
  | inr other ↦ any_cond (not (list_any (λ table. table == s.table) left)) (λ (x : Share). x.table == t) s (kept left ss) (ne_eqb s.table t other) (lists_left t left ss is)
]

-- a table that isn't shared has no batch out
not_out : (t : ℕ) (ss : List Share) → lists t ss ≡ false → is_out t ss ≡ false
not_out t [] none = refl
not_out t (s ∷ ss) none = rw (or_left (s.table == t) (lists t ss) none) (not_out t ss (or_right (s.table == t) (lists t ss) none))

-- ---- nor is it asked for a batch

some_none : (t : ℕ) → ◌≡◌ {A = Option ℕ} None (Some t) → ⊥
some_none t is = false≢true (ap (λ (x : Option ℕ). is_some x) is)

not_first : (teaching : Bool) (t : ℕ) (ss : List Share) → lists t ss ≡ false → first_to_copy teaching ss ≡ Some t → ⊥
not_first teaching t [] none is = some_none t is
not_first teaching t (s ∷ ss) none is = elim (true_or_false (may_copy teaching s)) [
  | inl may ↦
      let here : Some s.table ≡ Some t = sym (rw may refl) ∙ is in
      let same : s.table ≡ t = cc in
      false≢true (sym (or_left (s.table == t) (lists t ss) none) ∙ eq-eqb s.table t same)
  | inr not_here ↦ not_first teaching t ss (or_right (s.table == t) (lists t ss) none) (sym (rw not_here refl) ∙ is)
]

lists_either : (t : ℕ) (b : Bool) (xs ys : List Share) → lists t xs ≡ false → lists t ys ≡ false → lists t (cond b xs ys) ≡ false
lists_either t true xs ys one other = one
lists_either t false xs ys one other = other

lists_past : (t asked : ℕ) (ss : List Share) → lists t ss ≡ false → lists t (past asked ss) ≡ false
lists_past t asked [] none = refl
lists_past t asked (s ∷ ss) none =
    let rest : lists t ss ≡ false = or_right (s.table == t) (lists t ss) none in
    lists_either t (s.table == asked) ss (past asked ss) rest (lists_past t asked ss rest)

lists_through : (t asked : ℕ) (ss : List Share) → lists t ss ≡ false → lists t (through asked ss) ≡ false
lists_through t asked [] none = refl
lists_through t asked (s ∷ ss) none =
    let first : (s.table == t) ≡ false = or_left (s.table == t) (lists t ss) none in
    lists_either t (s.table == asked) (s ∷ []) (s ∷ through asked ss) (neither (s.table == t) false first refl)
    (neither (s.table == t) (lists t (through asked ss)) first (lists_through t asked ss (or_right (s.table == t) (lists t ss) none)))

neither_some : (a b : Option ℕ) (t : ℕ) → (a ≡ Some t → ⊥) → (b ≡ Some t → ⊥) → option_or a b ≡ Some t → ⊥
neither_some None b t one other is = other is
neither_some (Some x) b t one other is = one is

not_next : (teaching : Bool) (asked : Option ℕ) (t : ℕ) (ss : List Share) → lists t ss ≡ false → next_table teaching asked ss ≡ Some t → ⊥
not_next teaching None t ss none is = not_first teaching t ss none is
not_next teaching (Some asked) t ss none is =
    neither_some (first_to_copy teaching (past asked ss)) (first_to_copy teaching (through asked ss)) t (not_first teaching t (past asked ss) (lists_past t asked ss none)) (not_first teaching t (through asked ss) (lists_through t asked ss none)) is

not_asked : (waits : Bool) (o : Option ℕ) (t : ℕ) → (o ≡ Some t → ⊥) → cond waits None o ≡ Some t → ⊥
not_asked true o t not_it is = some_none t is
not_asked false o t not_it is = not_it is

-- ---- what concerns it

abbrev concerns : ℕ → List Action → Bool
concerns t acts = list_any (is_about t) acts

concerns_append : (t : ℕ) (xs ys : List Action) → concerns t xs ≡ false → concerns t ys ≡ false → concerns t (xs ++ ys) ≡ false
concerns_append t xs ys one other = list_any-append (is_about t) xs ys ∙ neither _ _ one other

concerns_reopens : (t : ℕ) (ss : List Share) → concerns t (reopens ss) ≡ lists t ss
concerns_reopens t [] = refl
concerns_reopens t (s ∷ ss) = ap (λ (b : Bool). (s.table == t) || b) (concerns_reopens t ss)

concerns_opening : (t : ℕ) (version : Version) (ss : List Share) → lists t ss ≡ false → concerns t (opening version ss) ≡ false
concerns_opening t versions.V20 ss none = concerns_reopens t ss ∙ none
concerns_opening t versions.V21 ss none = refl

concerns_acks : (t : ℕ) (ms : List Message) → concerns t (sends_acks ms) ≡ false
concerns_acks t [] = refl
concerns_acks t (m ∷ ms) = refl

-- none of the actions concerns it, and it isn't among these tables
abbrev IsPast : ℕ → List Action → List Share → Type 0
IsPast t acts ss = (concerns t acts ≡ false) × (lists t ss ≡ false)

past_requested : (t : ℕ) (b : Bool) (c : Course) → lists t c.shares ≡ false → IsPast t (requested b c).0 (requested b c).1.shares
past_requested t true c none = (refl, none)
past_requested t false c none = (concerns_reopens t c.shares ∙ none, lists_unquieted t c.shares ∙ none)

past_said : (t : ℕ) (c : Course) (control : Control) → lists t c.shares ≡ false → IsPast t (said c control).0 (said c control).1.shares
past_said t c controls.ResyncRequest none = past_requested t (is_held c.stays c.shares) c none
past_said t c controls.ResyncFinished none = (refl, none)
past_said t c controls.ResyncPartial none = (refl, none)
past_said t c controls.ResyncConfirmed none = (refl, none)
past_said t c controls.Heartbeat none = (refl, none)

past_acknowledged : (t : ℕ) (b : Bool) (c : Course) (table number : ℕ) → is_out table c.shares ≡ b → lists t c.shares ≡ false → IsPast t (acknowledged b c table number).0 (acknowledged b c table number).1.shares
past_acknowledged t true c table number out none = elim (cases_eq table t) [
  | inl same ↦ absurd (false≢true (sym (not_out t c.shares none) ∙ subst (λ (x : ℕ). is_out x c.shares ≡ true) same out))
  | inr other ↦ (rw (ne_eqb table t other) refl, none)
]
past_acknowledged t false c table number out none = (refl, none)

past_ack : (t : ℕ) (c : Course) (ack : Option (ℕ × ℕ)) → lists t c.shares ≡ false → IsPast t (ack_received c ack).0 (ack_received c ack).1.shares
past_ack t c (Some (table, number)) none = past_acknowledged t (is_out table c.shares) c table number refl none
past_ack t c None none = (refl, none)

past_received : (t : ℕ) (c : Course) (m : Taken) → lists t c.shares ≡ false → IsPast t (message_received c m).0 (message_received c m).1.shares
past_received t c (taken.Row u) none = (refl, none)
past_received t c taken.Passed none = (refl, none)
past_received t c (taken.Said control) none = past_said t c control none
past_received t c (taken.Acked table number) none = past_ack t c (ack_of c.intake.roster (taken.Acked table number)) none
past_received t c (taken.Failed kind) none = (refl, none)

past_all : (t : ℕ) (c e : Course) (ts : List Taken) (acts : List Action) → lists t c.shares ≡ false → AreReceived c ts acts e → IsPast t acts e.shares
past_all t c e [] acts none (is, here) = (ap (concerns t) is, ap (λ (x : Course). lists t x.shares) here ∙ none)
past_all t c e (m ∷ ms) acts none (mid, rest, receives, all, later) =
    let here : lists t mid.shares ≡ false = ap (λ (x : Course). lists t x.shares) receives.2 ∙ none in
    let one = past_received t mid m here in
    let then = past_all t (message_received mid m).1 e ms rest one.1 later in
    (ap (concerns t) all ∙ concerns_append t (message_received mid m).0 rest one.0 then.0, then.1)

-- ---- bytes

-- the session after the actions
abbrev GoesPast : ℕ → List Action → SessionState → Type 0
GoesPast t acts e = IsPast t acts (shared e.phase)

past_at : (t : ℕ) (acts given : List Action) (e x : SessionState) → acts ≡ given → e ≡ x → IsPast t given (shared x.phase) → GoesPast t acts e
past_at t acts given e x is ends (one, other) = (ap (concerns t) is ∙ one, ap (λ (y : SessionState). lists t (shared y.phase)) ends ∙ other)

past_concluded : (t : ℕ) (s : SessionState) (c mid : Course) (result : Result (Unit {0}) Halt) (first gs given : List Action) (e : SessionState) → lists t c.shares ≡ false → concerns t first ≡ false → ReceivesAll c result gs mid → Concludes s mid result (first ++ gs) given e → GoesPast t given e
past_concluded t s c mid (Ok u) first gs given e none plain (ts, are, waits) (all, ends) =
    let heard = past_all t c mid ts gs none are in
    past_at t given _ e _ all ends (concerns_append t (first ++ gs) (acks_given mid) (concerns_append t first gs plain heard.0) (concerns_acks t (due_acks mid.intake)), heard.1)
past_concluded t s c mid (Err halts.Failed) first gs given e none plain (ts, at_halt, are, halted) (all, ends) =
    past_at t given _ e _ all ends (concerns_append t (first ++ gs) (actions.Close ∷ []) (concerns_append t first gs plain (past_all t c at_halt ts gs none are).0) refl, refl)
past_concluded t s c mid (Err (halts.Fault fault)) first gs given e none plain (ts, at_halt, are, halted) (all, ends) =
    past_at t given _ e _ all ends (concerns_append t (first ++ gs) (actions.Part _ ∷ []) (concerns_append t first gs plain (past_all t c at_halt ts gs none are).0) refl, refl)
past_concluded t s c mid (Err halts.Memory) first gs given e none plain receives concludes = absurd concludes

past_receives : (t : ℕ) (s : SessionState) (c : Course) (first given : List Action) (e : SessionState) → lists t c.shares ≡ false → concerns t first ≡ false → ReceivesBytes s c first given e → GoesPast t given e
past_receives t s c first given e none plain (result, gs, mid, receives, concludes) = past_concluded t s c mid result first gs given e none plain receives concludes

past_welcomed : (t : ℕ) (b : Bool) (version : Version) (code : ℕ) (s : SessionState) (c : Course) (rest : List ℕ) (given : List Action) (e : SessionState) → lists t c.shares ≡ false → IsWelcomed b version code s c rest given e → GoesPast t given e
past_welcomed t true version code s c rest given e none receives = past_receives t (speaking version s) (course_fed c rest) (sends_control (first_word c.stays) ∷ opening version c.shares) given e none (concerns_opening t version c.shares none) receives
past_welcomed t false version code s c rest given e none (is, ends) = past_at t given _ e _ is ends (refl, refl)

past_connects : (t : ℕ) (version : Version) (status : Status) (s : SessionState) (bytes : List ℕ) (c : Course) (given : List Action) (e : SessionState) → lists t c.shares ≡ false → Connects version status s bytes c given e → GoesPast t given e
past_connects t version statuses.More s bytes c given e none (is, ends) = past_at t given _ e _ is ends (refl, none)
past_connects t version (statuses.Code code used) s bytes c given e none goes = past_welcomed t _ version code s c _ given e none goes
past_connects t version (statuses.Other used) s bytes c given e none (is, ends) = past_at t given _ e _ is ends (refl, refl)

past_accepts : (t : ℕ) (answer : Answer) (s : SessionState) (greeter : Greeter) (bytes : List ℕ) (c : Course) (given : List Action) (e : SessionState) → lists t c.shares ≡ false → Accepts answer s greeter bytes c given e → GoesPast t given e
past_accepts t answers.More s greeter bytes c given e none (is, ends) = past_at t given _ e _ is ends (refl, none)
past_accepts t (answers.Accepted name version used) s greeter bytes c given e none goes = past_receives t (speaking version s) (course_fed c (drop used bytes)) (actions.Send (status_text 200) ∷ opening version c.shares) given e none (concerns_opening t version c.shares none) goes
past_accepts t (answers.Refused code used) s greeter bytes c given e none (is, ends) = past_at t given _ e _ is ends (refl, refl)

past_greets : (t : ℕ) (s : SessionState) (greeter : Greeter) (bytes : List ℕ) (c : Course) (given : List Action) (e : SessionState) → lists t c.shares ≡ false → Greets s greeter bytes c given e → GoesPast t given e
past_greets t s (greeters.Connects version) bytes c given e none goes = past_connects t version (status_of bytes) s bytes c given e none goes
past_greets t s (greeters.Accepts own peers) bytes c given e none goes = past_accepts t (answer_of own peers bytes) s (greeters.Accepts own peers) bytes c given e none goes

-- ---- events

past_new : (t : ℕ) (s : SessionState) (hello : Hello) (c : Course) (event : Event) (acts : List Action) (e : SessionState) → lists t c.shares ≡ false → GoesNew s hello c event acts e → GoesPast t acts e
past_new t s hello c events.Opened acts e none (is, ends) = past_at t acts _ e _ is ends (refl, none)
past_new t s hello c events.Turn acts e none (is, ends) = past_at t acts _ e _ is ends (refl, none)
past_new t s hello c events.Tick acts e none (is, ends) = past_at t acts _ e _ is ends (refl, none)
past_new t s hello c events.Ask acts e none (is, ends) = past_at t acts _ e _ is ends (refl, none)
past_new t s hello c events.CaughtUp acts e none (is, ends) = past_at t acts _ e _ is ends (refl, none)
past_new t s hello c events.End acts e none (is, ends) = past_at t acts _ e _ is ends (refl, refl)
past_new t s hello c events.ReadFault acts e none (is, ends) = past_at t acts _ e _ is ends (refl, refl)
past_new t s hello c events.WriteFault acts e none (is, ends) = past_at t acts _ e _ is ends (refl, refl)
past_new t s hello c (events.Bytes bytes) acts e none goes = absurd goes
past_new t s hello c (events.Copied table batch) acts e none goes = absurd goes
past_new t s hello c (events.Nothing table) acts e none goes = absurd goes
past_new t s hello c (events.Written known) acts e none goes = absurd goes
past_new t s hello c (events.Settled table settled) acts e none goes = absurd goes
past_new t s hello c (events.Refused table) acts e none goes = absurd goes

past_hello : (t : ℕ) (s : SessionState) (greeter : Greeter) (bytes : List ℕ) (c : Course) (event : Event) (acts : List Action) (e : SessionState) → lists t c.shares ≡ false → GoesHello s greeter bytes c event acts e → GoesPast t acts e
past_hello t s greeter bytes c (events.Bytes piece) acts e none goes = past_greets t s greeter (bytes ++ piece) c acts e none goes
past_hello t s greeter bytes c events.Turn acts e none (is, ends) = past_at t acts _ e _ is ends (refl, none)
past_hello t s greeter bytes c events.Tick acts e none (is, ends) = past_at t acts _ e _ is ends (refl, none)
past_hello t s greeter bytes c events.Ask acts e none (is, ends) = past_at t acts _ e _ is ends (refl, none)
past_hello t s greeter bytes c events.CaughtUp acts e none (is, ends) = past_at t acts _ e _ is ends (refl, none)
past_hello t s greeter bytes c events.End acts e none (is, ends) = past_at t acts _ e _ is ends (refl, refl)
past_hello t s greeter bytes c events.ReadFault acts e none (is, ends) = past_at t acts _ e _ is ends (refl, refl)
past_hello t s greeter bytes c events.WriteFault acts e none (is, ends) = past_at t acts _ e _ is ends (refl, refl)
past_hello t s greeter bytes c events.Opened acts e none goes = absurd goes
past_hello t s greeter bytes c (events.Copied table batch) acts e none goes = absurd goes
past_hello t s greeter bytes c (events.Nothing table) acts e none goes = absurd goes
past_hello t s greeter bytes c (events.Written known) acts e none goes = absurd goes
past_hello t s greeter bytes c (events.Settled table settled) acts e none goes = absurd goes
past_hello t s greeter bytes c (events.Refused table) acts e none goes = absurd goes

past_turns : (t : ℕ) (asked : Option ℕ) (s : SessionState) (c : Course) (acts : List Action) (e : SessionState) → lists t c.shares ≡ false → (asked ≡ Some t → ⊥) → Turns asked s c acts e → GoesPast t acts e
past_turns t None s c acts e none not_it (is, ends) = past_at t acts _ e _ is ends (refl, none)
past_turns t (Some table) s c acts e none not_it (is, ends) = elim (cases_eq table t) [
  | inl same ↦ absurd (not_it (ap (λ (x : ℕ). Some x) same))
  | inr other ↦ past_at t acts _ e _ is ends (rw (ne_eqb table t other) refl, none)
]

past_finishes : (t : ℕ) (b : Bool) (s : SessionState) (c : Course) (acts : List Action) (e : SessionState) → lists t c.shares ≡ false → FinishesResync b s c acts e → GoesPast t acts e
past_finishes t true s c acts e none (is, ends) = past_at t acts _ e _ is ends (refl, none)
past_finishes t false s c acts e none (is, ends) = past_at t acts _ e _ is ends (refl, none)

past_nothing : (t : ℕ) (b : Bool) (s : SessionState) (c : Course) (table : ℕ) (acts : List Action) (e : SessionState) → lists t c.shares ≡ false → HasNothing b s c table acts e → GoesPast t acts e
past_nothing t true s c table acts e none finishes =
    past_finishes t (all_quiet (quiet_set table c.shares)) s (record c { shares = quiet_set table c.shares }) acts e (lists_quiet_set t table c.shares ∙ none) finishes
past_nothing t false s c table acts e none (is, ends) = past_at t acts _ e _ is ends (refl, none)

past_starts : (t : ℕ) (b : Bool) (s : SessionState) (c : Course) (acts : List Action) (e : SessionState) → lists t c.shares ≡ false → StartsPendingResync b s c acts e → GoesPast t acts e
past_starts t true s c acts e none (is, ends) = past_at t acts _ e _ is ends (concerns_reopens t c.shares ∙ none, lists_unquieted t c.shares ∙ none)
past_starts t false s c acts e none (is, ends) = past_at t acts _ e _ is ends (refl, none)

past_settles : (t : ℕ) (settled : Settled) (s : SessionState) (c : Course) (table : ℕ) (acts : List Action) (e : SessionState) → lists t c.shares ≡ false → Settles settled s c table acts e → GoesPast t acts e
past_settles t settles.All s c table acts e none starts =
    past_starts t _ s (record c { shares = out_set table false c.shares }) acts e (lists_out_set t table false c.shares ∙ none) starts
past_settles t settles.Some s c table acts e none (is, ends) = past_at t acts _ e _ is ends (refl, none)
past_settles t settles.Older s c table acts e none (is, ends) = past_at t acts _ e _ is ends (refl, none)

-- an answer leaves the tables as they were
answered_shares : (t : ℕ) (c mid : Course) → mid ≡ record c { due = mid.due } → lists t c.shares ≡ false → lists t mid.shares ≡ false
answered_shares t c mid is none = ap (λ (x : Course). lists t x.shares) is ∙ none

past_open : (t : ℕ) (s : SessionState) (c : Course) (event : Event) (acts : List Action) (e : SessionState) → lists t c.shares ≡ false → GoesOpen s c event acts e → GoesPast t acts e
past_open t s c events.Turn acts e none (due, turns) =
    past_turns t (table_to_ask c) s c acts e none (not_asked (c.waits && not c.stays) (next_table c.teaching c.asked c.shares) t (not_next c.teaching c.asked t c.shares none)) turns
past_open t s c events.Tick acts e none (due, (is, ends)) = past_at t acts _ e _ is ends (refl, none)
past_open t s c events.Ask acts e none (due, (is, ends)) = past_at t acts _ e _ is ends (refl, none)
past_open t s c events.CaughtUp acts e none (due, (is, ends)) = past_at t acts _ e _ is ends (refl, none)
past_open t s c (events.Bytes bytes) acts e none (due, receives) = past_receives t s (course_fed c bytes) [] acts e none refl receives
past_open t s c (events.Copied table batch) acts e none (mid, answered, (is, ends)) =
    past_at t acts _ e _ is ends (refl, lists_out_set t table true mid.shares ∙ answered_shares t c mid answered.1 none)
past_open t s c (events.Nothing table) acts e none (mid, answered, nothing) =
    past_nothing t mid.teaching s mid table acts e (answered_shares t c mid answered.1 none) nothing
past_open t s c (events.Written known) acts e none (mid, answered, is, ends) = past_at t acts _ e _ is ends (refl, answered_shares t c mid answered.1 none)
past_open t s c (events.Settled table settled) acts e none (mid, answered, settles) =
    past_settles t settled s mid table acts e (answered_shares t c mid answered.1 none) settles
past_open t s c (events.Refused table) acts e none (mid, answered, is, ends) = past_at t acts _ e _ is ends (refl, refl)
past_open t s c events.End acts e none (is, ends) = past_at t acts _ e _ is ends (refl, refl)
past_open t s c events.ReadFault acts e none (is, ends) = past_at t acts _ e _ is ends (refl, refl)
past_open t s c events.WriteFault acts e none (is, ends) = past_at t acts _ e _ is ends (refl, refl)
past_open t s c events.Opened acts e none goes = absurd goes

past_in : (t : ℕ) (phase : Phase) (s : SessionState) (event : Event) (acts : List Action) (e : SessionState) → lists t (shared phase) ≡ false → GoesIn phase s event acts e → GoesPast t acts e
past_in t (phases.New hello c) s event acts e none goes = past_new t s hello c event acts e none goes
past_in t (phases.Hello greeter bytes c) s event acts e none goes = past_hello t s greeter bytes c event acts e none goes
past_in t (phases.Open c) s event acts e none goes = past_open t s c event acts e none goes
past_in t phases.Ended s event acts e none goes = absurd goes

-- ---- each step

past_finished : (t : ℕ) (b : Bool) (c : Course) → lists t c.shares ≡ false → IsPast t (finished_if b c).0 (finished_if b c).1.shares
past_finished t true c none = (refl, none)
past_finished t false c none = (refl, none)

past_finishing : (t : ℕ) (c : Course) → lists t c.shares ≡ false → IsPast t (finishing c).0 (finishing c).1.shares
past_finishing t c none = past_finished t (c.teaching && all_quiet c.shares) c none

past_begun : (t : ℕ) (c : Course) → lists t c.shares ≡ false → IsPast t (begun_resync c).0 (begun_resync c).1.shares
past_begun t c none =
    let ends = past_finishing t (teaching_anew c) (lists_unquieted t c.shares ∙ none) in
    (concerns_append t (reopens c.shares) (finishing (teaching_anew c)).0 (concerns_reopens t c.shares ∙ none) ends.0, ends.1)

-- nothing is done
past_still : (t : ℕ) (s e : StandingState) (acts : List Action) → acts ≡ [] → e ≡ s → lists t (shared s.session.phase) ≡ false → GoesPast t acts e.session
past_still t s e acts is same none = (ap (concerns t) is, ap (λ (x : StandingState). lists t (shared x.session.phase)) same ∙ none)

past_does : (t : ℕ) (task : Task) (s e : StandingState) (c : Course) (now : ℕ) (acts : List Action) → s.session.phase ≡ phases.Open c → lists t (shared s.session.phase) ≡ false → Does task s c now acts e → GoesPast t acts e.session
past_does t tasks.Copy s e c now acts stands none (goes, paces) = past_in t s.session.phase s.session events.Turn acts e.session none goes
past_does t tasks.Rest s e c now acts stands none (due, is, same) = past_still t s e acts is same none
past_does t tasks.Begin s e c now acts stands none (due, is, session, paces) =
    past_at t acts _ e.session _ is session (past_begun t c (subst (λ (p : Phase). lists t (shared p) ≡ false) stands none))

past_turn : (t : ℕ) (phase : Phase) (s e : StandingState) (now : ℕ) (acts : List Action) → s.session.phase ≡ phase → lists t (shared s.session.phase) ≡ false → TakesTurn phase s now acts e → GoesPast t acts e.session
past_turn t (phases.Open c) s e now acts stands none does = past_does t (task_at now s.pace c) s e c now acts stands none does
past_turn t (phases.New hello c) s e now acts stands none (goes, paces) = past_in t s.session.phase s.session events.Turn acts e.session none goes
past_turn t (phases.Hello greeter bytes c) s e now acts stands none (goes, paces) = past_in t s.session.phase s.session events.Turn acts e.session none goes
past_turn t phases.Ended s e now acts stands none (goes, paces) = past_in t s.session.phase s.session events.Turn acts e.session none goes

past_writes : (t : ℕ) (phase : Phase) (s e : StandingState) (now : ℕ) (known : KnownState) (acts : List Action) → lists t (shared phase) ≡ false → Writes phase s now known acts e → GoesPast t acts e.session
past_writes t (phases.Open c) s e now known acts none (goes, is, paces) =
    let one = past_ack t c (inferred c.asked s.pace.progress) none in
    let then = past_open t (going s.session (ack_received c (inferred c.asked s.pace.progress)).1) (ack_received c (inferred c.asked s.pace.progress)).1 (events.Written known) [] e.session one.1 goes in
    (ap (concerns t) is ∙ one.0, then.1)
past_writes t (phases.New hello c) s e now known acts none writes = absurd writes
past_writes t (phases.Hello greeter bytes c) s e now known acts none writes = absurd writes
past_writes t phases.Ended s e now known acts none writes = absurd writes

past_leaving : (t : ℕ) (left : List ℕ) (c : Course) → lists t c.shares ≡ false → IsPast t (leaving left c).0 (leaving left c).1.shares
past_leaving t [] c none = (refl, none)
past_leaving t (table ∷ tables) c none = past_finishing t (without_tables (table ∷ tables) c) (lists_kept t (table ∷ tables) c.shares none)

concerns_beats : (t : ℕ) (b : Bool) → concerns t (heartbeats b) ≡ false
concerns_beats t true = refl
concerns_beats t false = refl

past_ticks : (t : ℕ) (silent : Bool) (phase : Phase) (s e : StandingState) (now : ℕ) (left : List ℕ) (acts : List Action) → s.session.phase ≡ phase → lists t (shared s.session.phase) ≡ false → TicksIn silent phase s now left acts e → GoesPast t acts e.session
past_ticks t true phase s e now left acts stands none (leaves, is, session, paces) = past_at t acts _ e.session _ is session (refl, refl)
past_ticks t false (phases.Open c) s e now left acts stands none (leaves, is, session, paces) =
    let left_then = past_leaving t left c (subst (λ (p : Phase). lists t (shared p) ≡ false) stands none) in
    past_at t acts _ e.session _ is session (concerns_append t (leaving left c).0 (heartbeats _) left_then.0 (concerns_beats t _), left_then.1)
past_ticks t false (phases.New hello c) s e now left acts stands none (leaves, is, same) = past_still t s e acts is same none
past_ticks t false (phases.Hello greeter bytes c) s e now left acts stands none (leaves, is, same) = past_still t s e acts is same none
past_ticks t false phases.Ended s e now left acts stands none (leaves, is, same) = past_still t s e acts is same none

-- a tick leaves only tables that are shared
concerns_cond : (t : ℕ) (b : Bool) (table : ℕ) (tables : List ℕ) → (table == t) ≡ false → concerns t (reopening tables) ≡ false → concerns t (reopening (cond b (table ∷ tables) tables)) ≡ false
concerns_cond t true table tables one others = neither (table == t) (concerns t (reopening tables)) one others
concerns_cond t false table tables one others = others

unlisted_leave : (t now : ℕ) (ps : List Progress) (ss : List Share) → lists t ss ≡ false → concerns t (reopening (tables_to_leave now ps ss)) ≡ false
unlisted_leave t now ps [] none = refl
unlisted_leave t now ps (s ∷ ss) none =
    concerns_cond t (is_overdue now ps s) s.table (tables_to_leave now ps ss) (or_left (s.table == t) (lists t ss) none) (unlisted_leave t now ps ss (or_right (s.table == t) (lists t ss) none))

none_concerned : (t : ℕ) (left : List ℕ) → left ≡ [] → concerns t (reopening left) ≡ false
none_concerned t left none = ap (λ (xs : List ℕ). concerns t (reopening xs)) none

unlisted_left : (t : ℕ) (silent : Bool) (phase : Phase) (s e : StandingState) (now : ℕ) (left : List ℕ) (acts : List Action) → s.session.phase ≡ phase → lists t (shared s.session.phase) ≡ false → TicksIn silent phase s now left acts e → concerns t (reopening left) ≡ false
unlisted_left t true phase s e now left acts stands none (leaves, is, session, paces) = none_concerned t left leaves
unlisted_left t false (phases.Open c) s e now left acts stands none (leaves, is, session, paces) =
    ap (λ (xs : List ℕ). concerns t (reopening xs)) leaves ∙ unlisted_leave t now s.pace.progress c.shares (subst (λ (p : Phase). lists t (shared p) ≡ false) stands none)
unlisted_left t false (phases.New hello c) s e now left acts stands none (leaves, is, same) = none_concerned t left leaves
unlisted_left t false (phases.Hello greeter bytes c) s e now left acts stands none (leaves, is, same) = none_concerned t left leaves
unlisted_left t false phases.Ended s e now left acts stands none (leaves, is, same) = none_concerned t left leaves

past_stands : (t : ℕ) (event : Event) (s e : StandingState) (now : ℕ) (acts : List Action) → lists t (shared s.session.phase) ≡ false → Stands s now event acts e → GoesPast t acts e.session
past_stands t (events.Bytes bytes) s e now acts none (goes, paces) = past_in t s.session.phase s.session (events.Bytes bytes) acts e.session none goes
past_stands t events.Turn s e now acts none turns = past_turn t s.session.phase s e now acts refl none turns
past_stands t (events.Written known) s e now acts none writes = past_writes t s.session.phase s e now known acts none writes
past_stands t (events.Refused table) s e now acts none (goes, paces) = past_in t s.session.phase s.session _ acts e.session none goes
past_stands t (events.Copied table batch) s e now acts none (goes, paces) = past_in t s.session.phase s.session (events.Copied table batch) acts e.session none goes
past_stands t events.Opened s e now acts none (goes, paces) = past_in t s.session.phase s.session events.Opened acts e.session none goes
past_stands t events.Ask s e now acts none (goes, paces) = past_in t s.session.phase s.session events.Ask acts e.session none goes
past_stands t events.CaughtUp s e now acts none (goes, paces) = past_in t s.session.phase s.session (word_of (has_left s.pace.progress)) acts e.session none goes
past_stands t events.Tick s e now acts none (asked, (left, rest, ticks, is)) =
    let past = past_ticks t _ s.session.phase s e now left rest refl none ticks in
    (ap (concerns t) is ∙ concerns_append t (reopening left) rest (unlisted_left t _ s.session.phase s e now left rest refl none ticks) past.0, past.1)
past_stands t events.End s e now acts none (goes, paces) = past_in t s.session.phase s.session events.End acts e.session none goes
past_stands t events.ReadFault s e now acts none (goes, paces) = past_in t s.session.phase s.session events.ReadFault acts e.session none goes
past_stands t events.WriteFault s e now acts none (goes, paces) = past_in t s.session.phase s.session events.WriteFault acts e.session none goes
past_stands t (events.Nothing table) s e now acts none (goes, paces) = past_in t s.session.phase s.session (events.Nothing table) acts e.session none goes
past_stands t (events.Settled table settled) s e now acts none (goes, paces) = past_in t s.session.phase s.session (events.Settled table settled) acts e.session none goes

past_happens : (t : ℕ) (one : Happening) (s e : StandingState) → lists t (shared s.session.phase) ≡ false → Happens s one e → GoesPast t one.acts e.session
past_happens t one s e none happens = past_stands t one.event s e one.now one.acts none happens

-- ---- runs

-- the tick that leaves it
left_by : (t : ℕ) (left : List ℕ) (c : Course) → list_any (λ table. table == t) left ≡ true → lists t (leaving left c).1.shares ≡ false
left_by t [] c is = absurd (false≢true is)
left_by t (table ∷ tables) c is = (past_finishing t (without_tables (table ∷ tables) c) (lists_left t (table ∷ tables) c.shares is)).1

none_left : {X : Type 0} (t : ℕ) (left : List ℕ) → left ≡ [] → list_any (λ table. table == t) left ≡ true → X
none_left t left none is = absurd (false≢true (sym (ap (λ (xs : List ℕ). list_any (λ table. table == t) xs) none) ∙ is))

left_ticks : (t : ℕ) (silent : Bool) (phase : Phase) (s e : StandingState) (now : ℕ) (left : List ℕ) (acts : List Action) → list_any (λ table. table == t) left ≡ true → TicksIn silent phase s now left acts e → lists t (shared e.session.phase) ≡ false
left_ticks t true phase s e now left acts is (leaves, acted, session, paces) = none_left t left leaves is
left_ticks t false (phases.Open c) s e now left acts is (leaves, acted, session, paces) =
    ap (λ (y : SessionState). lists t (shared y.phase)) session ∙ left_by t left c is
left_ticks t false (phases.New hello c) s e now left acts is (leaves, acted, same) = none_left t left leaves is
left_ticks t false (phases.Hello greeter bytes c) s e now left acts is (leaves, acted, same) = none_left t left leaves is
left_ticks t false phases.Ended s e now left acts is (leaves, acted, same) = none_left t left leaves is

left_at : (t : ℕ) (s e : StandingState) (now : ℕ) (acts : List Action) → reopened t acts ≡ true → Stands s now events.Tick acts e → lists t (shared e.session.phase) ≡ false
left_at t s e now acts is (asked, (left, rest, ticks, acted)) =
    left_ticks t _ s.session.phase s e now left rest (sym (left_reopened t _ s.session.phase s e now left rest acts ticks acted) ∙ is) ticks

both_so : (a b : Bool) → (a && b) ≡ true → (a ≡ true) × (b ≡ true)
both_so true b so = (refl, so)
both_so false b so = absurd (false≢true so)

left_happens : (t : ℕ) (one : Happening) (s e : StandingState) → leaves t one ≡ true → Happens s one e → lists t (shared e.session.phase) ≡ false
left_happens t one s e is happens =
    let both = both_so (is_tick one.event) (reopened t one.acts) is in
    left_at t s e one.now one.acts both.1 (subst (λ (event : Event). Stands s one.now event one.acts e) (is_of_tick_event one.event both.0) happens)

-- it stays unshared
past_lasts : (t : ℕ) (steps : List Happening) (s e : StandingState) → lists t (shared s.session.phase) ≡ false → Lasts s steps e → lists t (shared e.session.phase) ≡ false
past_lasts t [] s e none here = ap (λ (x : StandingState). lists t (shared x.session.phase)) here ∙ none
past_lasts t (one ∷ steps) s e none (mid, happens, lasts) = past_lasts t steps mid e (past_happens t one s mid none happens).1 lasts

either_left : (a b : Bool) → (a || b) ≡ true → (a ≡ true) ⊎ (b ≡ true)
either_left true b so = inl refl
either_left false b so = inr so

left_lasts : (t : ℕ) (steps : List Happening) (s e : StandingState) → was_left t steps ≡ true → Lasts s steps e → lists t (shared e.session.phase) ≡ false
left_lasts t [] s e is here = absurd (false≢true is)
left_lasts t (one ∷ steps) s e is (mid, happens, lasts) = elim (either_left (leaves t one) (was_left t steps) is) [
  | inl here ↦ past_lasts t steps mid e (left_happens t one s mid here happens) lasts
  | inr later ↦ left_lasts t steps mid e later lasts
]

pub left_for_good : (s t e : StandingState) (steps : List Happening) (one : Happening) (table : ℕ) → Lasts s steps t → was_left table steps ≡ true → Happens t one e → list_any (is_about table) one.acts ≡ false
left_for_good s t e steps one table lasts is happens = (past_happens table one t e (left_lasts table steps s t is lasts) happens).0
