-- Each step of a session preserves what every run preserves.
use Rattle.std.proofs.Common.{◌≡◌, ℕ, Bool, true, false, not, ◌&&◌, List, [], ◌∷◌, ◌++◌, Some, None, Option, Ok, Err, Result, refl, sym, ap, ◌∙◌, subst, inl, inr, append_assoc, cond}
use Rattle.std.specs.Prelude.{is_some, drop}
use Rattle.std.proofs.lemmas.Bool.{cases_eq, eq-eqb, ne_eqb, false≢true}
use Rattle.table_types.specs.declared.update.Update.{Update}
use Rattle.table_types.specs.declared.copies.CopyKind.{CopyKind}
use Rattle.table_types.specs.declared.copies.Settled.{Settled}
use Rattle.table_types.specs.declared.copies.Settled.TheVariants as settles
use Rattle.table_types.specs.declared.version.Version.{Version}
use Rattle.peers_hello.specs.declared.hello.Hello.{Hello}
use Rattle.peers_hello.specs.declared.hello.Answer.{Answer}
use Rattle.peers_hello.specs.declared.hello.Answer.TheVariants as answers
use Rattle.peers_hello.specs.declared.status.Status.{Status}
use Rattle.peers_hello.specs.declared.status.Status.TheVariants as statuses
use Rattle.peers_hello.specs.Hellos.{answer_of}
use Rattle.peers_hello.specs.Statuses.{status_of}
use Rattle.session_core.specs.declared.action.Action.{Action}
use Rattle.session_core.specs.declared.action.Action.TheVariants as actions
use Rattle.session_core.specs.declared.event.Event.{Event}
use Rattle.session_core.specs.declared.event.Event.TheVariants as events
use Rattle.session_core.specs.declared.due.Due.{Due}
use Rattle.session_core.specs.declared.due.Due.TheVariants as dues
use Rattle.session_core.specs.declared.halt.Halt.{Halt}
use Rattle.session_core.specs.declared.halt.Halt.TheVariants as halts
use Rattle.session_core.specs.declared.phase.Greeter.{Greeter}
use Rattle.session_core.specs.declared.phase.Greeter.TheVariants as greeters
use Rattle.session_core.specs.Phases.{Phase}
use Rattle.session_core.specs.Phases as phases
use Rattle.peers_msg.specs.declared.message.Message.{Message}
use Rattle.learner.specs.Intake.{due_acks}
use Rattle.session_core.specs.Shares.{out_set, quiet_set, next_table}
use Rattle.session_core.specs.Actions.{sends_control, sends_acks, status_text}
use Rattle.session_core.specs.Courses.{Course, course_fed, caught_up, ReceivesAll, acks_given, acks_sent, table_to_ask, kind_of, teaching_anew}
use Rattle.session_core.specs.Sessions.{SessionState, Concludes, ReceivesBytes, IsWelcomed, Connects, Accepts, Greets, GoesNew, GoesHello, GoesOpen, GoesIn, Turns, IsCopied, HasNothing, FinishesResync, StartsPendingResync, Settles, first_word, opening, speaking}
use Rattle.session_core.specs.Runs.{copies, reopened, IsLeft, HasNothingLeft}
use Rattle.session_core.proofs.ShareLemmas.{shares_in, set_at, never, out_set_in, quiet_set_in, IsFree, next_free, no_clash}
use Rattle.session_core.proofs.EndLemmas.{is_plain, plain_append, plain_all, plain_acks, plain_ready, plain_status, plain_word}
use Rattle.session_core.proofs.RunLemmas.{IsSound, IsCalm, IsFresh, IsKeptIn, AreFlags, IsDueSound, no_copies, due_sound, due_rest, calm_sound, flags_more, calm_more, IsCalmAfter, reopened_append, fresh_after, calm_all, anew_flags, left_more}

abbrev pub with_step : List (Event × List Action) → Event → List Action → List (Event × List Action)
with_step steps event acts = steps ++ ((event, acts) ∷ [])

-- the session after the step is in this phase
stands : (stays : Bool) (ids : List ℕ) (steps : List (Event × List Action)) (e : SessionState) (phase : Phase) → e.phase ≡ phase → IsKeptIn stays ids steps phase → IsKeptIn stays ids steps e.phase
stands stays ids steps e phase is kept = subst (IsKeptIn stays ids steps) (sym is) kept

-- ---- bytes

-- the acknowledgements reopen nothing
acks_reopen_none : (id : ℕ) (ms : List Message) → reopened id (sends_acks ms) ≡ false
acks_reopen_none id [] = refl
acks_reopen_none id (m ∷ ms) = refl

received_more : (stays : Bool) (ids : List ℕ) (steps : List (Event × List Action)) (mid : Course) (event : Event) (first given acts : List Action) → ((id : ℕ) → copies id acts ≡ false) → acts ≡ (first ++ given) ++ acks_given mid → IsCalmAfter stays ids steps (first ++ given) mid → IsCalm stays ids (with_step steps event acts) mid
received_more stays ids steps mid event first given acts no_copy is (out, quiet, flags, none, still) =
    let reopens_none : mid.teaching ≡ true → (id : ℕ) → quiet id ≡ true → reopened id acts ≡ false = λ teaching id quiets.
    ap (reopened id) is ∙ reopened_append id (first ++ given) (acks_given mid) (still teaching id quiets) (acks_reopen_none id (due_acks mid.intake)) in
    (out, quiet, flags_more stays ids steps mid out quiet event acts (λ teaching id quiets. (no_copy id, reopens_none teaching id quiets)) flags, none)

received_kept : (stays : Bool) (ids : List ℕ) (steps : List (Event × List Action)) (s : SessionState) (c : Course) (first acts : List Action) (e : SessionState) (event : Event) (result : Result (Unit {0}) Halt) (given : List Action) (mid : Course) → IsCalmAfter stays ids steps first c → ((id : ℕ) → is_plain id first) → ReceivesAll c result given mid → Concludes s mid result (first ++ given) acts e → IsKeptIn stays ids (with_step steps event acts) e.phase
received_kept stays ids steps s c first acts e event (Ok u) given mid calm plain (ts, are, waits) (is, ends) =
    let no_copy : (id : ℕ) → copies id acts ≡ false = λ id.
    rw is ((plain_append id (first ++ given) (acks_given mid) (plain_append id first given (plain id) (plain_all id c mid ts given are)) (plain_acks id mid.intake)).1) in
    let calm_then : IsCalm stays ids (with_step steps event acts) mid = received_more stays ids steps mid event first given acts no_copy is (calm_all stays ids steps first c mid ts given are calm) in
    stands stays ids (with_step steps event acts) e (phases.Open (acks_sent mid)) (ap (λ (x : SessionState). x.phase) ends) (calm_sound stays ids (with_step steps event acts) (acks_sent mid) calm_then)
received_kept stays ids steps s c first acts e event (Err halts.Failed) given mid calm plain receives (is, ends) =
    stands stays ids (with_step steps event acts) e phases.Ended (ap (λ (x : SessionState). x.phase) ends) tt
received_kept stays ids steps s c first acts e event (Err (halts.Fault fault)) given mid calm plain receives (is, ends) =
    stands stays ids (with_step steps event acts) e phases.Ended (ap (λ (x : SessionState). x.phase) ends) tt
received_kept stays ids steps s c first acts e event (Err halts.Memory) given mid calm plain receives concludes = absurd concludes

receives_kept : (stays : Bool) (ids : List ℕ) (steps : List (Event × List Action)) (s : SessionState) (c : Course) (first acts : List Action) (e : SessionState) (event : Event) → IsCalmAfter stays ids steps first c → ((id : ℕ) → is_plain id first) → ReceivesBytes s c first acts e → IsKeptIn stays ids (with_step steps event acts) e.phase
receives_kept stays ids steps s c first acts e event calm plain (result, given, mid, receives, concludes) =
    received_kept stays ids steps s c first acts e event result given mid calm plain receives concludes

-- ---- New and Hello

new_kept : (stays : Bool) (ids : List ℕ) (steps : List (Event × List Action)) (s : SessionState) (hello : Hello) (c : Course) (event : Event) (acts : List Action) (e : SessionState) → IsFresh stays ids c → GoesNew s hello c event acts e → IsKeptIn stays ids (with_step steps event acts) e.phase
new_kept stays ids steps s hello c events.Opened acts e fresh (is, ends) = stands stays ids _ e (phases.Hello (greeters.Connects hello.version) [] c) (ap (λ (x : SessionState). x.phase) ends) fresh
new_kept stays ids steps s hello c events.Turn acts e fresh (is, ends) = stands stays ids _ e (phases.New hello c) (ap (λ (x : SessionState). x.phase) ends) fresh
new_kept stays ids steps s hello c events.Tick acts e fresh (is, ends) = stands stays ids _ e (phases.New hello c) (ap (λ (x : SessionState). x.phase) ends) fresh
new_kept stays ids steps s hello c events.Ask acts e fresh (is, ends) = stands stays ids _ e (phases.New hello c) (ap (λ (x : SessionState). x.phase) ends) fresh
new_kept stays ids steps s hello c events.CaughtUp acts e fresh (is, ends) = stands stays ids _ e (phases.New hello (caught_up c)) (ap (λ (x : SessionState). x.phase) ends) fresh
new_kept stays ids steps s hello c events.End acts e fresh (is, ends) = stands stays ids (with_step steps events.End acts) e phases.Ended (ap (λ (x : SessionState). x.phase) ends) tt
new_kept stays ids steps s hello c events.ReadFault acts e fresh (is, ends) = stands stays ids (with_step steps events.ReadFault acts) e phases.Ended (ap (λ (x : SessionState). x.phase) ends) tt
new_kept stays ids steps s hello c events.WriteFault acts e fresh (is, ends) = stands stays ids (with_step steps events.WriteFault acts) e phases.Ended (ap (λ (x : SessionState). x.phase) ends) tt
new_kept stays ids steps s hello c (events.Bytes bytes) acts e fresh goes = absurd goes
new_kept stays ids steps s hello c (events.Copied table batch) acts e fresh goes = absurd goes
new_kept stays ids steps s hello c (events.Nothing table) acts e fresh goes = absurd goes
new_kept stays ids steps s hello c (events.Written known) acts e fresh goes = absurd goes
new_kept stays ids steps s hello c (events.Settled table settled) acts e fresh goes = absurd goes
new_kept stays ids steps s hello c (events.Refused table) acts e fresh goes = absurd goes

welcomed_kept : (stays : Bool) (ids : List ℕ) (steps : List (Event × List Action)) (b : Bool) (version : Version) (code : ℕ) (s : SessionState) (c : Course) (rest : List ℕ) (acts : List Action) (e : SessionState) (event : Event) → IsFresh stays ids c → IsWelcomed b version code s c rest acts e → IsKeptIn stays ids (with_step steps event acts) e.phase
welcomed_kept stays ids steps true version code s c rest acts e event fresh receives = receives_kept stays ids steps (speaking version s) (course_fed c rest) (sends_control (first_word c.stays) ∷ opening version c.shares) acts e event (fresh_after stays ids steps (sends_control (first_word c.stays) ∷ opening version c.shares) c fresh) (λ id. plain_ready id (sends_control (first_word c.stays)) version c.shares (plain_word id c.stays)) receives
welcomed_kept stays ids steps false version code s c rest acts e event fresh (is, ends) = stands stays ids (with_step steps event acts) e phases.Ended (ap (λ (x : SessionState). x.phase) ends) tt

connects_kept : (stays : Bool) (ids : List ℕ) (steps : List (Event × List Action)) (version : Version) (status : Status) (s : SessionState) (bytes : List ℕ) (c : Course) (acts : List Action) (e : SessionState) (event : Event) → IsFresh stays ids c → Connects version status s bytes c acts e → IsKeptIn stays ids (with_step steps event acts) e.phase
connects_kept stays ids steps version statuses.More s bytes c acts e event fresh (is, ends) = stands stays ids _ e (phases.Hello (greeters.Connects version) bytes c) (ap (λ (x : SessionState). x.phase) ends) fresh
connects_kept stays ids steps version (statuses.Code code used) s bytes c acts e event fresh goes = welcomed_kept stays ids steps _ version code s c _ acts e event fresh goes
connects_kept stays ids steps version (statuses.Other used) s bytes c acts e event fresh (is, ends) = stands stays ids (with_step steps event acts) e phases.Ended (ap (λ (x : SessionState). x.phase) ends) tt

accepts_kept : (stays : Bool) (ids : List ℕ) (steps : List (Event × List Action)) (answer : Answer) (s : SessionState) (greeter : Greeter) (bytes : List ℕ) (c : Course) (acts : List Action) (e : SessionState) (event : Event) → IsFresh stays ids c → Accepts answer s greeter bytes c acts e → IsKeptIn stays ids (with_step steps event acts) e.phase
accepts_kept stays ids steps answers.More s greeter bytes c acts e event fresh (is, ends) = stands stays ids _ e (phases.Hello greeter bytes c) (ap (λ (x : SessionState). x.phase) ends) fresh
accepts_kept stays ids steps (answers.Accepted name version used) s greeter bytes c acts e event fresh goes = receives_kept stays ids steps (speaking version s) (course_fed c (drop used bytes)) (actions.Send (status_text 200) ∷ opening version c.shares) acts e event (fresh_after stays ids steps (actions.Send (status_text 200) ∷ opening version c.shares) c fresh) (λ id. plain_ready id (actions.Send (status_text 200)) version c.shares (plain_status id 200)) goes
accepts_kept stays ids steps (answers.Refused code used) s greeter bytes c acts e event fresh (is, ends) = stands stays ids (with_step steps event acts) e phases.Ended (ap (λ (x : SessionState). x.phase) ends) tt

greets_kept : (stays : Bool) (ids : List ℕ) (steps : List (Event × List Action)) (s : SessionState) (greeter : Greeter) (bytes : List ℕ) (c : Course) (acts : List Action) (e : SessionState) (event : Event) → IsFresh stays ids c → Greets s greeter bytes c acts e → IsKeptIn stays ids (with_step steps event acts) e.phase
greets_kept stays ids steps s (greeters.Connects version) bytes c acts e event fresh goes = connects_kept stays ids steps version (status_of bytes) s bytes c acts e event fresh goes
greets_kept stays ids steps s (greeters.Accepts own peers) bytes c acts e event fresh goes = accepts_kept stays ids steps (answer_of own peers bytes) s (greeters.Accepts own peers) bytes c acts e event fresh goes

hello_kept : (stays : Bool) (ids : List ℕ) (steps : List (Event × List Action)) (s : SessionState) (greeter : Greeter) (bytes : List ℕ) (c : Course) (event : Event) (acts : List Action) (e : SessionState) → IsFresh stays ids c → GoesHello s greeter bytes c event acts e → IsKeptIn stays ids (with_step steps event acts) e.phase
hello_kept stays ids steps s greeter bytes c (events.Bytes piece) acts e fresh goes = greets_kept stays ids steps s greeter (bytes ++ piece) c acts e (events.Bytes piece) fresh goes
hello_kept stays ids steps s greeter bytes c events.Turn acts e fresh (is, ends) = stands stays ids _ e (phases.Hello greeter bytes c) (ap (λ (x : SessionState). x.phase) ends) fresh
hello_kept stays ids steps s greeter bytes c events.Tick acts e fresh (is, ends) = stands stays ids _ e (phases.Hello greeter bytes c) (ap (λ (x : SessionState). x.phase) ends) fresh
hello_kept stays ids steps s greeter bytes c events.Ask acts e fresh (is, ends) = stands stays ids _ e (phases.Hello greeter bytes c) (ap (λ (x : SessionState). x.phase) ends) fresh
hello_kept stays ids steps s greeter bytes c events.CaughtUp acts e fresh (is, ends) = stands stays ids _ e (phases.Hello greeter bytes (caught_up c)) (ap (λ (x : SessionState). x.phase) ends) fresh
hello_kept stays ids steps s greeter bytes c events.End acts e fresh (is, ends) = stands stays ids (with_step steps events.End acts) e phases.Ended (ap (λ (x : SessionState). x.phase) ends) tt
hello_kept stays ids steps s greeter bytes c events.ReadFault acts e fresh (is, ends) = stands stays ids (with_step steps events.ReadFault acts) e phases.Ended (ap (λ (x : SessionState). x.phase) ends) tt
hello_kept stays ids steps s greeter bytes c events.WriteFault acts e fresh (is, ends) = stands stays ids (with_step steps events.WriteFault acts) e phases.Ended (ap (λ (x : SessionState). x.phase) ends) tt
hello_kept stays ids steps s greeter bytes c events.Opened acts e fresh goes = absurd goes
hello_kept stays ids steps s greeter bytes c (events.Copied table batch) acts e fresh goes = absurd goes
hello_kept stays ids steps s greeter bytes c (events.Nothing table) acts e fresh goes = absurd goes
hello_kept stays ids steps s greeter bytes c (events.Written known) acts e fresh goes = absurd goes
hello_kept stays ids steps s greeter bytes c (events.Settled table settled) acts e fresh goes = absurd goes
hello_kept stays ids steps s greeter bytes c (events.Refused table) acts e fresh goes = absurd goes

-- ---- a turn

asks_next : (b : Bool) (next : Option ℕ) (table : ℕ) → cond b None next ≡ Some table → next ≡ Some table
asks_next true next table is = absurd (false≢true (ap (λ (x : Option ℕ). is_some x) is))
asks_next false next table is = is

other_copy : (id table : ℕ) (kind : CopyKind) (quiet : ℕ → Bool) → quiet table ≡ false → quiet id ≡ true → copies id (actions.Copy table kind ∷ []) ≡ false
other_copy id table kind quiet not_quiet quiets =
    elim (cases_eq table id) [
      | inl same ↦ no_clash (quiet table) not_quiet (ap quiet same ∙ quiets)
      | inr other ↦ rw (ne_eqb table id other) refl
    ]

turns_kept : (stays : Bool) (ids : List ℕ) (steps : List (Event × List Action)) (asked : Option ℕ) (s : SessionState) (c : Course) (acts : List Action) (e : SessionState) → table_to_ask c ≡ asked → IsCalm stays ids steps c → Turns asked s c acts e → IsKeptIn stays ids (with_step steps events.Turn acts) e.phase
turns_kept stays ids steps None s c acts e asks calm (is, ends) =
    stands stays ids (with_step steps events.Turn acts) e (phases.Open c) (ap (λ (x : SessionState). x.phase) ends) (calm_sound stays ids (with_step steps events.Turn acts) c (calm_more stays ids steps c events.Turn acts (λ id. rw is (refl, refl)) calm))
turns_kept stays ids steps (Some table) s c acts e asks (out, quiet, flags, none) (is, ends) =
    let next : next_table c.teaching c.asked (shares_in ids out quiet) ≡ Some table =
    subst (λ (ss : List _). next_table c.teaching c.asked ss ≡ Some table) flags.0 (asks_next (c.waits && not c.stays) (next_table c.teaching c.asked c.shares) table asks) in
    let free : IsFree c.teaching out quiet table = next_free c.teaching c.asked out quiet ids table next in
    let more = flags_more stays ids steps c out quiet events.Turn acts (λ teaching id quiets. rw is (other_copy id table (kind_of c.stays c.teaching) quiet (free.1 teaching) quiets, refl)) flags in
    stands stays ids (with_step steps events.Turn acts) e (phases.Open (record c { asked = Some table; due = dues.Copy table ∷ [] })) (ap (λ (x : SessionState). x.phase) ends)
    (out, quiet, more, (refl, free, steps, ap (with_step steps events.Turn) is ∙ ap (λ (b : Bool). with_step steps events.Turn (actions.Copy table (kind_of b c.teaching) ∷ [])) flags.2))

-- ---- answers

-- no copy is due after the first answer
rest_none : (stays : Bool) (ids : List ℕ) (steps : List (Event × List Action)) (c : Course) (d : Due) (rest : List Due) (out quiet : ℕ → Bool) → c.due ≡ d ∷ rest → IsDueSound stays steps c.teaching out quiet c.due → no_copies rest ≡ true
rest_none stays ids steps c d rest out quiet due sound = due_rest stays steps c.teaching out quiet d rest (subst (IsDueSound stays steps c.teaching out quiet) due sound)

-- an event that asks for nothing and leaves the course calm
stays_kept : (stays : Bool) (ids : List ℕ) (steps : List (Event × List Action)) (s : SessionState) (c : Course) (acts : List Action) (e : SessionState) (event : Event) → IsCalm stays ids steps c → acts ≡ [] → e.phase ≡ phases.Open c → IsKeptIn stays ids (with_step steps event acts) e.phase
stays_kept stays ids steps s c acts e event calm is ends =
    stands stays ids (with_step steps event acts) e (phases.Open c) ends (calm_sound stays ids (with_step steps event acts) c (calm_more stays ids steps c event acts (λ id. rw is (refl, refl)) calm))

-- a table that may be copied differs from one that is quiet
set_other : (flag : Bool) (table id : ℕ) (out quiet : ℕ → Bool) → quiet table ≡ false → quiet id ≡ true → set_at table flag out id ≡ out id
set_other flag table id out quiet not_quiet quiets =
    elim (cases_eq id table) [
      | inl same ↦ no_clash (quiet table) not_quiet (ap quiet (sym same) ∙ quiets)
      | inr other ↦ rw (ne_eqb id table other) refl
    ]

copied_kept : (stays : Bool) (ids : List ℕ) (steps : List (Event × List Action)) (s : SessionState) (c : Course) (table : ℕ) (batch : List Update) (rest : List Due) (acts : List Action) (e : SessionState) (event : Event) → IsSound stays ids steps c → c.due ≡ dues.Copy table ∷ rest → IsCopied s (record c { due = rest }) table batch acts e → IsKeptIn stays ids (with_step steps event acts) e.phase
copied_kept stays ids steps s c table batch rest acts e event (out, quiet, flags, sound) due (is, ends) =
    let here : IsDueSound stays steps c.teaching out quiet (dues.Copy table ∷ rest) = subst (IsDueSound stays steps c.teaching out quiet) due sound in
    let more = flags_more stays ids steps c out quiet event acts (λ teaching id quiets. rw is (refl, refl)) flags in
    stands stays ids (with_step steps event acts) e (phases.Open (record c { shares = out_set table true c.shares; due = dues.Teach ∷ rest })) (ap (λ (x : SessionState). x.phase) ends) (
      set_at table true out,
      quiet,
      (
        ap (out_set table true) flags.0 ∙ out_set_in table true ids out quiet,
        (λ teaching id quiets. (set_other true table id out quiet (here.1.1 teaching) quiets ∙ (more.1 teaching id quiets).0, (more.1 teaching id quiets).1)),
        more.2,
      ),
      here.0,
    )

-- the copy just answered was the last one asked for
answered_left : (stays : Bool) (steps before : List (Event × List Action)) (table : ℕ) (teaching : Bool) (acts : List Action) → teaching ≡ true → steps ≡ before ++ ((events.Turn, actions.Copy table (kind_of stays teaching) ∷ []) ∷ []) → reopened table acts ≡ false → HasNothingLeft (kind_of stays true) (with_step steps (events.Nothing table) acts) table
answered_left stays steps before table teaching acts is_teaching last still =
    let resync : steps ≡ before ++ ((events.Turn, actions.Copy table (kind_of stays true) ∷ []) ∷ []) = last ∙ rw is_teaching refl in
    (before, acts, [], rw resync (simp append_assoc), still, tt)

-- what is known of the quiet tables after one more becomes quiet
quiet_left : (stays : Bool) (steps before : List (Event × List Action)) (table id : ℕ) (out quiet : ℕ → Bool) (teaching : Bool) (acts : List Action) → teaching ≡ true → IsFree teaching out quiet table → steps ≡ before ++ ((events.Turn, actions.Copy table (kind_of stays teaching) ∷ []) ∷ []) → IsLeft id acts → ((other : ℕ) → quiet other ≡ true → (out other ≡ false) × HasNothingLeft (kind_of stays true) steps other) → set_at table true quiet id ≡ true → (out id ≡ false) × HasNothingLeft (kind_of stays true) (with_step steps (events.Nothing table) acts) id
quiet_left stays steps before table id out quiet teaching acts is_teaching free last leaves left quiets =
    elim (cases_eq id table) [
      | inl same ↦ (ap out same ∙ free.0, subst (HasNothingLeft (kind_of stays true) (with_step steps (events.Nothing table) acts)) (sym same) (answered_left stays steps before table teaching acts is_teaching last (subst (λ (x : ℕ). reopened x acts ≡ false) same leaves.1)))
      | inr other ↦
          let was : quiet id ≡ true = sym (rw (ne_eqb id table other) refl) ∙ quiets in
          ((left id was).0, left_more (kind_of stays true) steps id (events.Nothing table) acts (left id was).1 leaves)
    ]

-- the tables of a course after one more becomes quiet
pub quieted : (stays : Bool) (ids : List ℕ) (steps : List (Event × List Action)) (c : Course) (table : ℕ) (rest : List Due) (acts : List Action) → IsSound stays ids steps c → c.due ≡ dues.Copy table ∷ rest → c.teaching ≡ true → ((id : ℕ) → IsLeft id acts) → (out : ℕ → Bool) × (quiet : ℕ → Bool) × AreFlags stays ids (with_step steps (events.Nothing table) acts) (record c { shares = quiet_set table c.shares }) out quiet × (no_copies rest ≡ true)
quieted stays ids steps c table rest acts (out, quiet, flags, sound) due teaching leaves =
    let here : IsDueSound stays steps c.teaching out quiet (dues.Copy table ∷ rest) = subst (IsDueSound stays steps c.teaching out quiet) due sound in (
      out,
      set_at table true quiet,
      (
        ap (quiet_set table) flags.0 ∙ quiet_set_in table ids out quiet,
        (λ is id quiets. quiet_left stays steps here.2 table id out quiet c.teaching acts is here.1 here.3 (leaves id) (flags.1 is) quiets),
        flags.2,
      ),
      here.0,
    )

finishes_kept : (stays : Bool) (ids : List ℕ) (steps : List (Event × List Action)) (b : Bool) (s : SessionState) (c : Course) (table : ℕ) (rest : List Due) (acts : List Action) (e : SessionState) → IsSound stays ids steps c → c.due ≡ dues.Copy table ∷ rest → c.teaching ≡ true → FinishesResync b s (record c { shares = quiet_set table c.shares; due = rest }) acts e → IsKeptIn stays ids (with_step steps (events.Nothing table) acts) e.phase
finishes_kept stays ids steps true s c table rest acts e sound due teaching (is, ends) =
    let q = quieted stays ids steps c table rest acts sound due teaching (λ id. rw is (refl, refl)) in
    stands stays ids (with_step steps (events.Nothing table) acts) e (phases.Open (record c { shares = quiet_set table c.shares; due = rest; teaching = false })) (ap (λ (x : SessionState). x.phase) ends)
    (q.0, q.1, (q.2.0, (λ bad. absurd (false≢true bad)), q.2.2), due_sound stays _ false q.0 q.1 rest q.3)
finishes_kept stays ids steps false s c table rest acts e sound due teaching (is, ends) =
    let q = quieted stays ids steps c table rest acts sound due teaching (λ id. rw is (refl, refl)) in
    stands stays ids (with_step steps (events.Nothing table) acts) e (phases.Open (record c { shares = quiet_set table c.shares; due = rest })) (ap (λ (x : SessionState). x.phase) ends)
    (q.0, q.1, q.2, due_sound stays _ c.teaching q.0 q.1 rest q.3)

-- an answer leaves the flags as they were
answered_calm : (stays : Bool) (ids : List ℕ) (steps : List (Event × List Action)) (c : Course) (d : Due) (rest : List Due) → IsSound stays ids steps c → c.due ≡ d ∷ rest → IsCalm stays ids steps (record c { due = rest })
answered_calm stays ids steps c d rest (out, quiet, flags, sound) due = (out, quiet, flags, rest_none stays ids steps c d rest out quiet due sound)

nothing_kept : (stays : Bool) (ids : List ℕ) (steps : List (Event × List Action)) (b : Bool) (s : SessionState) (c : Course) (table : ℕ) (rest : List Due) (acts : List Action) (e : SessionState) → IsSound stays ids steps c → c.due ≡ dues.Copy table ∷ rest → c.teaching ≡ b → HasNothing b s (record c { due = rest }) table acts e → IsKeptIn stays ids (with_step steps (events.Nothing table) acts) e.phase
nothing_kept stays ids steps true s c table rest acts e sound due teaching has = finishes_kept stays ids steps _ s c table rest acts e sound due teaching has
nothing_kept stays ids steps false s c table rest acts e sound due teaching (is, ends) =
    stays_kept stays ids steps s (record c { due = rest }) acts e (events.Nothing table) (answered_calm stays ids steps c (dues.Copy table) rest sound due) is (ap (λ (x : SessionState). x.phase) ends)

-- an id whose flag is false keeps it when a flag is set to false
set_false : (table id : ℕ) (out : ℕ → Bool) → out id ≡ false → set_at table false out id ≡ false
set_false table id out is =
    elim (cases_eq id table) [
      | inl same ↦ rw (eq-eqb id table same) refl
      | inr other ↦ rw (ne_eqb id table other) is
    ]

calm_in : (stays : Bool) (ids : List ℕ) (steps : List (Event × List Action)) (c : Course) (table : ℕ) → IsCalm stays ids steps c → IsCalm stays ids steps (record c { shares = out_set table false c.shares })
calm_in stays ids steps c table (out, quiet, flags, none) = (
  set_at table false out,
  quiet,
  (
    ap (out_set table false) flags.0 ∙ out_set_in table false ids out quiet,
    (λ teaching id quiets. (set_false table id out (flags.1 teaching id quiets).0, (flags.1 teaching id quiets).1)),
    flags.2,
  ),
  none,
)

starts_kept : (stays : Bool) (ids : List ℕ) (steps : List (Event × List Action)) (b : Bool) (s : SessionState) (c : Course) (acts : List Action) (e : SessionState) (event : Event) → IsCalm stays ids steps c → StartsPendingResync b s c acts e → IsKeptIn stays ids (with_step steps event acts) e.phase
starts_kept stays ids steps true s c acts e event (out, quiet, flags, none) (is, ends) =
    stands stays ids (with_step steps event acts) e (phases.Open (teaching_anew c)) (ap (λ (x : SessionState). x.phase) ends)
    (out, never, anew_flags stays ids steps (with_step steps event acts) c out quiet flags, due_sound stays _ true out never c.due none)
starts_kept stays ids steps false s c acts e event calm (is, ends) = stays_kept stays ids steps s c acts e event calm is (ap (λ (x : SessionState). x.phase) ends)

settles_kept : (stays : Bool) (ids : List ℕ) (steps : List (Event × List Action)) (settled : Settled) (s : SessionState) (c : Course) (table : ℕ) (acts : List Action) (e : SessionState) (event : Event) → IsCalm stays ids steps c → Settles settled s c table acts e → IsKeptIn stays ids (with_step steps event acts) e.phase
settles_kept stays ids steps settles.All s c table acts e event calm starts = starts_kept stays ids steps _ s (record c { shares = out_set table false c.shares }) acts e event (calm_in stays ids steps c table calm) starts
settles_kept stays ids steps settles.Some s c table acts e event calm (is, ends) = stays_kept stays ids steps s c acts e event calm is (ap (λ (x : SessionState). x.phase) ends)
settles_kept stays ids steps settles.Older s c table acts e event calm (is, ends) = stays_kept stays ids steps s c acts e event calm is (ap (λ (x : SessionState). x.phase) ends)

-- ---- Open

open_kept : (stays : Bool) (ids : List ℕ) (steps : List (Event × List Action)) (s : SessionState) (c : Course) (event : Event) (acts : List Action) (e : SessionState) → IsSound stays ids steps c → GoesOpen s c event acts e → IsKeptIn stays ids (with_step steps event acts) e.phase
open_kept stays ids steps s c events.Turn acts e (out, quiet, flags, sound) (none, turns) =
    turns_kept stays ids steps (table_to_ask c) s c acts e refl (out, quiet, flags, rw none refl) turns
open_kept stays ids steps s c events.Tick acts e (out, quiet, flags, sound) (none, (is, ends)) =
    stays_kept stays ids steps s c acts e events.Tick (out, quiet, flags, rw none refl) is (ap (λ (x : SessionState). x.phase) ends)
open_kept stays ids steps s c events.CaughtUp acts e (out, quiet, flags, sound) (none, (is, ends)) =
    stays_kept stays ids steps s (caught_up c) acts e events.CaughtUp (out, quiet, flags, rw none refl) is (ap (λ (x : SessionState). x.phase) ends)
open_kept stays ids steps s c events.Ask acts e (out, quiet, flags, sound) (none, (is, ends)) =
    stands stays ids (with_step steps events.Ask acts) e (phases.Open c) (ap (λ (x : SessionState). x.phase) ends)
    (calm_sound stays ids (with_step steps events.Ask acts) c (calm_more stays ids steps c events.Ask acts (λ id. rw is (refl, refl)) (out, quiet, flags, rw none refl)))
open_kept stays ids steps s c (events.Bytes bytes) acts e (out, quiet, flags, sound) (none, receives) =
    receives_kept stays ids steps s (course_fed c bytes) [] acts e (events.Bytes bytes) (out, quiet, flags, rw none refl, λ _ id _. refl) (λ id. (refl, refl)) receives
open_kept stays ids steps s c (events.Copied table batch) acts e sound (mid, answered, copied) =
    copied_kept stays ids steps s c table batch mid.due acts e (events.Copied table batch) sound answered.0 (subst (λ (m : Course). IsCopied s m table batch acts e) answered.1 copied)
open_kept stays ids steps s c (events.Nothing table) acts e sound (mid, answered, nothing) =
    nothing_kept stays ids steps c.teaching s c table mid.due acts e sound answered.0 refl (subst (λ (m : Course). HasNothing m.teaching s m table acts e) answered.1 nothing)
open_kept stays ids steps s c (events.Written known) acts e sound (mid, answered, is, ends) =
    stays_kept stays ids steps s (record c { due = mid.due }) acts e (events.Written known) (answered_calm stays ids steps c dues.Teach mid.due sound answered.0) is (ap (λ (x : SessionState). x.phase) ends ∙ ap phases.Open answered.1)
open_kept stays ids steps s c (events.Settled table settled) acts e sound (mid, answered, settles) =
    settles_kept stays ids steps settled s (record c { due = mid.due }) table acts e (events.Settled table settled) (answered_calm stays ids steps c (dues.Ack table) mid.due sound answered.0) (subst (λ (m : Course). Settles settled s m table acts e) answered.1 settles)
open_kept stays ids steps s c (events.Refused table) acts e sound (mid, answered, is, ends) = stands stays ids (with_step steps (events.Refused table) acts) e phases.Ended (ap (λ (x : SessionState). x.phase) ends) tt
open_kept stays ids steps s c events.End acts e sound (is, ends) = stands stays ids (with_step steps events.End acts) e phases.Ended (ap (λ (x : SessionState). x.phase) ends) tt
open_kept stays ids steps s c events.ReadFault acts e sound (is, ends) = stands stays ids (with_step steps events.ReadFault acts) e phases.Ended (ap (λ (x : SessionState). x.phase) ends) tt
open_kept stays ids steps s c events.WriteFault acts e sound (is, ends) = stands stays ids (with_step steps events.WriteFault acts) e phases.Ended (ap (λ (x : SessionState). x.phase) ends) tt
open_kept stays ids steps s c events.Opened acts e sound goes = absurd goes

-- ---- any phase

pub goes_kept : (stays : Bool) (ids : List ℕ) (steps : List (Event × List Action)) (phase : Phase) (s : SessionState) (event : Event) (acts : List Action) (e : SessionState) → IsKeptIn stays ids steps phase → GoesIn phase s event acts e → IsKeptIn stays ids (with_step steps event acts) e.phase
goes_kept stays ids steps (phases.New hello c) s event acts e kept goes = new_kept stays ids steps s hello c event acts e kept goes
goes_kept stays ids steps (phases.Hello greeter bytes c) s event acts e kept goes = hello_kept stays ids steps s greeter bytes c event acts e kept goes
goes_kept stays ids steps (phases.Open c) s event acts e kept goes = open_kept stays ids steps s c event acts e kept goes
goes_kept stays ids steps phases.Ended s event acts e kept goes = absurd goes
