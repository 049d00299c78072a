-- Every event that may happen has a step.
use Rattle.std.proofs.Common.{◌≡◌, ℕ, Bool, true, false, List, [], ◌∷◌, ◌++◌, Option, Some, None, refl, ap, ◌∙◌}
use Rattle.std.specs.Prelude.{◌==◌, drop}
use Rattle.std.proofs.lemmas.Bool.{eqb-true, false≢true}
use Rattle.table_types.specs.declared.copies.Settled.{Settled}
use Rattle.table_types.specs.declared.copies.Settled.TheVariants as settles
use Rattle.table_types.specs.declared.version.Version.{Version}
use Rattle.peers_msg.specs.Integers.{IsBytes}
use Rattle.peers_msg.specs.declared.control.Control.TheVariants as controls
use Rattle.peers_msg.specs.declared.control.ErrorKind.TheVariants as kinds
use Rattle.peers_hello.specs.declared.hello.Hello.{Hello}
use Rattle.peers_hello.specs.declared.hello.Answer.{Answer}
use Rattle.peers_hello.specs.declared.hello.Answer.TheVariants as answers
use Rattle.peers_hello.specs.declared.status.Status.{Status}
use Rattle.peers_hello.specs.declared.status.Status.TheVariants as statuses
use Rattle.peers_hello.specs.Hellos.{answer_of, hello_text}
use Rattle.peers_hello.specs.Statuses.{status_of}
use Rattle.session_core.specs.declared.action.Action.{Action}
use Rattle.session_core.specs.declared.action.Action.TheVariants as actions
use Rattle.session_core.specs.declared.due.Due.{Due}
use Rattle.session_core.specs.declared.due.Due.TheVariants as dues
use Rattle.session_core.specs.declared.event.Event.{Event}
use Rattle.session_core.specs.declared.event.Event.TheVariants as events
use Rattle.session_core.specs.declared.phase.Greeter.{Greeter}
use Rattle.session_core.specs.declared.phase.Greeter.TheVariants as greeters
use Rattle.session_core.specs.Phases.{Phase}
use Rattle.session_core.specs.Phases as phases
use Rattle.session_core.specs.Actions.{reopens, sends_control, status_text}
use Rattle.session_core.specs.Courses.{Course, Answered, course_fed, finished, is_due, is_same_due, kind_of, none_due, table_to_ask, teaching_anew, caught_up}
use Rattle.session_core.specs.Shares.{out_set}
use Rattle.session_core.specs.Runs.{BringsBytes, HoldsBytes}
use Rattle.session_core.specs.Sessions.{SessionState, Accepts, Connects, FinishesResync, Goes, GoesHello, GoesIn, GoesNew, GoesOpen, Greets, HasNothing, IsWelcomed, Settles, StartsPendingResync, Turns, ended, going, in_phase, is_asked, is_asked_hello, is_asked_new, is_asked_open, first_word, falling_back, falls_back, opening, speaking}
use Rattle.session_core.proofs.ReceivingGoesOn.{received_some}
use Rattle.session_core.proofs.BytesStay.{append_good, fed_good}

-- ---- New

some_new : (s : SessionState) (hello : Hello) (c : Course) (event : Event) → is_asked_new event ≡ true → (acts : List Action) × (e : SessionState) × GoesNew s hello c event acts e
some_new s hello c events.Opened is = (actions.Send (hello_text hello) ∷ [], in_phase s (phases.Hello (greeters.Connects hello.version) [] c), (refl, refl))
some_new s hello c events.Turn is = ([], in_phase s (phases.New hello c), (refl, refl))
some_new s hello c events.Tick is = ([], in_phase s (phases.New hello c), (refl, refl))
some_new s hello c events.Ask is = ([], in_phase s (phases.New hello c), (refl, refl))
some_new s hello c events.CaughtUp is = ([], in_phase s (phases.New hello (caught_up c)), (refl, refl))
some_new s hello c events.End is = (actions.Close ∷ [], ended s, (refl, refl))
some_new s hello c events.ReadFault is = (actions.Close ∷ [], ended s, (refl, refl))
some_new s hello c events.WriteFault is = (actions.Close ∷ [], ended s, (refl, refl))
some_new s hello c (events.Bytes bytes) is = absurd (false≢true is)
some_new s hello c (events.Copied table batch) is = absurd (false≢true is)
some_new s hello c (events.Nothing table) is = absurd (false≢true is)
some_new s hello c (events.Written known) is = absurd (false≢true is)
some_new s hello c (events.Settled table settled) is = absurd (false≢true is)
some_new s hello c (events.Refused table) is = absurd (false≢true is)

-- ---- Hello

some_welcome : (welcome : Bool) (version : Version) (code : ℕ) (s : SessionState) (c : Course) (rest : List ℕ) → IsBytes (course_fed c rest).intake.unread → (acts : List Action) × (e : SessionState) × IsWelcomed welcome version code s c rest acts e
some_welcome true version code s c rest good = received_some (speaking version s) (course_fed c rest) (sends_control (first_word c.stays) ∷ opening version c.shares) good
some_welcome false version code s c rest good = (actions.Close ∷ [], ended (falling_back (falls_back version code) s), (refl, refl))

some_connect : (version : Version) (status : Status) (s : SessionState) (bytes : List ℕ) (c : Course) → IsBytes bytes → IsBytes c.intake.unread → (acts : List Action) × (e : SessionState) × Connects version status s bytes c acts e
some_connect version statuses.More s bytes c good unread = ([], in_phase s (phases.Hello (greeters.Connects version) bytes c), (refl, refl))
some_connect version (statuses.Code code used) s bytes c good unread = some_welcome (code == 200) version code s c (drop used bytes) (fed_good c used bytes unread good)
some_connect version (statuses.Other used) s bytes c good unread = (actions.Close ∷ [], ended s, (refl, refl))

some_accept : (answer : Answer) (s : SessionState) (greeter : Greeter) (bytes : List ℕ) (c : Course) → IsBytes bytes → IsBytes c.intake.unread → (acts : List Action) × (e : SessionState) × Accepts answer s greeter bytes c acts e
some_accept answers.More s greeter bytes c good unread = ([], in_phase s (phases.Hello greeter bytes c), (refl, refl))
some_accept (answers.Accepted name version used) s greeter bytes c good unread = received_some (speaking version s) (course_fed c (drop used bytes)) (actions.Send (status_text 200) ∷ opening version c.shares) (fed_good c used bytes unread good)
some_accept (answers.Refused code used) s greeter bytes c good unread = (actions.Send (status_text code) ∷ (actions.Close ∷ []), ended s, (refl, refl))

some_greeting : (greeter : Greeter) (s : SessionState) (bytes : List ℕ) (c : Course) → IsBytes bytes → IsBytes c.intake.unread → (acts : List Action) × (e : SessionState) × Greets s greeter bytes c acts e
some_greeting (greeters.Connects version) s bytes c good unread = some_connect version (status_of bytes) s bytes c good unread
some_greeting (greeters.Accepts own peers) s bytes c good unread = some_accept (answer_of own peers bytes) s (greeters.Accepts own peers) bytes c good unread

some_hello : (s : SessionState) (greeter : Greeter) (bytes : List ℕ) (c : Course) (event : Event) → IsBytes bytes × IsBytes c.intake.unread → BringsBytes event → is_asked_hello event ≡ true
    → (acts : List Action) × (e : SessionState) × GoesHello s greeter bytes c event acts e
some_hello s greeter bytes c (events.Bytes piece) holds brings is = some_greeting greeter s (bytes ++ piece) c (append_good bytes piece holds.0 brings) holds.1
some_hello s greeter bytes c events.Turn holds brings is = ([], in_phase s (phases.Hello greeter bytes c), (refl, refl))
some_hello s greeter bytes c events.Tick holds brings is = ([], in_phase s (phases.Hello greeter bytes c), (refl, refl))
some_hello s greeter bytes c events.Ask holds brings is = ([], in_phase s (phases.Hello greeter bytes c), (refl, refl))
some_hello s greeter bytes c events.CaughtUp holds brings is = ([], in_phase s (phases.Hello greeter bytes (caught_up c)), (refl, refl))
some_hello s greeter bytes c events.End holds brings is = (actions.Close ∷ [], ended s, (refl, refl))
some_hello s greeter bytes c events.ReadFault holds brings is = (actions.Close ∷ [], ended s, (refl, refl))
some_hello s greeter bytes c events.WriteFault holds brings is = (actions.Close ∷ [], ended s, (refl, refl))
some_hello s greeter bytes c events.Opened holds brings is = absurd (false≢true is)
some_hello s greeter bytes c (events.Copied table batch) holds brings is = absurd (false≢true is)
some_hello s greeter bytes c (events.Nothing table) holds brings is = absurd (false≢true is)
some_hello s greeter bytes c (events.Written known) holds brings is = absurd (false≢true is)
some_hello s greeter bytes c (events.Settled table settled) holds brings is = absurd (false≢true is)
some_hello s greeter bytes c (events.Refused table) holds brings is = absurd (false≢true is)

-- ---- what is due

one_due : (a b : Due) → is_same_due a b ≡ true → a ≡ b
one_due (dues.Copy a) (dues.Copy b) is = ap (λ (n : ℕ). dues.Copy n) (eqb-true a b is)
one_due dues.Teach dues.Teach is = refl
one_due (dues.Ack a) (dues.Ack b) is = ap (λ (n : ℕ). dues.Ack n) (eqb-true a b is)
one_due (dues.Copy a) dues.Teach is = absurd (false≢true is)
one_due (dues.Copy a) (dues.Ack b) is = absurd (false≢true is)
one_due dues.Teach (dues.Copy b) is = absurd (false≢true is)
one_due dues.Teach (dues.Ack b) is = absurd (false≢true is)
one_due (dues.Ack a) (dues.Copy b) is = absurd (false≢true is)
one_due (dues.Ack a) dues.Teach is = absurd (false≢true is)

-- the first answer due can be given
answered_by : (c : Course) (d : Due) (due : List Due) → c.due ≡ due → is_due d due ≡ true → (mid : Course) × Answered c d mid
answered_by c d [] at is = absurd (false≢true is)
answered_by c d (first ∷ rest) at is = (record c { due = rest }, (at ∙ ap (λ (x : Due). x ∷ rest) (one_due first d is), refl))

answered : (c : Course) (d : Due) → is_due d c.due ≡ true → (mid : Course) × Answered c d mid
answered c d is = answered_by c d c.due refl is

nothing_due : (due : List Due) → none_due due ≡ true → due ≡ []
nothing_due [] is = refl
nothing_due (d ∷ ds) is = absurd (false≢true is)

-- ---- Open

some_turn : (table : Option ℕ) (s : SessionState) (c : Course) → (acts : List Action) × (e : SessionState) × Turns table s c acts e
some_turn None s c = ([], in_phase s (phases.Open c), (refl, refl))
some_turn (Some table) s c = (actions.Copy table (kind_of c.stays c.teaching) ∷ [], going s (record c { asked = Some table; due = dues.Copy table ∷ [] }), (refl, refl))

some_finish : (quiet : Bool) (s : SessionState) (c : Course) → (acts : List Action) × (e : SessionState) × FinishesResync quiet s c acts e
some_finish true s c = (sends_control (finished c.up_to_date) ∷ [], going s (record c { teaching = false }), (refl, refl))
some_finish false s c = ([], in_phase s (phases.Open c), (refl, refl))

some_nothing : (teaching : Bool) (s : SessionState) (c : Course) (table : ℕ) → (acts : List Action) × (e : SessionState) × HasNothing teaching s c table acts e
some_nothing true s c table = some_finish _ s _
some_nothing false s c table = ([], in_phase s (phases.Open c), (refl, refl))

some_start : (starts : Bool) (s : SessionState) (c : Course) → (acts : List Action) × (e : SessionState) × StartsPendingResync starts s c acts e
some_start true s c = (reopens c.shares, going s (teaching_anew c), (refl, refl))
some_start false s c = ([], in_phase s (phases.Open c), (refl, refl))

some_settled : (settled : Settled) (s : SessionState) (c : Course) (table : ℕ) → (acts : List Action) × (e : SessionState) × Settles settled s c table acts e
some_settled settles.All s c table = some_start _ s _
some_settled settles.Some s c table = ([], in_phase s (phases.Open c), (refl, refl))
some_settled settles.Older s c table = ([], in_phase s (phases.Open c), (refl, refl))

some_open : (s : SessionState) (c : Course) (event : Event) → IsBytes c.intake.unread → BringsBytes event → is_asked_open c.due event ≡ true → (acts : List Action) × (e : SessionState) × GoesOpen s c event acts e
some_open s c events.Turn unread brings is =
    let turns = some_turn (table_to_ask c) s c in
    (turns.0, turns.1, (nothing_due c.due is, turns.2))
some_open s c events.Tick unread brings is = ([], going s c, (nothing_due c.due is, (refl, refl)))
some_open s c events.Ask unread brings is = (sends_control controls.ResyncRequest ∷ [], going s c, (nothing_due c.due is, (refl, refl)))
some_open s c events.CaughtUp unread brings is = ([], going s (caught_up c), (nothing_due c.due is, (refl, refl)))
some_open s c (events.Bytes bytes) unread brings is =
    let receives = received_some s (course_fed c bytes) [] (append_good c.intake.unread bytes unread brings) in
    (receives.0, receives.1, (nothing_due c.due is, receives.2))
some_open s c (events.Copied table batch) unread brings is =
    let now = answered c (dues.Copy table) is in (
      actions.Teach batch ∷ [],
      going s (record now.0 { shares = out_set table true now.0.shares; due = dues.Teach ∷ now.0.due }),
      (now.0, now.1, (refl, refl)),
    )
some_open s c (events.Nothing table) unread brings is =
    let now = answered c (dues.Copy table) is in
    let nothing = some_nothing now.0.teaching s now.0 table in
    (nothing.0, nothing.1, (now.0, now.1, nothing.2))
some_open s c (events.Written known) unread brings is =
    let now = answered c dues.Teach is in
    ([], record s { phase = phases.Open now.0; known = known }, (now.0, now.1, refl, refl))
some_open s c (events.Settled table settled) unread brings is =
    let now = answered c (dues.Ack table) is in
    let settles = some_settled settled s now.0 table in
    (settles.0, settles.1, (now.0, now.1, settles.2))
some_open s c (events.Refused table) unread brings is =
    let now = answered c (dues.Ack table) is in
    (actions.Part kinds.Protocol ∷ [], ended s, (now.0, now.1, refl, refl))
some_open s c events.End unread brings is = (actions.Close ∷ [], ended s, (refl, refl))
some_open s c events.ReadFault unread brings is = (actions.Close ∷ [], ended s, (refl, refl))
some_open s c events.WriteFault unread brings is = (actions.Close ∷ [], ended s, (refl, refl))
some_open s c events.Opened unread brings is = absurd (false≢true is)

-- ---- any phase

some_in : (phase : Phase) (s : SessionState) (event : Event) → HoldsBytes phase → BringsBytes event → is_asked phase event ≡ true → (acts : List Action) × (e : SessionState) × GoesIn phase s event acts e
some_in (phases.New hello c) s event holds brings is = some_new s hello c event is
some_in (phases.Hello greeter bytes c) s event holds brings is = some_hello s greeter bytes c event holds brings is
some_in (phases.Open c) s event holds brings is = some_open s c event holds brings is
some_in phases.Ended s event holds brings is = absurd (false≢true is)

pub some_step : (s : SessionState) (event : Event) → HoldsBytes s.phase → BringsBytes event → is_asked s.phase event ≡ true → (acts : List Action) × (e : SessionState) × Goes s event acts e
some_step s event holds brings is = some_in s.phase s event holds brings is

-- a tick needs no bytes
ticks_in : (phase : Phase) (s : SessionState) → is_asked phase events.Tick ≡ true → (e : SessionState) × GoesIn phase s events.Tick [] e
ticks_in (phases.New hello c) s is = (in_phase s (phases.New hello c), (refl, refl))
ticks_in (phases.Hello greeter bytes c) s is = (in_phase s (phases.Hello greeter bytes c), (refl, refl))
ticks_in (phases.Open c) s is = (going s c, (nothing_due c.due is, (refl, refl)))
ticks_in phases.Ended s is = absurd (false≢true is)

pub ticks_anyway : (s : SessionState) → is_asked s.phase events.Tick ≡ true → (e : SessionState) × Goes s events.Tick [] e
ticks_anyway s is = ticks_in s.phase s is
