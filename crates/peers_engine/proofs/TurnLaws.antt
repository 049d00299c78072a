-- From one action to a whole turn.
use Rattle.std.proofs.Common.{◌≡◌, ◌⊎◌, ℕ, Bool, List, [], ◌∷◌, ◌++◌, Option, Some, None, Result, Ok, Err, refl, sym, ap, ◌∙◌, subst, inl, inr}
use Rattle.std.specs.Prelude.{◌≢◌, true, false}
use Rattle.std.specs.List.{list_all}
use Rattle.std.specs.Io.KnownBytes.{Consumes}
use Rattle.peers_devices.specs.Writing.{AreWritten, Written}
use Rattle.std.proofs.KnownBytes.{Consumes-nil}
use Rattle.peers_devices.proofs.WritingLaws.{writes_then}
use Rattle.table_shards.specs.Receipts.{SeatState}
use Rattle.table_shards.specs.Rounds.{ShardsState}
use Rattle.session_core.specs.declared.action.Action.{Action}
use Rattle.session_core.specs.declared.error.SessionError.{SessionError}
use Rattle.session_core.specs.declared.error.SessionError.TheVariants as refusals
use Rattle.session_core.specs.declared.event.Event.{Event}
use Rattle.session_core.specs.declared.state.State.TheVariants as states
use Rattle.session_core.specs.Phases.{Phase}
use Rattle.session_core.specs.Phases as phases
use Rattle.session_core.specs.Courses.{state_of_course}
use Rattle.session_core.specs.Sessions.{SessionState, Refuses, state_of}
use Rattle.session_core.specs.Keeping.{KeptSession, Steps, is_staying}
use Rattle.session_core.specs.Hearing.{asked_in}
use Rattle.peers_engine.specs.declared.errors.EngineError.{EngineError}
use Rattle.peers_engine.specs.declared.errors.EngineError.TheVariants as errors
use Rattle.peers_engine.specs.Doing.{Done, Fails}
use Rattle.peers_engine.specs.Acting.{Acts, DoesNotGoOn, IsOver, Stops, Worker, stands}
use Rattle.peers_engine.specs.Reading.{IsRead}
use Rattle.peers_engine.specs.Turns.{Breaks, BreaksAt, Halts, HaltsAt, Moves, Receives, Idles, Reacts, StopsTurn, TakesTurn, Turns, Works, WorksInTurn, first_event, is_push}
use Rattle.peers_engine.proofs.CalmLaws.{ends_after_four}
use Rattle.peers_engine.proofs.HaltLaws.{Went, act_stops, breaks_at, breaks_of, give_stops, halt_ended, halted, idle_done, none_done, react_done, react_stops, react_stops_first, react_works, turns_of, walk_of, went_first, went_on}

-- ---- the actions so far, and one more

-- the actions so far are performed, their answers are received, what those ask for is kept, and the bytes are written
abbrev pub AreDone : Worker → List Action → List Action → Worker → Written → Written → Type 0
AreDone s acts given e old new =
    (answers : List (Event × List Action)) × (out : List ℕ) × Acts s acts answers out e × (given ≡ asked_in answers) × AreWritten old new out

-- the same, up to an error
abbrev pub AreStopped : ShardsState → Worker → List Action → EngineError → KeptSession → SeatState → Written → Written → Type 0
AreStopped shards s acts error e seat old new =
    (answers : List (Event × List Action)) × (out : List ℕ) × Stops shards s acts error answers out e seat × AreWritten old new out

-- one action is performed
abbrev pub OneDone : Bool → ℕ → ℕ → SessionState → SeatState → SeatState → Action → Written → Written → Option Event → Type 0
OneDone stays n now x s t act old new answer = (out : List ℕ) × Done stays n now x s act out answer t × AreWritten old new out

-- one action fails
abbrev pub OneFails : ShardsState → Bool → ℕ → ℕ → SessionState → SeatState → SeatState → Action → Written → Written → EngineError → Type 0
OneFails shards stays n now x s t act old new error = (out : List ℕ) × Fails shards stays n now x s act error out t × AreWritten old new out

-- the same of a worker
abbrev pub OneDoneBy : Worker → SeatState → Action → Written → Written → Option Event → Type 0
OneDoneBy w t act old new answer = OneDone (is_staying w.session.manner) w.number w.now w.session.session w.seat t act old new answer

abbrev pub OneFailsBy : ShardsState → Worker → SeatState → Action → Written → Written → EngineError → Type 0
OneFailsBy shards w t act old new error = OneFails shards (is_staying w.session.manner) w.number w.now w.session.session w.seat t act old new error

-- a session that isn't over doesn't go on after an answer
abbrev pub IsNotGiven : KeptSession → ℕ → Option Event → KeptSession → EngineError → Type 0
IsNotGiven s now answer e error = (event : Event) × (answer ≡ Some event) × (state_of s.session.phase ≢ states.Ended) × DoesNotGoOn s now event error e

-- the next action fails
pub next_fails : (shards : ShardsState) (s mid : Worker) (seat : SeatState) (all before rest given : List Action) (act : Action) (error : EngineError) (a b d : Written)
    → all ≡ before ++ (act ∷ rest) → AreDone s before given mid a b → OneFailsBy shards mid seat act b d error → AreStopped shards s all error mid.session seat a d
next_fails shards s mid seat all before rest given act error a b d is (answers, out, acted, kept, appended) (last, fails, more) = (
  answers,
  out ++ last,
  act_stops shards s mid seat all before rest act error answers out last is acted fails,
  writes_then a b d out last appended more,
)

-- the session doesn't go on after the answer of the next action
pub give_fails : (shards : ShardsState) (s mid : Worker) (e : KeptSession) (seat : SeatState) (all before rest given : List Action) (act : Action) (answer : Option Event) (error : EngineError) (a b d : Written)
    → all ≡ before ++ (act ∷ rest) → AreDone s before given mid a b → OneDoneBy mid seat act b d answer → IsNotGiven mid.session mid.now answer e error
    → AreStopped shards s all error e seat a d
give_fails shards s mid e seat all before rest given act answer error a b d is (answers, out, acted, kept, appended) (bytes, done, more) (event, some, going, stuck) =
    let stops = give_stops shards s mid e seat all before rest act answer event error answers out bytes is acted done some going stuck in
    (stops.0, out ++ bytes, stops.1, writes_then a b d out bytes appended more)

-- ---- one event

abbrev pub HasReacted : Worker → Event → Worker → Written → Written → Type 0
HasReacted s event e old new = (out : List ℕ) × Reacts s event out e × AreWritten old new out

abbrev pub HasHalted : ShardsState → Worker → Event → KeptSession → SeatState → Written → Written → EngineError → Type 0
HasHalted shards s event e seat old new error = (out : List ℕ) × Halts shards s event error out e seat × AreWritten old new out

-- the session moved by the event and its answers
pub taken_moves : (s e : Worker) (event : Event) (a b : Written) → HasReacted s event e a b → Moves s.now event s.session e.session
taken_moves s e event a b (out, reacts, appended) = walk_of s e event out reacts

-- after an error it is ended
pub taken_breaks : (shards : ShardsState) (s : Worker) (e new : KeptSession) (seat : SeatState) (event : Event) (error : EngineError) (a b : Written) → HasHalted shards s event e seat a b error → IsOver e new → BreaksAt s.now event s.session new
taken_breaks shards s e new seat event error a b (out, halts, appended) is = breaks_at shards s e new seat event error out halts is

pub taken_stopped : (shards : ShardsState) (s : Worker) (e new : KeptSession) (seat : SeatState) (event : Event) (error : EngineError) (a b : Written) → HasHalted shards s event e seat a b error → IsOver e new → HasHalted shards s event new seat a b error
taken_stopped shards s e new seat event error a b (out, halts, appended) is = (out, halt_ended shards s e new seat event error out halts is, appended)

-- so far, with the bytes that were written
abbrev pub HasWent : Worker → List Action → List Action → List Action → Worker → Written → Written → Type 0
HasWent s acts done given e old new = (out : List ℕ) × Went s acts done given e out × AreWritten old new out

pub first_went : (s e : Worker) (acts given : List Action) (a b : Written) → AreDone s acts given e a b → HasWent s acts [] given e a b
first_went s e acts given a b (answers, out, acted, kept, appended) = (out, went_first s e acts given answers out acted kept, appended)

pub next_went : (s mid e : Worker) (acts done given more : List Action) (a b d : Written) → HasWent s acts done given mid a b → AreDone mid given more e b d → HasWent s acts (done ++ given) more e a d
next_went s mid e acts done given more a b d (out, went, appended) (answers, rest, acted, kept, then) =
    (out ++ rest, went_on s mid e acts done given more answers out rest went acted kept, writes_then a b d out rest appended then)

-- an error among what the event asked for
pub first_fails : (shards : ShardsState) (s : Worker) (mid e : KeptSession) (seat : SeatState) (event : Event) (acts : List Action) (error : EngineError) (a b : Written)
    → Steps s.session s.now event acts mid → AreStopped shards (stands s mid s.seat) acts error e seat a b → HasHalted shards s event e seat a b error
first_fails shards s mid e seat event acts error a b taken (answers, out, stops, appended) = (out, react_stops_first shards s mid e seat event acts error answers out taken stops, appended)

-- an error among what the answers asked for
pub later_fails : (shards : ShardsState) (s next : Worker) (mid e : KeptSession) (seat : SeatState) (event : Event) (acts done given : List Action) (error : EngineError) (a b d : Written)
    → Steps s.session s.now event acts mid → HasWent (stands s mid s.seat) acts done given next a b → AreStopped shards next given error e seat b d → HasHalted shards s event e seat a d error
later_fails shards s next mid e seat event acts done given error a b d taken (out, went, appended) (more, rest, stops, then) =
    (out ++ rest, react_stops shards s next mid e seat event acts done given error more out rest taken went stops, writes_then a b d out rest appended then)

four_end : (begun one two three e : Worker) (acts first second third last : List Action) (a b d f h : Written)
    → AreDone begun acts first one a b → AreDone one first second two b d → AreDone two second third three d f → AreDone three third last e f h → last ≡ []
four_end begun one two three e acts first second third last a b d f h (p, w, acted, is, also) (q, x, acted_two, is_two, also_two) (r, y, acted_three, is_three, also_three) (t, z, acted_four, is_four, also_four) =
    is_four ∙ ends_after_four begun one two three e acts p q r t w x y z acted
    (subst (λ (g : List Action). Acts one g q x two) is acted_two)
    (subst (λ (g : List Action). Acts two g r y three) is_two acted_three)
    (subst (λ (g : List Action). Acts three g t z e) is_three acted_four)

-- the four lists of actions are performed, and nothing more is asked for
pub four_done : (s one two three e : Worker) (mid : KeptSession) (event : Event) (acts first second third last : List Action) (a b d f h : Written)
    → Steps s.session s.now event acts mid → AreDone (stands s mid s.seat) acts first one a b → AreDone one first second two b d → AreDone two second third three d f → AreDone three third last e f h
    → HasReacted s event e a h
four_done s one two three e mid event acts first second third last a b d f h taken done_one done_two done_three done_four =
    let begun = stands s mid s.seat in
    let went = next_went begun three e acts (([] ++ first) ++ second) third last a f h
    (next_went begun two three acts ([] ++ first) second third a d f (next_went begun one two acts [] first second a b d (first_went begun one acts first a b done_one) done_two) done_three) done_four in
    (went.0, react_done s e mid event acts ((([] ++ first) ++ second) ++ third) last went.0 taken went.1 (four_end begun one two three e acts first second third last a b d f h done_one done_two done_three done_four), went.2)

-- the same, and there was something to do
abbrev pub HasWorked : Worker → Event → Worker → Written → Written → Type 0
HasWorked s event e old new = (out : List ℕ) × Works s event out e × AreWritten old new out

some_of : (xs ys zs : List Action) → xs ≢ [] → (xs ++ ys) ++ zs ≢ []
some_of [] ys zs some = absurd (some refl)
some_of (x ∷ xs) ys zs some = λ is. cc is

pub four_works : (s one two three e : Worker) (mid : KeptSession) (event : Event) (acts first second third last : List Action) (a b d f h : Written)
    → Steps s.session s.now event acts mid → AreDone (stands s mid s.seat) acts first one a b → AreDone one first second two b d → AreDone two second third three d f → AreDone three third last e f h
    → (list_all is_push acts ≡ false) ⊎ (first ≢ []) → HasWorked s event e a h
four_works s one two three e mid event acts first second third last a b d f h taken done_one done_two done_three done_four some =
    let begun = stands s mid s.seat in
    let went = next_went begun three e acts (([] ++ first) ++ second) third last a f h
    (next_went begun two three acts ([] ++ first) second third a d f (next_went begun one two acts [] first second a b d (first_went begun one acts first a b done_one) done_two) done_three) done_four in
    (went.0, react_works s e mid event acts ((([] ++ first) ++ second) ++ third) last went.0 taken went.1 (four_end begun one two three e acts first second third last a b d f h done_one done_two done_three done_four) (by some), went.2)
  where
    by : (list_all is_push acts ≡ false) ⊎ (first ≢ []) → (list_all is_push acts ≡ false) ⊎ (((([] ++ first) ++ second) ++ third) ≢ [])
    by (inl more) = inl more
    by (inr more) = inr (some_of first second third more)

abbrev pub is_ok_true : Result Bool EngineError → Bool
is_ok_true (Ok x) = x
is_ok_true (Err error) = false

-- a result that says that there was nothing to do
pub idle_of : (result : Result Bool EngineError) → result ≡ Ok true → is_ok_true result ≡ true
idle_of result is = ap is_ok_true is

-- one that says that there was something
pub idle_of_false : (result : Result Bool EngineError) → result ≡ Ok false → is_ok_true result ≡ false
idle_of_false result is = ap is_ok_true is

-- only pushes are performed, and they lead to nothing
abbrev pub HasIdled : Worker → Event → Worker → Written → Written → Type 0
HasIdled s event e old new = Idles s event e × AreWritten old new []

-- no list of actions leads to anything
pub nothing_done : (s e : Worker) (given more : List Action) (a b : Written) → given ≡ [] → AreDone s given more e a b → (more ≡ []) × (e ≡ s) × AreWritten a b []
nothing_done s e given more a b none (answers, out, acted, is, appended) =
    let nothing = none_done s e given answers out none acted in
    (is ∙ nothing.0, nothing.2, subst (λ (x : List ℕ). AreWritten a b x) nothing.1 appended)

pub four_idle : (s one two three e : Worker) (mid : KeptSession) (event : Event) (acts first second third last : List Action) (a b d f h : Written)
    → Steps s.session s.now event acts mid → AreDone (stands s mid s.seat) acts first one a b → AreDone one first second two b d → AreDone two second third three d f → AreDone three third last e f h
    → list_all is_push acts ≡ true → first ≡ [] → HasIdled s event e a h
four_idle s one two three e mid event acts first second third last a b d f h taken (answers, out, acted, kept, appended) done_two done_three done_four pushes none =
    let idle = idle_done s one mid event acts answers out taken acted pushes (sym kept ∙ none) in
    let then = nothing_done one two first second b d none done_two in
    let after = nothing_done two three second third d f then.0 done_three in
    let last_of = nothing_done three e third last f h after.0 done_four in
    let same : e ≡ one = last_of.1 ∙ (after.1 ∙ then.1) in (
      subst (λ (x : Worker). Idles s event x) (sym same) idle.0,
      writes_then a b h [] [] (subst (λ (x : List ℕ). AreWritten a b x) idle.1 appended) (writes_then b d h [] [] then.2 (writes_then d f h [] [] after.2 last_of.2)),
    )

-- the first event leaves nothing to do, and then nothing is read
pub idle_turn : (s mid e : Worker) (event first : Event) (from to : Option (List ℕ)) (a b d : Written) → event ≡ first → HasIdled s event mid a b → e ≡ mid → d ≡ b → Consumes from to []
    → Idles s first e × Consumes from to [] × AreWritten a d []
idle_turn s mid e event first from to a b d is (idles, silent) same still consumed = (
  subst (λ (x : Worker). Idles s first x) (sym same) (subst (λ (x : Event). Idles s x mid) is idles),
  consumed,
  subst (λ (x : Written). AreWritten a x []) (sym still) silent,
)

-- ---- a turn

-- what a turn did, and what a turn that failed did up to its error
abbrev pub HasTurned : Type 0 → Type 0 → Worker → Worker → Option (List ℕ) → Option (List ℕ) → Written → Written → Type 0
HasTurned at_end untouched s e from to a b =
    (received : Option Event) × (read out : List ℕ) × IsRead at_end received read × TakesTurn untouched s received out e × Consumes from to read × AreWritten a b out

abbrev pub HasStopped : ShardsState → Type 0 → Type 0 → Worker → KeptSession → SeatState → Option (List ℕ) → Option (List ℕ) → Written → Written → EngineError → Type 0
HasStopped shards at_end untouched s e seat from to a b error =
    (received : Option Event) × (read out : List ℕ) × IsRead at_end received read × StopsTurn shards untouched s received error out e seat × Consumes from to read × AreWritten a b out

-- the event that was read is received, up to an error
pub read_fails : (shards : ShardsState) {at_end : Type 0} (s : Worker) (e : KeptSession) (seat : SeatState) (found : Option Event) (event : Event) (error : EngineError) (from to : Option (List ℕ)) (a b : Written)
    → found ≡ Some event → ((read : List ℕ) × IsRead at_end found read × Consumes from to read) → HasHalted shards s event e seat a b error
    → (received : Option Event) × (read out : List ℕ) × IsRead at_end received read × HaltsAt shards s received error out e seat × Consumes from to read × AreWritten a b out
read_fails shards {at_end} s e seat found event error from to a b is (read, reads, consumed) (out, halts, appended) =
    (Some event, read, out, subst (λ (x : Option Event). IsRead at_end x read) is reads, halts, consumed, appended)

-- the first event leaves nothing to do, and then the turn reads
pub then_done : {at_end untouched : Type 0} (s mid e : Worker) (event : Event) (from to : Option (List ℕ)) (a b d : Written) → event ≡ first_event (state_of s.session.session.phase) → HasIdled s event mid a b
    → ((received : Option Event) × (read out : List ℕ) × IsRead at_end received read × Receives mid received out e × Consumes from to read × AreWritten b d out)
    → HasTurned at_end untouched s e from to a d
then_done s mid e event from to a b d is (idles, silent) (received, read, out, reads, receives, consumed, more) =
    (received, read, out, reads, inr (mid, subst (λ (x : Event). Idles s x mid) is idles, receives), consumed, writes_then a b d [] out silent more)

pub then_fails : (shards : ShardsState) {at_end untouched : Type 0} (s mid : Worker) (e : KeptSession) (seat : SeatState) (event : Event) (error : EngineError) (from to : Option (List ℕ)) (a b d : Written) → event ≡ first_event (state_of s.session.session.phase) → HasIdled s event mid a b
    → ((received : Option Event) × (read out : List ℕ) × IsRead at_end received read × HaltsAt shards mid received error out e seat × Consumes from to read × AreWritten b d out)
    → HasStopped shards at_end untouched s e seat from to a d error
then_fails shards s mid e seat event error from to a b d is (idles, silent) (received, read, out, reads, halts, consumed, more) =
    (received, read, out, reads, inr (mid, subst (λ (x : Event). Idles s x mid) is idles, halts), consumed, writes_then a b d [] out silent more)

-- a turn that did something or read something
abbrev pub HasWorkedInTurn : Type 0 → Type 0 → Worker → Worker → Option (List ℕ) → Option (List ℕ) → Written → Written → Type 0
HasWorkedInTurn at_end untouched s e from to a b =
    (read out : List ℕ) × WorksInTurn untouched at_end s read out e × Consumes from to read × AreWritten a b out

pub then_works : {at_end untouched : Type 0} (s mid e : Worker) (event : Event) (from to : Option (List ℕ)) (a b d : Written) → event ≡ first_event (state_of s.session.session.phase) → HasIdled s event mid a b
    → ((found : Event) × (read out : List ℕ) × IsRead at_end (Some found) read × Reacts mid found out e × Consumes from to read × AreWritten b d out)
    → HasWorkedInTurn at_end untouched s e from to a d
then_works s mid e event from to a b d is (idles, silent) (found, read, out, reads, reacts, consumed, more) =
    (read, out, inr (mid, found, subst (λ (x : Event). Idles s x mid) is idles, reads, reacts), consumed, writes_then a b d [] out silent more)

pub alone_works : {at_end untouched : Type 0} (s e : Worker) (event : Event) (known : Option (List ℕ)) (a b : Written) → event ≡ first_event (state_of s.session.session.phase) → HasWorked s event e a b → untouched → HasWorkedInTurn at_end untouched s e known known a b
alone_works s e event known a b is (out, works, appended) still =
    ([], out, inl (still, refl, subst (λ (x : Event). Works s x out e) is works), Consumes-nil known, appended)

-- the first event alone, without using the reader
pub alone_done : {at_end untouched : Type 0} (s e : Worker) (event : Event) (known : Option (List ℕ)) (a b : Written) → event ≡ first_event (state_of s.session.session.phase) → HasReacted s event e a b → untouched → HasTurned at_end untouched s e known known a b
alone_done s e event known a b is (out, reacts, appended) still =
    (None, [], out, refl, inl (still, refl, subst (λ (x : Event). Reacts s x out e) is reacts), Consumes-nil known, appended)

pub alone_fails : (shards : ShardsState) {at_end untouched : Type 0} (s : Worker) (e : KeptSession) (seat : SeatState) (event : Event) (error : EngineError) (known : Option (List ℕ)) (a b : Written) → event ≡ first_event (state_of s.session.session.phase) → HasHalted shards s event e seat a b error
    → untouched → HasStopped shards at_end untouched s e seat known known a b error
alone_fails shards s e seat event error known a b is (out, halts, appended) still =
    (None, [], out, refl, inl (still, refl, subst (λ (x : Event). Halts shards s x error out e seat) is halts), Consumes-nil known, appended)

-- the session after a turn
pub turned : {at_end untouched : Type 0} (s e : Worker) (from to : Option (List ℕ)) (a b : Written) → HasTurned at_end untouched s e from to a b → Turns s.now s.session e.session
turned s e from to a b (received, read, out, reads, all, consumed, appended) = turns_of s e received out all

pub broken : (shards : ShardsState) {at_end untouched : Type 0} (s : Worker) (e new : KeptSession) (seat : SeatState) (error : EngineError) (from to : Option (List ℕ)) (a b : Written) → HasStopped shards at_end untouched s e seat from to a b error → IsOver e new → Breaks s.now s.session new
broken shards s e new seat error from to a b (received, read, out, reads, stops, consumed, appended) is = breaks_of shards s e new seat received error out stops is

pub stopped : (shards : ShardsState) {at_end untouched : Type 0} (s : Worker) (e new : KeptSession) (seat : SeatState) (error : EngineError) (from to : Option (List ℕ)) (a b : Written) → HasStopped shards at_end untouched s e seat from to a b error → IsOver e new → HasStopped shards at_end untouched s new seat from to a b error
stopped shards s e new seat error from to a b (received, read, out, reads, stops, consumed, appended) is =
    (received, read, out, reads, halted shards s e new seat received error out stops is, consumed, appended)

-- ---- a session that is over

open_going : (teaching : Bool) → state_of_course teaching ≢ states.Ended
open_going true is = cc is
open_going false is = cc is

refuses_over : (phase : Phase) (event : Event) → state_of phase ≡ states.Ended → Refuses phase event refusals.Ended
refuses_over phases.Ended event is = refl
refuses_over (phases.New hello c) event is = absurd (cc is)
refuses_over (phases.Hello greeter bytes c) event is = absurd (cc is)
refuses_over (phases.Open c) event is = absurd (open_going c.teaching is)

abbrev error_of : {X : Type 0} → EngineError → Result X EngineError → EngineError
error_of other (Ok x) = other
error_of other (Err error) = error

-- it refuses the first event, and nothing else happens
pub over_stops : {X : Type 0} (P Q : Type 0) (phase : Phase) (event : Event) (result : Result X EngineError) (error : EngineError) → state_of phase ≡ states.Ended
    → ((why : SessionError) → why ≢ refusals.Memory → Refuses phase event why → (result ≡ Err (errors.Session why)) × P × Q) → result ≡ Err error → (error ≡ errors.Session refusals.Ended) × P × Q
over_stops {X} P Q phase event result error is refused err =
    let stops = refused refusals.Ended (λ same. cc same) (refuses_over phase event is) in
    (ap (λ (r : Result X EngineError). error_of error r) (sym err ∙ stops.0), stops.1, stops.2)

-- a session that is over receives no event
pub none_once_over : {X : Type 0} (P Q : Type 0) (phase : Phase) (event : Event) (result : Result X EngineError) (x : X) → state_of phase ≡ states.Ended
    → ((why : SessionError) → why ≢ refusals.Memory → Refuses phase event why → (result ≡ Err (errors.Session why)) × P × Q) → result ≡ Ok x → ⊥
none_once_over {X} P Q phase event result x is refused ok =
    let stops = refused refusals.Ended (λ same. cc same) (refuses_over phase event is) in
    let both : Ok x ≡ Err (errors.Session refusals.Ended) = sym ok ∙ stops.0 in
    cc both

-- what is refused isn't done
pub none_if_refused : {X : Type 0} (P Q : Type 0) (result : Result X EngineError) (x : X) (why : SessionError) → (result ≡ Err (errors.Session why)) × P × Q → result ≡ Ok x → ⊥
none_if_refused {X} P Q result x why stops ok =
    let both : Ok x ≡ Err (errors.Session why) = sym ok ∙ stops.0 in
    cc both

-- the call on which a turn stops is refused for that cause, and nothing else happens
pub stops_with_cause : {X : Type 0} (P Q : Type 0) (result : Result X EngineError) (error : EngineError) (why : SessionError)
    → (result ≡ Err (errors.Session why)) × P × Q → result ≡ Err error → (error ≡ errors.Session why) × P × Q
stops_with_cause {X} P Q result error why stops err =
    (ap (λ (r : Result X EngineError). error_of error r) (sym err ∙ stops.0), stops.1, stops.2)
