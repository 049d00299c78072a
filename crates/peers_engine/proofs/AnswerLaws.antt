-- The answers of the calls that perform an action.
use Rattle.std.proofs.Common.{◌≡◌, ℕ, Bool, List, [], Option, Some, None, Result, Ok, Err, IfErr, refl, sym, ap, subst, inl, inr}
use Rattle.peers_devices.proofs.WritingLaws.{writes_nothing}
use Rattle.std.specs.Prelude.{◌<◌, length, take}
use Rattle.peers_devices.specs.Writing.{AreWritten, Written}
use Rattle.table_types.specs.declared.update.Update.{Update}
use Rattle.table_types.specs.declared.copies.CopyKind.{CopyKind}
use Rattle.table_types.specs.declared.version.Version.{Version}
use Rattle.peers_msg.specs.declared.control.ErrorKind.{ErrorKind}
use Rattle.table_shards.specs.Receipts.{SeatState}
use Rattle.table_shards.specs.Rounds.{ShardsState}
use Rattle.known_state.specs.Known.{KnownState}
use Rattle.session_core.specs.declared.action.Action.{Action}
use Rattle.session_core.specs.declared.action.Action.TheVariants as actions
use Rattle.session_core.specs.declared.event.Event.{Event}
use Rattle.session_core.specs.declared.event.Event.TheVariants as events
use Rattle.session_core.specs.Sessions.{SessionState}
use Rattle.peers_engine.specs.declared.errors.EngineError.{EngineError}
use Rattle.peers_engine.specs.declared.errors.EngineError.TheVariants as errors
use Rattle.peers_engine.specs.Calls.{IsCopied, IsLearned, IsReopened, IsSettled, IsTaken, moment_at, opened_with}
use Rattle.teach_writer.specs.Lessons.{IsShortestLesson}
use Rattle.peers_engine.specs.Doing.{Done, Fails, Falls, IsAtTable, IsLeft, IsRefusal, IsStrange, error_text}
use Rattle.peers_engine.proofs.TurnLaws.{OneDone, OneFails}

-- a write failed
pub falls_short : (shards : ShardsState) (stays : Bool) (error : EngineError) (n now : ℕ) (x : SessionState) (s t : SeatState) (act : Action) (bytes : List ℕ) (answer : Option Event) (old new : Written)
    → Done stays n now x s act bytes answer t → Falls bytes error old new → (out : List ℕ) × Fails shards stays n now x s act error out t × AreWritten old new out
falls_short shards stays (errors.Write sent) n now x s t act bytes answer old new done (within, appended) = (take sent bytes, (bytes, answer, done, within, refl), appended)
falls_short shards stays errors.Read n now x s t act bytes answer old new done falls = absurd falls
falls_short shards stays errors.Memory n now x s t act bytes answer old new done falls = absurd falls
falls_short shards stays errors.Strange n now x s t act bytes answer old new done falls = absurd falls
falls_short shards stays (errors.Session refused) n now x s t act bytes answer old new done falls = absurd falls

-- ---- actions with an answer

taken_as : (stays : Bool) (n now : ℕ) (x : SessionState) (s t : SeatState) (table number : ℕ) (event : Event) → IsTaken n s table number t event
    → Done stays n now x s (actions.Ack table number) [] (Some event) t
taken_as stays n now x s t table number event taken = (refl, event, refl, taken)

copied_as : (stays : Bool) (n now : ℕ) (x : SessionState) (s t : SeatState) (table : ℕ) (kind : CopyKind) (event : Event) → IsCopied stays n now s table kind t event
    → Done stays n now x s (actions.Copy table kind) [] (Some event) t
copied_as stays n now x s t table kind event copied = (refl, event, refl, copied)

-- an acknowledgement
pub ack_done : (stays : Bool) (n now : ℕ) (x : SessionState) (s t : SeatState) (action : Action) (table number : ℕ) (known : Written) (event : Event)
    → action ≡ actions.Ack table number → IsTaken n s table number t event → OneDone stays n now x s t action known known (Some event)
ack_done stays n now x s t action table number known event is taken =
    ([], subst (λ (a : Action). Done stays n now x s a [] (Some event) t) (sym is) (taken_as stays n now x s t table number event taken), writes_nothing known)

-- a copy
pub copy_done : (stays : Bool) (n now : ℕ) (x : SessionState) (s t : SeatState) (action : Action) (table : ℕ) (kind : CopyKind) (known : Written) (event : Event)
    → action ≡ actions.Copy table kind → IsCopied stays n now s table kind t event → OneDone stays n now x s t action known known (Some event)
copy_done stays n now x s t action table kind known event is copied =
    ([], subst (λ (a : Action). Done stays n now x s a [] (Some event) t) (sym is) (copied_as stays n now x s t table kind event copied), writes_nothing known)

-- a lesson from the same known state
pub lesson_from : (k known : KnownState) (batch : List Update) (out : List ℕ) (after : KnownState) → k ≡ known → IsShortestLesson k batch out after → IsShortestLesson known batch out after
lesson_from k known batch out after same lesson = subst (λ (y : KnownState). IsShortestLesson y batch out after) same lesson

-- a lesson
pub teach_done : (stays : Bool) (n now : ℕ) (k : KnownState) (x : SessionState) (s t : SeatState) (action : Action) (batch : List Update) (old new : Written) (event : Event)
    → action ≡ actions.Teach batch → k ≡ x.known
    → ((out : List ℕ) × (after : KnownState) × IsShortestLesson k batch out after × (event ≡ events.Written after) × IsSettled n s batch t × AreWritten old new out)
    → OneDone stays n now x s t action old new (Some event)
teach_done stays n now k x s t action batch old new event is same (out, after, lesson, written, settled, appended) = (
  out,
  subst (λ (a : Action). Done stays n now x s a out (Some event) t) (sym is)
      (after, lesson_from k x.known batch out after same lesson, ap (λ (y : Event). Some y) written, settled),
  appended,
)

-- ---- actions without one

-- bytes that are written
pub send_done : (stays : Bool) (n now : ℕ) (x : SessionState) (s : SeatState) (action : Action) (bytes out : List ℕ) (old new : Written)
    → action ≡ actions.Send bytes → out ≡ bytes → AreWritten old new out → OneDone stays n now x s s action old new None
send_done stays n now x s action bytes out old new is same appended =
    (out, subst (λ (a : Action). Done stays n now x s a out None s) (sym is) (same, refl, refl), appended)

-- a row that is learned
pub learn_done : (stays : Bool) (n now : ℕ) (x : SessionState) (s t : SeatState) (action : Action) (u : Update) (known : Written)
    → action ≡ actions.Learn u → IsLearned stays n now s u t → OneDone stays n now x s t action known known None
learn_done stays n now x s t action u known is learned =
    ([], subst (λ (a : Action). Done stays n now x s a [] None t) (sym is) (refl, refl, learned), writes_nothing known)

-- a table that is reopened
pub reopen_done : (stays : Bool) (n now : ℕ) (x : SessionState) (s t : SeatState) (action : Action) (table : ℕ) (version : Version) (known : Written)
    → action ≡ actions.Reopen table → version ≡ opened_with x.version → IsReopened n version s table t → OneDone stays n now x s t action known known None
reopen_done stays n now x s t action table version known is same reopened =
    ([], subst (λ (a : Action). Done stays n now x s a [] None t) (sym is) (refl, refl, subst (λ (v : Version). IsReopened n v s table t) same reopened), writes_nothing known)

-- an error message that is written
pub part_done : (stays : Bool) (n now : ℕ) (x : SessionState) (s : SeatState) (action : Action) (kind : ErrorKind) (old new : Written)
    → action ≡ actions.Part kind → AreWritten old new (error_text kind) → OneDone stays n now x s s action old new None
part_done stays n now x s action kind old new is appended =
    (error_text kind, subst (λ (a : Action). Done stays n now x s a (error_text kind) None s) (sym is) (refl, refl, refl), appended)

-- a connection that is closed
pub close_done : (stays : Bool) (n now : ℕ) (x : SessionState) (s : SeatState) (action : Action) (known : Written) → action ≡ actions.Close → OneDone stays n now x s s action known known None
close_done stays n now x s action known is = ([], subst (λ (a : Action). Done stays n now x s a [] None s) (sym is) (refl, refl, refl), writes_nothing known)

-- ---- failures

-- bytes, and an error message, that weren't written whole
pub send_falls : (shards : ShardsState) (stays : Bool) (n now : ℕ) (x : SessionState) (s : SeatState) (action : Action) (bytes out : List ℕ) (error : EngineError) (old new : Written)
    → action ≡ actions.Send bytes → out ≡ bytes → Falls out error old new → OneFails shards stays n now x s s action old new error
send_falls shards stays n now x s action bytes out error old new is same falls =
    subst (λ (a : Action). OneFails shards stays n now x s s a old new error) (sym is)
    (falls_short shards stays error n now x s s (actions.Send bytes) out None old new (same, refl, refl) falls)

pub part_falls : (shards : ShardsState) (stays : Bool) (n now : ℕ) (x : SessionState) (s : SeatState) (action : Action) (kind : ErrorKind) (error : EngineError) (old new : Written)
    → action ≡ actions.Part kind → Falls (error_text kind) error old new → OneFails shards stays n now x s s action old new error
part_falls shards stays n now x s action kind error old new is falls =
    subst (λ (a : Action). OneFails shards stays n now x s s a old new error) (sym is)
    (falls_short shards stays error n now x s s (actions.Part kind) (error_text kind) None old new (refl, refl, refl) falls)

-- a table refused the action, or memory ran out
pub refused_as : (shards : ShardsState) (stays : Bool) (error : EngineError) (n now : ℕ) (x : SessionState) (s t : SeatState) (act : Action) (known : Written)
    → IsRefusal (IsLeft n s act t) (IsStrange shards (moment_at stays now) n x s act t) error → IsAtTable act → (out : List ℕ) × Fails shards stays n now x s act error out t × AreWritten known known out
refused_as shards stays errors.Memory n now x s t act known refused at = ([], inl (refused, at, refl), writes_nothing known)
refused_as shards stays errors.Strange n now x s t act known refused at = ([], (refused, at, refl), writes_nothing known)
refused_as shards stays errors.Read n now x s t act known refused at = absurd refused
refused_as shards stays (errors.Write sent) n now x s t act known refused at = absurd refused
refused_as shards stays (errors.Session why) n now x s t act known refused at = absurd refused

pub call_refused : (shards : ShardsState) (stays : Bool) (n now : ℕ) (x : SessionState) (s t : SeatState) (action act : Action) (known : Written) (error : EngineError)
    → action ≡ act → IsAtTable act → IsRefusal (IsLeft n s act t) (IsStrange shards (moment_at stays now) n x s act t) error → OneFails shards stays n now x s t action known known error
call_refused shards stays n now x s t action act known error is at refused =
    subst (λ (a : Action). OneFails shards stays n now x s t a known known error) (sym is) (refused_as shards stays error n now x s t act known refused at)

-- a lesson for whose next bytes memory ran out
pub lesson_cut : (shards : ShardsState) (stays : Bool) (n now : ℕ) (x : SessionState) (s t : SeatState) (batch : List Update) (bytes : List ℕ) (answer : Option Event) (sent : ℕ) (old new : Written)
    → Done stays n now x s (actions.Teach batch) bytes answer t → sent < length bytes → AreWritten old new (take sent bytes) → OneFails shards stays n now x s t (actions.Teach batch) old new errors.Memory
lesson_cut shards stays n now x s t batch bytes answer sent old new done within appended =
    (take sent bytes, inr (tt, sent, (bytes, answer, done, within, refl)), appended)

-- a lesson that can't be made or written
pub teach_fails : (shards : ShardsState) (stays : Bool) (n now : ℕ) (x : SessionState) (s t : SeatState) (action : Action) (batch : List Update) (old new : Written) (error : EngineError)
    → action ≡ actions.Teach batch → OneFails shards stays n now x s t (actions.Teach batch) old new error → OneFails shards stays n now x s t action old new error
teach_fails shards stays n now x s t action batch old new error is fails = subst (λ (a : Action). OneFails shards stays n now x s t a old new error) (sym is) fails

pub table_refuses : (shards : ShardsState) (stays : Bool) {X : Type 0} (n now : ℕ) (x : SessionState) (s t : SeatState) (action act : Action) (known : Written) (result : Result X EngineError)
    → action ≡ act → IsAtTable act → IfErr result (IsRefusal (IsLeft n s act t) (IsStrange shards (moment_at stays now) n x s act t)) → IfErr result (λ error. OneFails shards stays n now x s t action known known error)
table_refuses shards stays {X} n now x s t action act known (Ok done) is at refused = tt
table_refuses shards stays {X} n now x s t action act known (Err error) is at refused = call_refused shards stays n now x s t action act known error is at refused
