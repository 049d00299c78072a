-- How a session's actions are performed, and what is written for them.
use Rattle.std.specs.Prelude.{◌≡◌, ◌⊎◌, ◌<◌, ◌+◌, ◌%◌, ◌^◌, ℕ, Bool, List, [], ◌∷◌, length, take, Option, Some, None, Ok, Err, slice_get}
use Rattle.peers_devices.specs.Writing.{AreWritten, Written}
use Rattle.table_types.specs.declared.update.Update.{Update}
use Rattle.table_types.specs.Batches.{IsBatchFor}
use Rattle.peers_msg.specs.declared.control.ErrorKind.{ErrorKind}
use Rattle.peers_msg.specs.Spelling.{error_type}
use Rattle.table_cell.specs.Histories.{CellState}
use Rattle.table_cell.specs.declared.errors.AckError.{AckError}
use Rattle.table_cell.specs.declared.errors.CloseError.{CloseError}
use Rattle.table_cell.specs.declared.errors.CopyError.{CopyError}
use Rattle.table_cell.specs.declared.errors.LearnError.{LearnError}
use Rattle.table_cell.specs.declared.errors.OpenError.{OpenError}
use Rattle.table_cell.specs.declared.errors.StrangeBatch.{StrangeBatch}
use Rattle.table_shards.specs.declared.answers.Answer.{Answer}
use Rattle.table_shards.specs.declared.answers.Answer.TheVariants as answers
use Rattle.table_shards.specs.declared.answers.Answered.{Answered}
use Rattle.table_shards.specs.declared.errors.ShardError.{ShardError}
use Rattle.table_shards.specs.Receipts.{SeatState}
use Rattle.table_shards.specs.Rounds.{ShardsState}
use Rattle.known_state.specs.Known.{KnownState}
use Rattle.teach_writer.specs.Lessons.{IsShortestLesson}
use Rattle.session_core.specs.declared.action.Action.{Action}
use Rattle.session_core.specs.declared.action.Action.TheVariants as actions
use Rattle.session_core.specs.declared.event.Event.{Event}
use Rattle.session_core.specs.declared.event.Event.TheVariants as events
use Rattle.session_core.specs.Sessions.{SessionState}
use Rattle.peers_engine.specs.Calls.{CallsClose, IsCopied, IsLearned, IsMissing, IsReopened, IsSettled, IsTaken, IsUncopied, IsUnlearned, IsUnopened, IsUnsettled, IsUntaken, moment_at, most_copied, opened_with}
use Rattle.peers_engine.specs.declared.errors.EngineError.{EngineError}
use Rattle.peers_engine.specs.declared.errors.EngineError.TheVariants as errors

-- the bytes of an error message
abbrev pub error_text : ErrorKind → List ℕ
error_text kind = 1 ∷ (error_type kind ∷ [])

-- Session `n`, which is `x`, performs an action from the seat `s` at the moment `now`: what is written for it, its answer,
-- and how it leaves the seat. The moment of a call is that of one that stays, or that of a plain one.
abbrev pub Done : Bool → ℕ → ℕ → SessionState → SeatState → Action → List ℕ → Option Event → SeatState → Type 0
Done stays n now x s (actions.Send bytes) out answer t = (out ≡ bytes) × (answer ≡ None) × (t ≡ s)
Done stays n now x s (actions.Learn u) out answer t = (out ≡ []) × (answer ≡ None) × IsLearned stays n now s u t
Done stays n now x s (actions.Ack table number) out answer t = (out ≡ []) × (event : Event) × (answer ≡ Some event) × IsTaken n s table number t event
Done stays n now x s (actions.Reopen table) out answer t = (out ≡ []) × (answer ≡ None) × IsReopened n (opened_with x.version) s table t
Done stays n now x s (actions.Copy table kind) out answer t = (out ≡ []) × (event : Event) × (answer ≡ Some event) × IsCopied stays n now s table kind t event
Done stays n now x s (actions.Teach batch) out answer t =
    (after : KnownState) × IsShortestLesson x.known batch out after × (answer ≡ Some (events.Written after)) × IsSettled n s batch t
Done stays n now x s (actions.Part kind) out answer t = (out ≡ error_text kind) × (answer ≡ None) × (t ≡ s)
Done stays n now x s actions.Close out answer t = (out ≡ []) × (answer ≡ None) × (t ≡ s)

-- The error of what isn't done: `Memory`, which no clause denies, and the seat is as `left` says; or `Strange` for the cause given,
-- which says how the seat is then.
abbrev pub IsRefusal : Type 0 → Type 0 → EngineError → Type 0
IsRefusal left cause errors.Memory = left
IsRefusal left cause errors.Strange = cause
IsRefusal left cause error = ⊥

-- Why an action of session `n`, which is `x`, is `Strange`: its table is missing, or refuses it, which the seat keeps; or the
-- batch of a lesson isn't one for the session's tables. On a cell `c`, a row is learned and a batch copied at the moment `at c`.
abbrev pub IsStrange : ShardsState → (CellState → ℕ) → ℕ → SessionState → SeatState → Action → SeatState → Type 0
IsStrange shards at n x s (actions.Learn u) t = IsUnlearned shards at n s u t
IsStrange shards at n x s (actions.Ack table number) t = IsUntaken shards n s table number t
IsStrange shards at n x s (actions.Reopen table) t = IsUnopened shards n (opened_with x.version) s table t
IsStrange shards at n x s (actions.Copy table kind) t = IsUncopied shards at n s table kind t
IsStrange shards at n x s (actions.Teach batch) t =
    ((IsBatchFor x.known.roster batch → ⊥) × (t ≡ s)) ⊎ IsUnsettled shards n s batch t
IsStrange shards at n x s act t = ⊥

-- What makes an action `Strange` though no table is asked: its table is missing; or the batch of a lesson isn't one for the session's
-- tables, has no update, or is of a table that is missing.
abbrev pub IsUnasked : ShardsState → SessionState → Action → Type 0
IsUnasked shards x (actions.Learn u) = IsMissing shards u.table
IsUnasked shards x (actions.Ack table number) = IsMissing shards table
IsUnasked shards x (actions.Reopen table) = IsMissing shards table
IsUnasked shards x (actions.Copy table kind) = IsMissing shards table
IsUnasked shards x (actions.Teach batch) =
    (IsBatchFor x.known.roster batch → ⊥)
    ⊎ ((slice_get batch 0 ≡ None) ⊎ ((u : Update) × (slice_get batch 0 ≡ Some u) × IsMissing shards u.table))
IsUnasked shards x act = ⊥

-- the answer at a seat is this one of the table, for session `n`
abbrev pub IsAnswerOf : ℕ → ℕ → Answer → Answered → Type 0
IsAnswerOf table n answer a = (a.table ≡ table) × (a.session ≡ n) × (a.answer ≡ answer)

-- The answer at a seat is that the action's table refuses what the action asks for, with the error. A table that is reopened is asked to
-- close the session and then to open it; that of a lesson is asked whether the batch is the session's latest one.
abbrev pub IsRefusalFor : (CellState → ℕ) → ℕ → SessionState → Action → Answered → Type 0
IsRefusalFor at n x (actions.Learn u) a = (c : CellState) × (error : ShardError LearnError) × IsAnswerOf u.table n (answers.Unlearned u.number (at c) error) a
IsRefusalFor at n x (actions.Ack table number) a = (error : ShardError AckError) × IsAnswerOf table n (answers.Untaken number error) a
IsRefusalFor at n x (actions.Reopen table) a =
    ((error : ShardError CloseError) × IsAnswerOf table n (answers.Unclosed error) a)
    ⊎ ((error : ShardError OpenError) × IsAnswerOf table n (answers.Unopened (opened_with x.version) error) a)
IsRefusalFor at n x (actions.Copy table kind) a =
    (c : CellState) × (error : ShardError CopyError) × IsAnswerOf table n (answers.Uncopied kind most_copied (at c) error) a
IsRefusalFor at n x (actions.Teach batch) a =
    (u : Update) × (slice_get batch 0 ≡ Some u) × (error : ShardError StrangeBatch) × IsAnswerOf u.table n (answers.Unsettled error) a
IsRefusalFor at n x act a = ⊥

-- the seat has one more answer than `s`, and the latest one is that the action's table refuses it
abbrev pub KeepsRefusal : (CellState → ℕ) → ℕ → SessionState → SeatState → Action → SeatState → Type 0
KeepsRefusal at n x s act t = (a : Answered) × (t.answers ≡ (s.answers + 1) % 2 ^ 64) × (t.latest ≡ Some a) × IsRefusalFor at n x act a

-- an action that calls a table; a lesson calls it to test that its batch is the session's latest one
abbrev pub IsAtTable : Action → Type 0
IsAtTable (actions.Send bytes) = ⊥
IsAtTable (actions.Part kind) = ⊥
IsAtTable actions.Close = ⊥
IsAtTable act = Unit {0}

-- a write of these bytes failed: exactly the first `sent` of them were written, and not all
abbrev pub Falls : List ℕ → EngineError → Written → Written → Type 0
Falls bytes (errors.Write sent) old new = (sent < length bytes) × AreWritten old new (take sent bytes)
Falls bytes error old new = ⊥

-- How an action for which memory runs out leaves the seat: as it was; or with the receipt of the close, if the session was
-- closed in the table and not opened anew.
abbrev pub IsLeft : ℕ → SeatState → Action → SeatState → Type 0
IsLeft n s (actions.Reopen table) t = (t ≡ s) ⊎ CallsClose n s table (Ok tt) t
IsLeft n s act t = t ≡ s

-- a table refuses an action, or memory runs out for it, and nothing is written
abbrev pub IsUndone : ShardsState → (CellState → ℕ) → ℕ → SessionState → SeatState → Action → EngineError → List ℕ → SeatState → Type 0
IsUndone shards at n x s act error out t = IsRefusal (IsLeft n s act t) (IsStrange shards at n x s act t) error × IsAtTable act × (out ≡ [])

-- an action is done, but exactly the first `sent` of its bytes are written, and not all
abbrev pub IsCutOff : Bool → ℕ → ℕ → SessionState → SeatState → Action → ℕ → List ℕ → SeatState → Type 0
IsCutOff stays n now x s act sent out t =
    (bytes : List ℕ) × (answer : Option Event) × Done stays n now x s act bytes answer t × (sent < length bytes) × (out ≡ take sent bytes)

-- the action whose bytes are made while they are written
abbrev pub IsTeach : Action → Type 0
IsTeach (actions.Teach batch) = Unit {0}
IsTeach act = ⊥

-- An action fails, and leaves the seat: a write failed after some of its bytes, or memory ran out after some bytes of a
-- lesson, and the seat is as the action leaves it; or a table refused it or memory ran out, and nothing was written.
abbrev pub Fails : ShardsState → Bool → ℕ → ℕ → SessionState → SeatState → Action → EngineError → List ℕ → SeatState → Type 0
Fails shards stays n now x s act (errors.Write sent) out t = IsCutOff stays n now x s act sent out t
Fails shards stays n now x s act errors.Memory out t =
    IsUndone shards (moment_at stays now) n x s act errors.Memory out t ⊎ (IsTeach act × (sent : ℕ) × IsCutOff stays n now x s act sent out t)
Fails shards stays n now x s act error out t = IsUndone shards (moment_at stays now) n x s act error out t
