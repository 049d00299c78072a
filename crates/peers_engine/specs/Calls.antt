-- The calls on tables that perform a session's actions. No clause says which cell a call finds behind the lock: they
-- say what the call does to some cell of its table, which is sound and keeps its batches. A call that makes an event of the
-- table leaves its receipt at the seat, with the answer. Any other call leaves at the seat which table was called for which session,
-- what was asked, and the answer. Only a call for which memory ran out leaves the seat as it was.
use Rattle.std.specs.Prelude.{◌≡◌, ◌⊎◌, ℕ, ◌==◌, max, Bool, true, false, List, Option, Result, Ok, Err, Some, None, slice_get}
use Rattle.std.specs.List.{list_any}
use Rattle.table_types.specs.declared.update.Update.{Update}
use Rattle.table_types.specs.declared.copies.CopyKind.{CopyKind}
use Rattle.table_types.specs.declared.copies.Settled.{Settled}
use Rattle.table_types.specs.declared.version.Version.{Version}
use Rattle.table_types.specs.declared.version.Version.TheVariants as versions
use Rattle.table_cell.specs.Histories.{Acknowledges, CellState, Closes, Copies, IsSoundCell, Kept, Learns, Opens, events_of}
use Rattle.table_cell.specs.declared.errors.AckError.{AckError}
use Rattle.table_cell.specs.declared.errors.AckError.TheVariants as ack_errors
use Rattle.table_cell.specs.declared.errors.CloseError.{CloseError}
use Rattle.table_cell.specs.declared.errors.CloseError.TheVariants as close_errors
use Rattle.table_cell.specs.declared.errors.CopyError.{CopyError}
use Rattle.table_cell.specs.declared.errors.CopyError.TheVariants as copy_errors
use Rattle.table_cell.specs.declared.errors.LearnError.{LearnError}
use Rattle.table_cell.specs.declared.errors.LearnError.TheVariants as learn_errors
use Rattle.table_cell.specs.declared.errors.OpenError.{OpenError}
use Rattle.table_cell.specs.declared.errors.OpenError.TheVariants as open_errors
use Rattle.table_cell.specs.declared.errors.StrangeBatch.{StrangeBatch}
use Rattle.table_cell.specs.declared.events.CellEvent.TheVariants as events
use Rattle.table_cell.specs.declared.events.CellReply.TheVariants as replies
use Rattle.table_cell.specs.declared.events.Reply.{Reply}
use Rattle.table_shards.specs.Agreement.{id_of}
use Rattle.table_shards.specs.Rounds.{ShardsState}
use Rattle.table_shards.specs.declared.errors.ShardError.{ShardError}
use Rattle.table_shards.specs.declared.errors.ShardError.TheVariants as errors
use Rattle.table_shards.specs.Holding.{Holds, Looks, Settles, receipted}
use Rattle.table_shards.specs.Noting.{Notes, if_settled, if_unclosed, if_uncopied, if_unlearned, if_unopened, if_untaken}
use Rattle.table_shards.specs.Receipts.{SeatState}
use Rattle.session_core.specs.declared.event.Event.{Event}
use Rattle.session_core.specs.declared.event.Event.TheVariants as answers
use Rattle.peers_engine.specs.declared.errors.EngineError.{EngineError}
use Rattle.peers_engine.specs.declared.errors.EngineError.TheVariants as faults

-- what every table behind a lock is: its cell is sound, and its history keeps the batches that were copied
abbrev pub IsSoundTable : CellState → Type 0
IsSoundTable c = IsSoundCell c × Kept c

-- Session `n` calls the cell `c` from the seat `s` at the moment `now`; the call gives `answer` and leaves the seat as `t`.
abbrev pub CallsLearnOn : CellState → ℕ → ℕ → SeatState → Update → Result Reply (ShardError LearnError) → SeatState → Type 0
CallsLearnOn c n now s u answer t =
    IsSoundTable c × (e : CellState)
    × Notes (λ mid. Holds (λ x r y. Learns x n u now r y) (λ reply. receipted u.table c s (events.Learn n u now) (replies.Learn reply)) u.table c s answer e mid)
    u.table n (events_of c) (if_unlearned u.number now answer) t

-- the most updates that a turn copies at once
abbrev pub most_copied : ℕ
most_copied = 512

abbrev pub CallsCopyOn : CellState → ℕ → ℕ → SeatState → ℕ → CopyKind → Result (List Update) (ShardError CopyError) → SeatState → Type 0
CallsCopyOn c n now s table kind answer t =
    IsSoundTable c × (e : CellState)
    × Notes (λ mid. Holds (λ x r y. Copies x n kind most_copied now r y) (λ batch. receipted table c s (events.Copy n kind most_copied now) (replies.Copy batch)) table c s answer e mid)
    table n (events_of c) (if_uncopied kind most_copied now answer) t

abbrev pub CallsAck : ℕ → SeatState → ℕ → ℕ → Result Settled (ShardError AckError) → SeatState → Type 0
CallsAck n s table number answer t =
    (c : CellState) × IsSoundTable c × (e : CellState)
    × Notes (λ mid. Holds (λ x r y. Acknowledges x n number r y) (λ settled. receipted table c s (events.Ack n number) (replies.Ack settled)) table c s answer e mid)
    table n (events_of c) (if_untaken number answer) t

-- the session is opened with this version
abbrev pub CallsOpen : ℕ → Version → SeatState → ℕ → Result (Unit {0}) (ShardError OpenError) → SeatState → Type 0
CallsOpen n version s table answer t =
    (c : CellState) × IsSoundTable c × (e : CellState)
    × Notes (λ mid. Holds (λ x r y. Opens x n version r y) (λ done. receipted table c s (events.Open n version) replies.Open) table c s answer e mid)
    table n (events_of c) (if_unopened version answer) t

abbrev pub CallsClose : ℕ → SeatState → ℕ → Result (Unit {0}) (ShardError CloseError) → SeatState → Type 0
CallsClose n s table answer t =
    (c : CellState) × IsSoundTable c × (e : CellState)
    × Notes (λ mid. Holds (λ x r y. Closes x n r y) (λ done. receipted table c s (events.Close n) replies.Close) table c s answer e mid)
    table n (events_of c) (if_unclosed answer) t

-- ---- what they do

-- a row is learned, or skipped by a full table
abbrev pub IsLearnedOn : CellState → ℕ → ℕ → SeatState → Update → SeatState → Type 0
IsLearnedOn c n now s u t =
    ((reply : Reply) × CallsLearnOn c n now s u (Ok reply) t) ⊎ CallsLearnOn c n now s u (Err (errors.Cell learn_errors.TableFull)) t

-- The moment of a call on the table `c`: `now`; or, in a session that stays, the table's latest one if that is later.
abbrev pub moment_at : Bool → ℕ → CellState → ℕ
moment_at true now c = max now c.state.latest
moment_at false now c = now

abbrev pub IsLearned : Bool → ℕ → ℕ → SeatState → Update → SeatState → Type 0
IsLearned stays n now s u t = (c : CellState) × (at : ℕ) × (at ≡ moment_at stays now c) × IsLearnedOn c n at s u t

-- an acknowledgement is passed on, and `event` is the answer to the session
abbrev pub IsTaken : ℕ → SeatState → ℕ → ℕ → SeatState → Event → Type 0
IsTaken n s table number t event =
    ((settled : Settled) × (event ≡ answers.Settled table settled) × CallsAck n s table number (Ok settled) t)
    ⊎ ((event ≡ answers.Refused table) × CallsAck n s table number (Err (errors.Cell ack_errors.AckAhead)) t)

-- a batch is copied, or there is none, and `event` is the answer to the session
abbrev pub IsCopiedOn : CellState → ℕ → ℕ → SeatState → ℕ → CopyKind → SeatState → Event → Type 0
IsCopiedOn c n now s table kind t event =
    ((batch : List Update) × (event ≡ answers.Copied table batch) × CallsCopyOn c n now s table kind (Ok batch) t)
    ⊎ ((event ≡ answers.Nothing table) × CallsCopyOn c n now s table kind (Err (errors.Cell copy_errors.Nothing)) t)

abbrev pub IsCopied : Bool → ℕ → ℕ → SeatState → ℕ → CopyKind → SeatState → Event → Type 0
IsCopied stays n now s table kind t event =
    (c : CellState) × (at : ℕ) × (at ≡ moment_at stays now c) × IsCopiedOn c n at s table kind t event

-- the version with which a session is opened in its tables: the one that it speaks, or 2.1 until its hello is done
abbrev pub opened_with : Option Version → Version
opened_with None = versions.V21
opened_with (Some version) = version

-- the session is closed in the table and opened anew, with this version
abbrev pub IsReopened : ℕ → Version → SeatState → ℕ → SeatState → Type 0
IsReopened n version s table t = (mid : SeatState) × CallsClose n s table (Ok tt) mid × CallsOpen n version mid table (Ok tt) t

-- the batch is the session's latest one in the table of its first update
abbrev pub IsSettled : ℕ → SeatState → List Update → SeatState → Type 0
IsSettled n s batch t =
    (u : Update) × (slice_get batch 0 ≡ Some u) × (c : CellState) × IsSoundTable c × (e : CellState)
    × Notes (λ mid. Looks (λ x r y. Settles x n batch r y) u.table c s (Ok tt) e mid) u.table n (events_of c) (if_settled (Ok tt)) t

-- ---- what their answers mean to a turn

-- A turn goes on after a call that is done, and after an answer that is passed on to the session; a full table skips a row. It ends
-- with `Memory` if memory ran out, and with `Strange` after any other refusal.
abbrev pub learn_end : {A : Type 0} → Result A (ShardError LearnError) → Result (Unit {0}) EngineError
learn_end (Ok done) = Ok tt
learn_end (Err errors.Memory) = Err faults.Memory
learn_end (Err (errors.Cell learn_errors.Memory)) = Err faults.Memory
learn_end (Err (errors.Cell learn_errors.TableFull)) = Ok tt
learn_end (Err why) = Err faults.Strange

abbrev pub copy_end : ℕ → Result (List Update) (ShardError CopyError) → Result Event EngineError
copy_end table (Ok batch) = Ok (answers.Copied table batch)
copy_end table (Err errors.Memory) = Err faults.Memory
copy_end table (Err (errors.Cell copy_errors.Memory)) = Err faults.Memory
copy_end table (Err (errors.Cell copy_errors.Nothing)) = Ok (answers.Nothing table)
copy_end table (Err why) = Err faults.Strange

abbrev pub ack_end : ℕ → Result Settled (ShardError AckError) → Result Event EngineError
ack_end table (Ok settled) = Ok (answers.Settled table settled)
ack_end table (Err errors.Memory) = Err faults.Memory
ack_end table (Err (errors.Cell ack_errors.Memory)) = Err faults.Memory
ack_end table (Err (errors.Cell ack_errors.AckAhead)) = Ok (answers.Refused table)
ack_end table (Err why) = Err faults.Strange

abbrev pub close_end : Result (Unit {0}) (ShardError CloseError) → Result (Unit {0}) EngineError
close_end (Ok done) = Ok tt
close_end (Err errors.Memory) = Err faults.Memory
close_end (Err (errors.Cell close_errors.Memory)) = Err faults.Memory
close_end (Err why) = Err faults.Strange

abbrev pub open_end : Result (Unit {0}) (ShardError OpenError) → Result (Unit {0}) EngineError
open_end (Ok done) = Ok tt
open_end (Err errors.Memory) = Err faults.Memory
open_end (Err (errors.Cell open_errors.Memory)) = Err faults.Memory
open_end (Err why) = Err faults.Strange

-- a test that a batch is the latest one needs no memory
abbrev pub settle_end : Result (Unit {0}) (ShardError StrangeBatch) → Result (Unit {0}) EngineError
settle_end (Ok done) = Ok tt
settle_end (Err why) = Err faults.Strange

-- ---- why a turn ends with `Strange` at them

-- no lock is this table's
abbrev pub IsMissing : ShardsState → ℕ → Type 0
IsMissing shards table = list_any (λ c. id_of c == table) shards.cells ≡ false

-- the table is missing, and the seat stays as it was; or the call on it is refused, and the seat keeps that
abbrev pub IsBarred : ShardsState → ℕ → SeatState → SeatState → Type 0 → Type 0
IsBarred shards table s t refused = (IsMissing shards table × (t ≡ s)) ⊎ refused

-- the table `c` refuses to learn a row, though it lacks neither memory nor room
abbrev pub RefusesLearnOn : CellState → ℕ → ℕ → SeatState → Update → SeatState → Type 0
RefusesLearnOn c n now s u t =
    (answer : Result Reply (ShardError LearnError)) × (learn_end answer ≡ Err faults.Strange) × CallsLearnOn c n now s u answer t

-- some cell `c` refuses to learn it, at the moment `at c`
abbrev pub IsUnlearned : ShardsState → (CellState → ℕ) → ℕ → SeatState → Update → SeatState → Type 0
IsUnlearned shards at n s u t = IsBarred shards u.table s t ((c : CellState) × RefusesLearnOn c n (at c) s u t)

abbrev pub RefusesCopyOn : CellState → ℕ → ℕ → SeatState → ℕ → CopyKind → SeatState → Type 0
RefusesCopyOn c n now s table kind t =
    (answer : Result (List Update) (ShardError CopyError)) × (copy_end table answer ≡ Err faults.Strange) × CallsCopyOn c n now s table kind answer t

abbrev pub IsUncopied : ShardsState → (CellState → ℕ) → ℕ → SeatState → ℕ → CopyKind → SeatState → Type 0
IsUncopied shards at n s table kind t = IsBarred shards table s t ((c : CellState) × RefusesCopyOn c n (at c) s table kind t)

abbrev pub RefusesAck : ℕ → SeatState → ℕ → ℕ → SeatState → Type 0
RefusesAck n s table number t =
    (answer : Result Settled (ShardError AckError)) × (ack_end table answer ≡ Err faults.Strange) × CallsAck n s table number answer t

abbrev pub IsUntaken : ShardsState → ℕ → SeatState → ℕ → ℕ → SeatState → Type 0
IsUntaken shards n s table number t = IsBarred shards table s t (RefusesAck n s table number t)

abbrev pub RefusesClose : ℕ → SeatState → ℕ → SeatState → Type 0
RefusesClose n s table t =
    (answer : Result (Unit {0}) (ShardError CloseError)) × (close_end answer ≡ Err faults.Strange) × CallsClose n s table answer t

abbrev pub RefusesOpen : ℕ → Version → SeatState → ℕ → SeatState → Type 0
RefusesOpen n version s table t =
    (answer : Result (Unit {0}) (ShardError OpenError)) × (open_end answer ≡ Err faults.Strange) × CallsOpen n version s table answer t

-- the session isn't closed in the table; or it is, and isn't opened anew
abbrev pub IsUnopened : ShardsState → ℕ → Version → SeatState → ℕ → SeatState → Type 0
IsUnopened shards n version s table t =
    IsBarred shards table s t (RefusesClose n s table t)
    ⊎ ((mid : SeatState) × CallsClose n s table (Ok tt) mid × IsBarred shards table mid t (RefusesOpen n version mid table t))

abbrev pub RefusesBatch : ℕ → SeatState → List Update → ℕ → SeatState → Type 0
RefusesBatch n s batch table t =
    (answer : Result (Unit {0}) (ShardError StrangeBatch)) × (settle_end answer ≡ Err faults.Strange)
    × (c : CellState) × IsSoundTable c × (e : CellState)
    × Notes (λ mid. Looks (λ x r y. Settles x n batch r y) table c s answer e mid) table n (events_of c) (if_settled answer) t

-- the batch has no update, and so no table; or it isn't the session's latest one in the table of its first
abbrev pub IsUnsettled : ShardsState → ℕ → SeatState → List Update → SeatState → Type 0
IsUnsettled shards n s batch t =
    ((slice_get batch 0 ≡ None) × (t ≡ s))
    ⊎ ((u : Update) × (slice_get batch 0 ≡ Some u) × IsBarred shards u.table s t (RefusesBatch n s batch u.table t))
