-- What a call of the module `noted` leaves at the seat if it makes no event (profile).
use Rattle.std.specs.Prelude.{◌≡◌, ℕ, List, Option, Some, None, Result, Ok, Err}
use Rattle.table_types.specs.declared.copies.CopyKind.{CopyKind}
use Rattle.table_types.specs.declared.copies.Settled.{Settled}
use Rattle.table_types.specs.declared.update.Update.{Update}
use Rattle.table_types.specs.declared.version.Version.{Version}
use Rattle.table_cell.specs.declared.errors.AckError.{AckError}
use Rattle.table_cell.specs.declared.errors.AckError.TheVariants as acks
use Rattle.table_cell.specs.declared.errors.CloseError.{CloseError}
use Rattle.table_cell.specs.declared.errors.CloseError.TheVariants as closes
use Rattle.table_cell.specs.declared.errors.CopyError.{CopyError}
use Rattle.table_cell.specs.declared.errors.CopyError.TheVariants as copies
use Rattle.table_cell.specs.declared.errors.LearnError.{LearnError}
use Rattle.table_cell.specs.declared.errors.LearnError.TheVariants as learns
use Rattle.table_cell.specs.declared.errors.OpenError.{OpenError}
use Rattle.table_cell.specs.declared.errors.OpenError.TheVariants as opens
use Rattle.table_cell.specs.declared.errors.StrangeBatch.{StrangeBatch}
use Rattle.table_shards.specs.declared.answers.Answer.{Answer}
use Rattle.table_shards.specs.declared.answers.Answer.TheVariants as answers
use Rattle.table_shards.specs.declared.errors.ShardError.{ShardError}
use Rattle.table_shards.specs.declared.errors.ShardError.TheVariants as errors
use Rattle.table_shards.specs.Receipts.{SeatState, with_answer}

-- the seat with the answer, if there is one, to a call of `session` on `table`, made when the cell had `events` events
abbrev pub noted : ℕ → ℕ → ℕ → Option Answer → SeatState → SeatState
noted table session events None s = s
noted table session events (Some answer) s = with_answer s (record { table = table; session = session; events = events; answer = answer })

-- A call (`call`: with which seat after it), whose answer the seat then keeps, if there is one.
abbrev pub Notes : (SeatState → Type 0) → ℕ → ℕ → ℕ → Option Answer → SeatState → Type 0
Notes call table session events answer t = (mid : SeatState) × call mid × (t ≡ noted table session events answer mid)

-- The answer to a call that makes no event: what was asked, and the error. There is none if memory ran out. That a batch is the
-- session's latest one is an answer too.
abbrev pub if_unlearned : {A : Type 0} → ℕ → ℕ → Result A (ShardError LearnError) → Option Answer
if_unlearned number now (Ok done) = None
if_unlearned number now (Err errors.Memory) = None
if_unlearned number now (Err (errors.Cell learns.Memory)) = None
if_unlearned number now (Err error) = Some (answers.Unlearned number now error)

abbrev pub if_uncopied : CopyKind → ℕ → ℕ → Result (List Update) (ShardError CopyError) → Option Answer
if_uncopied kind limit now (Ok batch) = None
if_uncopied kind limit now (Err errors.Memory) = None
if_uncopied kind limit now (Err (errors.Cell copies.Memory)) = None
if_uncopied kind limit now (Err error) = Some (answers.Uncopied kind limit now error)

abbrev pub if_untaken : ℕ → Result Settled (ShardError AckError) → Option Answer
if_untaken number (Ok settled) = None
if_untaken number (Err errors.Memory) = None
if_untaken number (Err (errors.Cell acks.Memory)) = None
if_untaken number (Err error) = Some (answers.Untaken number error)

abbrev pub if_settled : Result (Unit {0}) (ShardError StrangeBatch) → Option Answer
if_settled (Ok done) = Some answers.Latest
if_settled (Err errors.Memory) = None
if_settled (Err error) = Some (answers.Unsettled error)

abbrev pub if_unopened : Version → Result (Unit {0}) (ShardError OpenError) → Option Answer
if_unopened version (Ok done) = None
if_unopened version (Err errors.Memory) = None
if_unopened version (Err (errors.Cell opens.Memory)) = None
if_unopened version (Err error) = Some (answers.Unopened version error)

abbrev pub if_unclosed : Result (Unit {0}) (ShardError CloseError) → Option Answer
if_unclosed (Ok done) = None
if_unclosed (Err errors.Memory) = None
if_unclosed (Err (errors.Cell closes.Memory)) = None
if_unclosed (Err error) = Some (answers.Unclosed error)
