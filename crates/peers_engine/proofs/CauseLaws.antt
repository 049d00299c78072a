-- What is `Strange` was refused by a table, and the seat keeps that.
use Rattle.std.proofs.Common.{◌≡◌, ◌⊎◌, ◌+◌, ◌%◌, ◌^◌, ◌∙◌, ℕ, List, Option, Some, Result, Ok, Err, arith, ap, inl, inr, refl}
use Rattle.std.specs.Prelude.{slice_get}
use Rattle.table_types.specs.declared.update.Update.{Update}
use Rattle.table_types.specs.declared.copies.CopyKind.{CopyKind}
use Rattle.table_types.specs.declared.version.Version.{Version}
use Rattle.table_cell.specs.Histories.{CellState, events_of}
use Rattle.table_cell.specs.declared.errors.AckError.{AckError}
use Rattle.table_cell.specs.declared.errors.AckError.TheVariants as ack_errors
use Rattle.table_cell.specs.declared.errors.CloseError.{CloseError}
use Rattle.table_cell.specs.declared.errors.CloseError.TheVariants as close_errors
use Rattle.table_cell.specs.declared.errors.CopyError.{CopyError}
use Rattle.table_cell.specs.declared.errors.CopyError.TheVariants as copy_errors
use Rattle.table_cell.specs.declared.errors.LearnError.{LearnError}
use Rattle.table_cell.specs.declared.errors.LearnError.TheVariants as learn_errors
use Rattle.table_cell.specs.declared.errors.OpenError.{OpenError}
use Rattle.table_cell.specs.declared.errors.OpenError.TheVariants as open_errors
use Rattle.table_cell.specs.declared.errors.StrangeBatch.{StrangeBatch}
use Rattle.table_shards.specs.declared.answers.Answer.{Answer}
use Rattle.table_shards.specs.declared.answers.Answer.TheVariants as answers
use Rattle.table_shards.specs.declared.answers.Answered.{Answered}
use Rattle.table_shards.specs.declared.errors.ShardError.{ShardError}
use Rattle.table_shards.specs.declared.errors.ShardError.TheVariants as errors
use Rattle.table_shards.specs.Receipts.{SeatState, with_answer}
use Rattle.table_shards.specs.Rounds.{ShardsState}
use Rattle.session_core.specs.declared.action.Action.{Action}
use Rattle.session_core.specs.declared.action.Action.TheVariants as actions
use Rattle.session_core.specs.Sessions.{SessionState}
use Rattle.peers_engine.specs.declared.errors.EngineError.{EngineError}
use Rattle.peers_engine.specs.declared.errors.EngineError.TheVariants as faults
use Rattle.peers_engine.specs.Calls.{CallsClose, IsBarred, IsMissing, RefusesAck, RefusesBatch, RefusesClose, RefusesCopyOn, RefusesLearnOn, RefusesOpen, most_copied, opened_with}
use Rattle.peers_engine.specs.Doing.{IsStrange, IsUnasked, KeepsRefusal}

-- ---- an answer that means `Strange`

no_ok : {A : Type 0} (a : A) → ◌≡◌ {A = Result A EngineError} (Ok a) (Err faults.Strange) → ⊥
no_ok a is = cc

no_memory : {A : Type 0} → ◌≡◌ {A = Result A EngineError} (Err faults.Memory) (Err faults.Strange) → ⊥
no_memory is = cc

-- what a seat keeps of a call on the table, for session `n`
abbrev said : ℕ → ℕ → ℕ → Answer → Answered
said table n events answer = record { table = table; session = n; events = events; answer = answer }

-- the seat keeps one more answer than `s`, and this is the latest one
abbrev pub Keeps : SeatState → Answered → SeatState → Type 0
Keeps s a t = (t.answers ≡ (s.answers + 1) % 2 ^ 64) × (t.latest ≡ Some a)

kept : (s mid t : SeatState) (a : Answered) → mid ≡ s → t ≡ with_answer mid a → Keeps s a t
kept s mid t a same is =
    (ap (λ (x : SeatState). x.answers) is ∙ ap (λ (x : SeatState). (x.answers + 1) % 2 ^ 64) same, ap (λ (x : SeatState). x.latest) is)

learn_keeps : (c : CellState) (at : CellState → ℕ) (n : ℕ) (x : SessionState) (s mid t : SeatState) (u : Update) (error : ShardError LearnError) → mid ≡ s
    → t ≡ with_answer mid (said u.table n (events_of c) (answers.Unlearned u.number (at c) error)) → KeepsRefusal at n x s (actions.Learn u) t
learn_keeps c at n x s mid t u error same is =
    let keeps = kept s mid t (said u.table n (events_of c) (answers.Unlearned u.number (at c) error)) same is in
    (said u.table n (events_of c) (answers.Unlearned u.number (at c) error), keeps.0, keeps.1, (c, error, (refl, refl, refl)))

learn_kept : (c : CellState) (at : CellState → ℕ) (n : ℕ) (x : SessionState) (s t : SeatState) (u : Update) → RefusesLearnOn c n (at c) s u t → KeepsRefusal at n x s (actions.Learn u) t
learn_kept c at n x s t u (Ok reply, is, calls) = absurd (no_ok _ is)
learn_kept c at n x s t u (Err (errors.Cell learn_errors.TableFull), is, calls) = absurd (no_ok _ is)
learn_kept c at n x s t u (Err errors.Memory, is, calls) = absurd (no_memory is)
learn_kept c at n x s t u (Err (errors.Cell learn_errors.Memory), is, calls) = absurd (no_memory is)
learn_kept c at n x s t u (Err errors.NoTable, is, (sound, e, (mid, holds, left))) = learn_keeps c at n x s mid t u errors.NoTable holds.2 left
learn_kept c at n x s t u (Err (errors.SeatAhead seen found), is, (sound, e, (mid, holds, left))) = learn_keeps c at n x s mid t u (errors.SeatAhead seen found) holds.3 left
learn_kept c at n x s t u (Err (errors.Cell learn_errors.NoSession), is, (sound, e, (mid, holds, left))) = learn_keeps c at n x s mid t u (errors.Cell learn_errors.NoSession) holds.2 left
learn_kept c at n x s t u (Err (errors.Cell learn_errors.Misfit), is, (sound, e, (mid, holds, left))) = learn_keeps c at n x s mid t u (errors.Cell learn_errors.Misfit) holds.2 left
learn_kept c at n x s t u (Err (errors.Cell learn_errors.MomentBack), is, (sound, e, (mid, holds, left))) = learn_keeps c at n x s mid t u (errors.Cell learn_errors.MomentBack) holds.2 left
learn_kept c at n x s t u (Err (errors.Cell learn_errors.HistoryFull), is, (sound, e, (mid, holds, left))) = learn_keeps c at n x s mid t u (errors.Cell learn_errors.HistoryFull) holds.2 left
learn_kept c at n x s t u (Err (errors.Cell learn_errors.Spent), is, (sound, e, (mid, holds, left))) = learn_keeps c at n x s mid t u (errors.Cell learn_errors.Spent) holds.2 left

copy_keeps : (c : CellState) (at : CellState → ℕ) (n : ℕ) (x : SessionState) (s mid t : SeatState) (table : ℕ) (kind : CopyKind) (error : ShardError CopyError) → mid ≡ s
    → t ≡ with_answer mid (said table n (events_of c) (answers.Uncopied kind most_copied (at c) error)) → KeepsRefusal at n x s (actions.Copy table kind) t
copy_keeps c at n x s mid t table kind error same is =
    let keeps = kept s mid t (said table n (events_of c) (answers.Uncopied kind most_copied (at c) error)) same is in
    (said table n (events_of c) (answers.Uncopied kind most_copied (at c) error), keeps.0, keeps.1, (c, error, (refl, refl, refl)))

copy_kept : (c : CellState) (at : CellState → ℕ) (n : ℕ) (x : SessionState) (s t : SeatState) (table : ℕ) (kind : CopyKind) → RefusesCopyOn c n (at c) s table kind t
    → KeepsRefusal at n x s (actions.Copy table kind) t
copy_kept c at n x s t table kind (Ok batch, is, calls) = absurd (no_ok _ is)
copy_kept c at n x s t table kind (Err (errors.Cell copy_errors.Nothing), is, calls) = absurd (no_ok _ is)
copy_kept c at n x s t table kind (Err errors.Memory, is, calls) = absurd (no_memory is)
copy_kept c at n x s t table kind (Err (errors.Cell copy_errors.Memory), is, calls) = absurd (no_memory is)
copy_kept c at n x s t table kind (Err errors.NoTable, is, (sound, e, (mid, holds, left))) = copy_keeps c at n x s mid t table kind errors.NoTable holds.2 left
copy_kept c at n x s t table kind (Err (errors.SeatAhead seen found), is, (sound, e, (mid, holds, left))) = copy_keeps c at n x s mid t table kind (errors.SeatAhead seen found) holds.3 left
copy_kept c at n x s t table kind (Err (errors.Cell copy_errors.NoSession), is, (sound, e, (mid, holds, left))) = copy_keeps c at n x s mid t table kind (errors.Cell copy_errors.NoSession) holds.2 left
copy_kept c at n x s t table kind (Err (errors.Cell copy_errors.MomentBack), is, (sound, e, (mid, holds, left))) = copy_keeps c at n x s mid t table kind (errors.Cell copy_errors.MomentBack) holds.2 left
copy_kept c at n x s t table kind (Err (errors.Cell copy_errors.BatchOut), is, (sound, e, (mid, holds, left))) = copy_keeps c at n x s mid t table kind (errors.Cell copy_errors.BatchOut) holds.2 left
copy_kept c at n x s t table kind (Err (errors.Cell copy_errors.HistoryFull), is, (sound, e, (mid, holds, left))) = copy_keeps c at n x s mid t table kind (errors.Cell copy_errors.HistoryFull) holds.2 left

ack_keeps : (c : CellState) (at : CellState → ℕ) (n : ℕ) (x : SessionState) (s mid t : SeatState) (table number : ℕ) (error : ShardError AckError) → mid ≡ s
    → t ≡ with_answer mid (said table n (events_of c) (answers.Untaken number error)) → KeepsRefusal at n x s (actions.Ack table number) t
ack_keeps c at n x s mid t table number error same is =
    let keeps = kept s mid t (said table n (events_of c) (answers.Untaken number error)) same is in
    (said table n (events_of c) (answers.Untaken number error), keeps.0, keeps.1, (error, (refl, refl, refl)))

ack_kept : (at : CellState → ℕ) (n : ℕ) (x : SessionState) (s t : SeatState) (table number : ℕ) → RefusesAck n s table number t → KeepsRefusal at n x s (actions.Ack table number) t
ack_kept at n x s t table number (Ok settled, is, calls) = absurd (no_ok _ is)
ack_kept at n x s t table number (Err (errors.Cell ack_errors.AckAhead), is, calls) = absurd (no_ok _ is)
ack_kept at n x s t table number (Err errors.Memory, is, calls) = absurd (no_memory is)
ack_kept at n x s t table number (Err (errors.Cell ack_errors.Memory), is, calls) = absurd (no_memory is)
ack_kept at n x s t table number (Err errors.NoTable, is, (c, sound, e, (mid, holds, left))) = ack_keeps c at n x s mid t table number errors.NoTable holds.2 left
ack_kept at n x s t table number (Err (errors.SeatAhead seen found), is, (c, sound, e, (mid, holds, left))) = ack_keeps c at n x s mid t table number (errors.SeatAhead seen found) holds.3 left
ack_kept at n x s t table number (Err (errors.Cell ack_errors.NoSession), is, (c, sound, e, (mid, holds, left))) = ack_keeps c at n x s mid t table number (errors.Cell ack_errors.NoSession) holds.2 left
ack_kept at n x s t table number (Err (errors.Cell ack_errors.HistoryFull), is, (c, sound, e, (mid, holds, left))) = ack_keeps c at n x s mid t table number (errors.Cell ack_errors.HistoryFull) holds.2 left

close_keeps : (c : CellState) (at : CellState → ℕ) (n : ℕ) (x : SessionState) (s mid t : SeatState) (table : ℕ) (error : ShardError CloseError) → mid ≡ s
    → t ≡ with_answer mid (said table n (events_of c) (answers.Unclosed error)) → KeepsRefusal at n x s (actions.Reopen table) t
close_keeps c at n x s mid t table error same is =
    let keeps = kept s mid t (said table n (events_of c) (answers.Unclosed error)) same is in
    (said table n (events_of c) (answers.Unclosed error), keeps.0, keeps.1, inl (error, (refl, refl, refl)))

close_kept : (at : CellState → ℕ) (n : ℕ) (x : SessionState) (s t : SeatState) (table : ℕ) → RefusesClose n s table t → KeepsRefusal at n x s (actions.Reopen table) t
close_kept at n x s t table (Ok done, is, calls) = absurd (no_ok _ is)
close_kept at n x s t table (Err errors.Memory, is, calls) = absurd (no_memory is)
close_kept at n x s t table (Err (errors.Cell close_errors.Memory), is, calls) = absurd (no_memory is)
close_kept at n x s t table (Err errors.NoTable, is, (c, sound, e, (mid, holds, left))) = close_keeps c at n x s mid t table errors.NoTable holds.2 left
close_kept at n x s t table (Err (errors.SeatAhead seen found), is, (c, sound, e, (mid, holds, left))) = close_keeps c at n x s mid t table (errors.SeatAhead seen found) holds.3 left
close_kept at n x s t table (Err (errors.Cell close_errors.NoSession), is, (c, sound, e, (mid, holds, left))) = close_keeps c at n x s mid t table (errors.Cell close_errors.NoSession) holds.2 left
close_kept at n x s t table (Err (errors.Cell close_errors.HistoryFull), is, (c, sound, e, (mid, holds, left))) = close_keeps c at n x s mid t table (errors.Cell close_errors.HistoryFull) holds.2 left

open_keeps : (c : CellState) (at : CellState → ℕ) (n : ℕ) (x : SessionState) (s mid t : SeatState) (table : ℕ) (error : ShardError OpenError) → mid ≡ s
    → t ≡ with_answer mid (said table n (events_of c) (answers.Unopened (opened_with x.version) error)) → KeepsRefusal at n x s (actions.Reopen table) t
open_keeps c at n x s mid t table error same is =
    let keeps = kept s mid t (said table n (events_of c) (answers.Unopened (opened_with x.version) error)) same is in
    (said table n (events_of c) (answers.Unopened (opened_with x.version) error), keeps.0, keeps.1, inr (error, (refl, refl, refl)))

open_kept : (at : CellState → ℕ) (n : ℕ) (x : SessionState) (s t : SeatState) (table : ℕ) → RefusesOpen n (opened_with x.version) s table t → KeepsRefusal at n x s (actions.Reopen table) t
open_kept at n x s t table (Ok done, is, calls) = absurd (no_ok _ is)
open_kept at n x s t table (Err errors.Memory, is, calls) = absurd (no_memory is)
open_kept at n x s t table (Err (errors.Cell open_errors.Memory), is, calls) = absurd (no_memory is)
open_kept at n x s t table (Err errors.NoTable, is, (c, sound, e, (mid, holds, left))) = open_keeps c at n x s mid t table errors.NoTable holds.2 left
open_kept at n x s t table (Err (errors.SeatAhead seen found), is, (c, sound, e, (mid, holds, left))) = open_keeps c at n x s mid t table (errors.SeatAhead seen found) holds.3 left
open_kept at n x s t table (Err (errors.Cell open_errors.AlreadyOpen), is, (c, sound, e, (mid, holds, left))) = open_keeps c at n x s mid t table (errors.Cell open_errors.AlreadyOpen) holds.2 left
open_kept at n x s t table (Err (errors.Cell open_errors.TooMany), is, (c, sound, e, (mid, holds, left))) = open_keeps c at n x s mid t table (errors.Cell open_errors.TooMany) holds.2 left
open_kept at n x s t table (Err (errors.Cell open_errors.HistoryFull), is, (c, sound, e, (mid, holds, left))) = open_keeps c at n x s mid t table (errors.Cell open_errors.HistoryFull) holds.2 left

batch_keeps : (c : CellState) (at : CellState → ℕ) (n : ℕ) (x : SessionState) (s mid t : SeatState) (batch : List Update) (u : Update) (error : ShardError StrangeBatch) → slice_get batch 0 ≡ Some u → mid ≡ s
    → t ≡ with_answer mid (said u.table n (events_of c) (answers.Unsettled error)) → KeepsRefusal at n x s (actions.Teach batch) t
batch_keeps c at n x s mid t batch u error first same is =
    let keeps = kept s mid t (said u.table n (events_of c) (answers.Unsettled error)) same is in
    (said u.table n (events_of c) (answers.Unsettled error), keeps.0, keeps.1, (u, first, error, (refl, refl, refl)))

batch_kept : (at : CellState → ℕ) (n : ℕ) (x : SessionState) (s t : SeatState) (batch : List Update) (u : Update) → slice_get batch 0 ≡ Some u → RefusesBatch n s batch u.table t
    → KeepsRefusal at n x s (actions.Teach batch) t
batch_kept at n x s t batch u first (Ok done, is, c, sound, e, notes) = absurd (no_ok _ is)
batch_kept at n x s t batch u first (Err errors.Memory, is, c, sound, e, (mid, looks, left)) = absurd looks
batch_kept at n x s t batch u first (Err errors.NoTable, is, c, sound, e, (mid, looks, left)) = batch_keeps c at n x s mid t batch u errors.NoTable first looks.2 left
batch_kept at n x s t batch u first (Err (errors.SeatAhead seen found), is, c, sound, e, (mid, looks, left)) =
    batch_keeps c at n x s mid t batch u (errors.SeatAhead seen found) first looks.3 left
batch_kept at n x s t batch u first (Err (errors.Cell strange), is, c, sound, e, (mid, looks, left)) =
    batch_keeps c at n x s mid t batch u (errors.Cell strange) first looks.2 left

-- ---- an action

barred_kept : {refused Q : Type 0} (shards : ShardsState) (table : ℕ) (s t : SeatState) → (refused → Q) → IsBarred shards table s t refused → IsMissing shards table ⊎ Q
barred_kept shards table s t keeps (inl missing) = inl missing.0
barred_kept shards table s t keeps (inr refuses) = inr (keeps refuses)

-- a close leaves no answer at the seat
closed_answers : (n : ℕ) (s t : SeatState) (table : ℕ) → CallsClose n s table (Ok tt) t → t.answers ≡ s.answers
closed_answers n s t table (c, sound, e, (mid, (may, made, is), left)) = ap (λ (x : SeatState). x.answers) (left ∙ is)

reopen_kept : (at : CellState → ℕ) (n : ℕ) (x : SessionState) (s mid t : SeatState) (table : ℕ) → CallsClose n s table (Ok tt) mid → KeepsRefusal at n x mid (actions.Reopen table) t
    → KeepsRefusal at n x s (actions.Reopen table) t
reopen_kept at n x s mid t table closed (a, counts, latest, refusal) =
    (a, counts ∙ ap (λ (k : ℕ). (k + 1) % 2 ^ 64) (closed_answers n s mid table closed), latest, refusal)

pub strange_kept : (shards : ShardsState) (at : CellState → ℕ) (n : ℕ) (x : SessionState) (s t : SeatState) (act : Action) → IsStrange shards at n x s act t → IsUnasked shards x act ⊎ KeepsRefusal at n x s act t
strange_kept shards at n x s t (actions.Learn u) strange = barred_kept shards u.table s t (λ refuses. learn_kept refuses.0 at n x s t u refuses.1) strange
strange_kept shards at n x s t (actions.Ack table number) strange = barred_kept shards table s t (λ refuses. ack_kept at n x s t table number refuses) strange
strange_kept shards at n x s t (actions.Reopen table) (inl barred) = barred_kept shards table s t (λ refuses. close_kept at n x s t table refuses) barred
strange_kept shards at n x s t (actions.Reopen table) (inr (mid, closed, barred)) =
    barred_kept shards table mid t (λ refuses. reopen_kept at n x s mid t table closed (open_kept at n x mid t table refuses)) barred
strange_kept shards at n x s t (actions.Copy table kind) strange = barred_kept shards table s t (λ refuses. copy_kept refuses.0 at n x s t table kind refuses.1) strange
strange_kept shards at n x s t (actions.Teach batch) (inl other) = inl (inl other.0)
strange_kept shards at n x s t (actions.Teach batch) (inr (inl none)) = inl (inr (inl none.0))
strange_kept shards at n x s t (actions.Teach batch) (inr (inr (u, first, inl missing))) = inl (inr (inr (u, first, missing.0)))
strange_kept shards at n x s t (actions.Teach batch) (inr (inr (u, first, inr refuses))) = inr (batch_kept at n x s t batch u first refuses)
strange_kept shards at n x s t (actions.Send bytes) strange = absurd strange
strange_kept shards at n x s t (actions.Part kind) strange = absurd strange
strange_kept shards at n x s t actions.Close strange = absurd strange

pub strange_changed : (shards : ShardsState) (at : CellState → ℕ) (n : ℕ) (x : SessionState) (s : SeatState) (act : Action) → IsStrange shards at n x s act s → IsUnasked shards x act
strange_changed shards at n x s act strange = by (strange_kept shards at n x s s act strange)
  where
    by : IsUnasked shards x act ⊎ KeepsRefusal at n x s act s → IsUnasked shards x act
    by (inl unasked) = unasked
    by (inr (a, counts, latest, refusal)) = let never : ⊥ = omega (arith, counts) in absurd never
