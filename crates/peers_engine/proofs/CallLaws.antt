-- What the calls on tables do, by their answers.
use Rattle.std.proofs.Common.{◌≡◌, ◌∙◌, ℕ, List, Option, None, Some, Result, Ok, Err, IfOk, IfErr, refl, sym, ap, subst, inl, inr}
use Rattle.std.specs.Prelude.{OnOk, slice_get}
use Rattle.table_types.specs.declared.update.Update.{Update}
use Rattle.table_types.specs.declared.copies.CopyKind.{CopyKind}
use Rattle.table_types.specs.declared.copies.Settled.{Settled}
use Rattle.table_types.specs.declared.version.Version.{Version}
use Rattle.table_cell.specs.Histories.{Acknowledges, CellState, Closes, Copies, Learns, Opens, events_of}
use Rattle.table_cell.specs.declared.errors.AckError.{AckError}
use Rattle.table_cell.specs.declared.errors.AckError.TheVariants as ack_errors
use Rattle.table_cell.specs.declared.errors.CloseError.{CloseError}
use Rattle.table_cell.specs.declared.errors.CloseError.TheVariants as close_errors
use Rattle.table_cell.specs.declared.errors.CopyError.{CopyError}
use Rattle.table_cell.specs.declared.errors.CopyError.TheVariants as copy_errors
use Rattle.table_cell.specs.declared.errors.LearnError.{LearnError}
use Rattle.table_cell.specs.declared.errors.LearnError.TheVariants as learn_errors
use Rattle.table_cell.specs.declared.errors.OpenError.{OpenError}
use Rattle.table_cell.specs.declared.errors.OpenError.TheVariants as open_errors
use Rattle.table_cell.specs.declared.errors.StrangeBatch.{StrangeBatch}
use Rattle.table_cell.specs.declared.events.CellEvent.TheVariants as events
use Rattle.table_cell.specs.declared.events.CellReply.TheVariants as replies
use Rattle.table_cell.specs.declared.events.Reply.{Reply}
use Rattle.table_shards.specs.declared.answers.Answer.{Answer}
use Rattle.table_shards.specs.declared.errors.ShardError.{ShardError}
use Rattle.table_shards.specs.declared.errors.ShardError.TheVariants as errors
use Rattle.table_shards.specs.Holding.{Holds, Leaves, Looks, Settles, receipted}
use Rattle.table_shards.specs.Noting.{Notes, if_settled, if_unclosed, if_uncopied, if_unlearned, if_unopened, if_untaken, noted}
use Rattle.table_shards.specs.Receipts.{SeatState}
use Rattle.session_core.specs.declared.event.Event.{Event}
use Rattle.peers_engine.specs.declared.errors.EngineError.{EngineError}
use Rattle.peers_engine.specs.declared.errors.EngineError.TheVariants as faults
use Rattle.peers_engine.specs.Calls.{CallsAck, CallsClose, CallsCopyOn, CallsOpen, IsCopiedOn, IsLearnedOn, IsSettled, IsSoundTable, IsTaken, RefusesAck, RefusesBatch, RefusesClose, RefusesCopyOn, RefusesLearnOn, RefusesOpen, ack_end, close_end, copy_end, learn_end, most_copied, open_end, settle_end}
use Rattle.peers_engine.specs.Doing.{IsRefusal}

-- ---- a refusal for a wider cause

pub refusal_weaker : {L M P Q : Type 0} (g : L → M) (f : P → Q) (error : EngineError) → IsRefusal L P error → IsRefusal M Q error
refusal_weaker g f faults.Memory refused = g refused
refusal_weaker g f faults.Strange refused = f refused
refusal_weaker g f faults.Read refused = absurd refused
refusal_weaker g f (faults.Write sent) refused = absurd refused
refusal_weaker g f (faults.Session why) refused = absurd refused

pub refused_weaker : {X L M P Q : Type 0} (result : Result X EngineError) (g : L → M) (f : P → Q) → IfErr result (IsRefusal L P) → IfErr result (IsRefusal M Q)
refused_weaker (Ok x) g f refused = tt
refused_weaker (Err error) g f refused = refusal_weaker g f error refused

-- ---- the seat's number

number_kept : (s t : SeatState) → t ≡ s → t.number ≡ s.number
number_kept s t same = ap (λ (x : SeatState). x.number) same

noted_number : (table session count : ℕ) (answer : Option Answer) (s : SeatState) → (noted table session count answer s).number ≡ s.number
noted_number table session count None s = refl
noted_number table session count (Some answer) s = refl

held_number : {A E : Type 0} (call : CellState → Result A E → CellState → Type 0) (kept : A → SeatState) (table : ℕ) (c e : CellState) (s t : SeatState) (r : Result A (ShardError E))
    → ((a : A) → (kept a).number ≡ s.number) → Holds call kept table c s r e t → t.number ≡ s.number
held_number call kept table c e s t (Ok a) keeps (may, made, is) = number_kept (kept a) t is ∙ keeps a
held_number call kept table c e s t (Err errors.NoTable) keeps (other, same, is) = number_kept s t is
held_number call kept table c e s t (Err (errors.SeatAhead seen found)) keeps (here, ahead, same, is) = number_kept s t is
held_number call kept table c e s t (Err errors.Memory) keeps (may, same, is) = number_kept s t is
held_number call kept table c e s t (Err (errors.Cell error)) keeps (may, made, is) = number_kept s t is

-- ---- learning

-- what is known after a call that ends with `result`: what it did, or why it is refused, and how it leaves the seat
abbrev pub HasLearned : CellState → ℕ → ℕ → SeatState → Update → SeatState → Result (Unit {0}) EngineError → Type 0
HasLearned c n now s u t result =
    OnOk result (IsLearnedOn c n now s u t) × IfErr result (IsRefusal (t ≡ s) (RefusesLearnOn c n now s u t))

abbrev NotesLearn : CellState → CellState → ℕ → ℕ → SeatState → Update → Result (Unit {0}) (ShardError LearnError) → SeatState → Type 0
NotesLearn c e n now s u r t =
    Notes (λ mid. Leaves (λ x r y. Learns x n u now r y) (events.Learn n u now) replies.Learn u.table c s r e mid) u.table n (events_of c) (if_unlearned u.number now r) t

learn_by : (n now : ℕ) (s t : SeatState) (u : Update) (c e : CellState) (r : Result (Unit {0}) (ShardError LearnError)) → IsSoundTable c → NotesLearn c e n now s u r t
    → HasLearned c n now s u t (learn_end r)
learn_by n now s t u c e (Ok done) sound (mid, (reply, holds), left) = (inl (reply, (sound, e, (mid, holds, left))), tt)
learn_by n now s t u c e (Err (errors.Cell learn_errors.TableFull)) sound (mid, holds, left) = (inr (sound, e, (mid, holds, left)), tt)
learn_by n now s t u c e (Err errors.Memory) sound (mid, holds, left) = (tt, left ∙ holds.2)
learn_by n now s t u c e (Err (errors.Cell learn_errors.Memory)) sound (mid, holds, left) = (tt, left ∙ holds.2)
learn_by n now s t u c e (Err errors.NoTable) sound (mid, holds, left) = (tt, (Err errors.NoTable, refl, (sound, e, (mid, holds, left))))
learn_by n now s t u c e (Err (errors.SeatAhead seen found)) sound (mid, holds, left) =
    (tt, (Err (errors.SeatAhead seen found), refl, (sound, e, (mid, holds, left))))
learn_by n now s t u c e (Err (errors.Cell learn_errors.NoSession)) sound (mid, holds, left) =
    (tt, (Err (errors.Cell learn_errors.NoSession), refl, (sound, e, (mid, holds, left))))
learn_by n now s t u c e (Err (errors.Cell learn_errors.Misfit)) sound (mid, holds, left) =
    (tt, (Err (errors.Cell learn_errors.Misfit), refl, (sound, e, (mid, holds, left))))
learn_by n now s t u c e (Err (errors.Cell learn_errors.MomentBack)) sound (mid, holds, left) =
    (tt, (Err (errors.Cell learn_errors.MomentBack), refl, (sound, e, (mid, holds, left))))
learn_by n now s t u c e (Err (errors.Cell learn_errors.HistoryFull)) sound (mid, holds, left) =
    (tt, (Err (errors.Cell learn_errors.HistoryFull), refl, (sound, e, (mid, holds, left))))
learn_by n now s t u c e (Err (errors.Cell learn_errors.Spent)) sound (mid, holds, left) =
    (tt, (Err (errors.Cell learn_errors.Spent), refl, (sound, e, (mid, holds, left))))

pub learn_ends : (n now : ℕ) (s t : SeatState) (u : Update) (c e : CellState) (r : Result (Unit {0}) (ShardError LearnError)) (result : Result (Unit {0}) EngineError)
    → result ≡ learn_end r → IsSoundTable c
    → Notes (λ mid. Leaves (λ x r y. Learns x n u now r y) (events.Learn n u now) replies.Learn u.table c s r e mid) u.table n (events_of c) (if_unlearned u.number now r) t
    → HasLearned c n now s u t result
learn_ends n now s t u c e r result is sound notes =
    subst (λ (x : Result (Unit {0}) EngineError). HasLearned c n now s u t x) (sym is) (learn_by n now s t u c e r sound notes)

pub learn_number : (n now : ℕ) (s t : SeatState) (u : Update) (c e : CellState) (r : Result (Unit {0}) (ShardError LearnError))
    → Notes (λ mid. Leaves (λ x r y. Learns x n u now r y) (events.Learn n u now) replies.Learn u.table c s r e mid) u.table n (events_of c) (if_unlearned u.number now r) t
    → t.number ≡ s.number
learn_number n now s t u c e (Ok done) (mid, (reply, holds), left) =
    number_kept mid t left
    ∙ held_number (λ x r y. Learns x n u now r y) (λ (a : Reply). receipted u.table c s (events.Learn n u now) (replies.Learn a)) u.table c e s mid (Ok reply) (λ a. refl) holds
learn_number n now s t u c e (Err why) (mid, holds, left) =
    number_kept (noted u.table n (events_of c) (if_unlearned {A = Unit {0}} u.number now (Err why)) mid) t left
    ∙ (noted_number u.table n (events_of c) (if_unlearned {A = Unit {0}} u.number now (Err why)) mid
    ∙ held_number (λ x r y. Learns x n u now r y) (λ (a : Reply). receipted u.table c s (events.Learn n u now) (replies.Learn a)) u.table c e s mid (Err why) (λ a. refl) holds)

-- ---- copying

abbrev pub HasCopied : CellState → ℕ → ℕ → SeatState → ℕ → CopyKind → SeatState → Result Event EngineError → Type 0
HasCopied c n now s table kind t result =
    IfOk result (IsCopiedOn c n now s table kind t) × IfErr result (IsRefusal (t ≡ s) (RefusesCopyOn c n now s table kind t))

copy_by : (n now : ℕ) (s t : SeatState) (table : ℕ) (kind : CopyKind) (c : CellState) (r : Result (List Update) (ShardError CopyError)) → CallsCopyOn c n now s table kind r t
    → HasCopied c n now s table kind t (copy_end table r)
copy_by n now s t table kind c (Ok batch) calls = (inl (batch, refl, calls), tt)
copy_by n now s t table kind c (Err (errors.Cell copy_errors.Nothing)) calls = (inr (refl, calls), tt)
copy_by n now s t table kind c (Err errors.Memory) (sound, e, (mid, holds, left)) = (tt, left ∙ holds.2)
copy_by n now s t table kind c (Err (errors.Cell copy_errors.Memory)) (sound, e, (mid, holds, left)) = (tt, left ∙ holds.2)
copy_by n now s t table kind c (Err errors.NoTable) (sound, e, (mid, holds, left)) = (tt, (Err errors.NoTable, refl, (sound, e, (mid, holds, left))))
copy_by n now s t table kind c (Err (errors.SeatAhead seen found)) (sound, e, (mid, holds, left)) =
    (tt, (Err (errors.SeatAhead seen found), refl, (sound, e, (mid, holds, left))))
copy_by n now s t table kind c (Err (errors.Cell copy_errors.NoSession)) (sound, e, (mid, holds, left)) =
    (tt, (Err (errors.Cell copy_errors.NoSession), refl, (sound, e, (mid, holds, left))))
copy_by n now s t table kind c (Err (errors.Cell copy_errors.MomentBack)) (sound, e, (mid, holds, left)) =
    (tt, (Err (errors.Cell copy_errors.MomentBack), refl, (sound, e, (mid, holds, left))))
copy_by n now s t table kind c (Err (errors.Cell copy_errors.BatchOut)) (sound, e, (mid, holds, left)) =
    (tt, (Err (errors.Cell copy_errors.BatchOut), refl, (sound, e, (mid, holds, left))))
copy_by n now s t table kind c (Err (errors.Cell copy_errors.HistoryFull)) (sound, e, (mid, holds, left)) =
    (tt, (Err (errors.Cell copy_errors.HistoryFull), refl, (sound, e, (mid, holds, left))))

pub copy_ends : (n now : ℕ) (s t : SeatState) (table : ℕ) (kind : CopyKind) (c : CellState) (r : Result (List Update) (ShardError CopyError)) (result : Result Event EngineError)
    → result ≡ copy_end table r → CallsCopyOn c n now s table kind r t → HasCopied c n now s table kind t result
copy_ends n now s t table kind c r result is calls =
    subst (λ (x : Result Event EngineError). HasCopied c n now s table kind t x) (sym is) (copy_by n now s t table kind c r calls)

pub copy_number : (n now : ℕ) (s t : SeatState) (table : ℕ) (kind : CopyKind) (c : CellState) (r : Result (List Update) (ShardError CopyError)) → CallsCopyOn c n now s table kind r t
    → t.number ≡ s.number
copy_number n now s t table kind c r (sound, e, (mid, holds, left)) =
    number_kept (noted table n (events_of c) (if_uncopied kind most_copied now r) mid) t left
    ∙ (noted_number table n (events_of c) (if_uncopied kind most_copied now r) mid
    ∙ held_number (λ x r y. Copies x n kind most_copied now r y) (λ (batch : List Update). receipted table c s (events.Copy n kind most_copied now) (replies.Copy batch)) table c e s mid r (λ a. refl) holds)

-- ---- acknowledging

abbrev pub HasTaken : ℕ → SeatState → ℕ → ℕ → SeatState → Result Event EngineError → Type 0
HasTaken n s table number t result =
    IfOk result (IsTaken n s table number t) × IfErr result (IsRefusal (t ≡ s) (RefusesAck n s table number t))

ack_by : (n : ℕ) (s t : SeatState) (table number : ℕ) (r : Result Settled (ShardError AckError)) → CallsAck n s table number r t → HasTaken n s table number t (ack_end table r)
ack_by n s t table number (Ok settled) calls = (inl (settled, refl, calls), tt)
ack_by n s t table number (Err (errors.Cell ack_errors.AckAhead)) calls = (inr (refl, calls), tt)
ack_by n s t table number (Err errors.Memory) (c, sound, e, (mid, holds, left)) = (tt, left ∙ holds.2)
ack_by n s t table number (Err (errors.Cell ack_errors.Memory)) (c, sound, e, (mid, holds, left)) = (tt, left ∙ holds.2)
ack_by n s t table number (Err errors.NoTable) (c, sound, e, (mid, holds, left)) = (tt, (Err errors.NoTable, refl, (c, sound, e, (mid, holds, left))))
ack_by n s t table number (Err (errors.SeatAhead seen found)) (c, sound, e, (mid, holds, left)) =
    (tt, (Err (errors.SeatAhead seen found), refl, (c, sound, e, (mid, holds, left))))
ack_by n s t table number (Err (errors.Cell ack_errors.NoSession)) (c, sound, e, (mid, holds, left)) =
    (tt, (Err (errors.Cell ack_errors.NoSession), refl, (c, sound, e, (mid, holds, left))))
ack_by n s t table number (Err (errors.Cell ack_errors.HistoryFull)) (c, sound, e, (mid, holds, left)) =
    (tt, (Err (errors.Cell ack_errors.HistoryFull), refl, (c, sound, e, (mid, holds, left))))

pub ack_ends : (n : ℕ) (s t : SeatState) (table number : ℕ) (r : Result Settled (ShardError AckError)) (result : Result Event EngineError)
    → result ≡ ack_end table r → CallsAck n s table number r t → HasTaken n s table number t result
ack_ends n s t table number r result is calls =
    subst (λ (x : Result Event EngineError). HasTaken n s table number t x) (sym is) (ack_by n s t table number r calls)

pub ack_number : (n : ℕ) (s t : SeatState) (table number : ℕ) (r : Result Settled (ShardError AckError)) → CallsAck n s table number r t → t.number ≡ s.number
ack_number n s t table number r (c, sound, e, (mid, holds, left)) =
    number_kept (noted table n (events_of c) (if_untaken number r) mid) t left
    ∙ (noted_number table n (events_of c) (if_untaken number r) mid
    ∙ held_number (λ x r y. Acknowledges x n number r y) (λ (settled : Settled). receipted table c s (events.Ack n number) (replies.Ack settled)) table c e s mid r (λ a. refl) holds)

-- ---- closing and opening

abbrev pub HasClosed : ℕ → SeatState → ℕ → SeatState → Result (Unit {0}) EngineError → Type 0
HasClosed n s table t result =
    OnOk result (CallsClose n s table (Ok tt) t) × IfErr result (IsRefusal (t ≡ s) (RefusesClose n s table t))

close_by : (n : ℕ) (s t : SeatState) (table : ℕ) (r : Result (Unit {0}) (ShardError CloseError)) → CallsClose n s table r t → HasClosed n s table t (close_end r)
close_by n s t table (Ok done) calls = (calls, tt)
close_by n s t table (Err errors.Memory) (c, sound, e, (mid, holds, left)) = (tt, left ∙ holds.2)
close_by n s t table (Err (errors.Cell close_errors.Memory)) (c, sound, e, (mid, holds, left)) = (tt, left ∙ holds.2)
close_by n s t table (Err errors.NoTable) (c, sound, e, (mid, holds, left)) = (tt, (Err errors.NoTable, refl, (c, sound, e, (mid, holds, left))))
close_by n s t table (Err (errors.SeatAhead seen found)) (c, sound, e, (mid, holds, left)) = (tt, (Err (errors.SeatAhead seen found), refl, (c, sound, e, (mid, holds, left))))
close_by n s t table (Err (errors.Cell close_errors.NoSession)) (c, sound, e, (mid, holds, left)) = (tt, (Err (errors.Cell close_errors.NoSession), refl, (c, sound, e, (mid, holds, left))))
close_by n s t table (Err (errors.Cell close_errors.HistoryFull)) (c, sound, e, (mid, holds, left)) = (tt, (Err (errors.Cell close_errors.HistoryFull), refl, (c, sound, e, (mid, holds, left))))

pub close_ends : (n : ℕ) (s t : SeatState) (table : ℕ) (r : Result (Unit {0}) (ShardError CloseError)) (result : Result (Unit {0}) EngineError)
    → result ≡ close_end r → CallsClose n s table r t → HasClosed n s table t result
close_ends n s t table r result is calls =
    subst (λ (x : Result (Unit {0}) EngineError). HasClosed n s table t x) (sym is) (close_by n s t table r calls)

abbrev pub HasOpened : ℕ → Version → SeatState → ℕ → SeatState → Result (Unit {0}) EngineError → Type 0
HasOpened n version s table t result =
    OnOk result (CallsOpen n version s table (Ok tt) t) × IfErr result (IsRefusal (t ≡ s) (RefusesOpen n version s table t))

open_by : (n : ℕ) (version : Version) (s t : SeatState) (table : ℕ) (r : Result (Unit {0}) (ShardError OpenError)) → CallsOpen n version s table r t → HasOpened n version s table t (open_end r)
open_by n version s t table (Ok done) calls = (calls, tt)
open_by n version s t table (Err errors.Memory) (c, sound, e, (mid, holds, left)) = (tt, left ∙ holds.2)
open_by n version s t table (Err (errors.Cell open_errors.Memory)) (c, sound, e, (mid, holds, left)) = (tt, left ∙ holds.2)
open_by n version s t table (Err errors.NoTable) (c, sound, e, (mid, holds, left)) = (tt, (Err errors.NoTable, refl, (c, sound, e, (mid, holds, left))))
open_by n version s t table (Err (errors.SeatAhead seen found)) (c, sound, e, (mid, holds, left)) = (tt, (Err (errors.SeatAhead seen found), refl, (c, sound, e, (mid, holds, left))))
open_by n version s t table (Err (errors.Cell open_errors.AlreadyOpen)) (c, sound, e, (mid, holds, left)) =
    (tt, (Err (errors.Cell open_errors.AlreadyOpen), refl, (c, sound, e, (mid, holds, left))))
open_by n version s t table (Err (errors.Cell open_errors.TooMany)) (c, sound, e, (mid, holds, left)) = (tt, (Err (errors.Cell open_errors.TooMany), refl, (c, sound, e, (mid, holds, left))))
open_by n version s t table (Err (errors.Cell open_errors.HistoryFull)) (c, sound, e, (mid, holds, left)) =
    (tt, (Err (errors.Cell open_errors.HistoryFull), refl, (c, sound, e, (mid, holds, left))))

pub open_ends : (n : ℕ) (version : Version) (s t : SeatState) (table : ℕ) (r : Result (Unit {0}) (ShardError OpenError)) (result : Result (Unit {0}) EngineError)
    → result ≡ open_end r → CallsOpen n version s table r t → HasOpened n version s table t result
open_ends n version s t table r result is calls =
    subst (λ (x : Result (Unit {0}) EngineError). HasOpened n version s table t x) (sym is) (open_by n version s t table r calls)

pub close_number : (n : ℕ) (s t : SeatState) (table : ℕ) (r : Result (Unit {0}) (ShardError CloseError)) → CallsClose n s table r t → t.number ≡ s.number
close_number n s t table r (c, sound, e, (mid, holds, left)) =
    number_kept (noted table n (events_of c) (if_unclosed r) mid) t left
    ∙ (noted_number table n (events_of c) (if_unclosed r) mid
    ∙ held_number (λ x r y. Closes x n r y) (λ (done : Unit {0}). receipted table c s (events.Close n) replies.Close) table c e s mid r (λ a. refl) holds)

pub open_number : (n : ℕ) (version : Version) (s t : SeatState) (table : ℕ) (r : Result (Unit {0}) (ShardError OpenError)) → CallsOpen n version s table r t → t.number ≡ s.number
open_number n version s t table r (c, sound, e, (mid, holds, left)) =
    number_kept (noted table n (events_of c) (if_unopened version r) mid) t left
    ∙ (noted_number table n (events_of c) (if_unopened version r) mid
    ∙ held_number (λ x r y. Opens x n version r y) (λ (done : Unit {0}). receipted table c s (events.Open n version) replies.Open) table c e s mid r (λ a. refl) holds)

-- ---- settling

abbrev pub HasSettled : ℕ → SeatState → List Update → ℕ → SeatState → Result (Unit {0}) EngineError → Type 0
HasSettled n s batch table t result =
    OnOk result (IsSettled n s batch t) × IfErr result (IsRefusal (t ≡ s) (RefusesBatch n s batch table t))

abbrev pub NotesSettle : CellState → CellState → ℕ → SeatState → List Update → ℕ → Result (Unit {0}) (ShardError StrangeBatch) → SeatState → Type 0
NotesSettle c e n s batch table r t = Notes (λ mid. Looks (λ x r y. Settles x n batch r y) table c s r e mid) table n (events_of c) (if_settled r) t

settle_by : (n : ℕ) (s t : SeatState) (batch : List Update) (u : Update) (c e : CellState) (r : Result (Unit {0}) (ShardError StrangeBatch)) → slice_get batch 0 ≡ Some u
    → IsSoundTable c → NotesSettle c e n s batch u.table r t → HasSettled n s batch u.table t (settle_end r)
settle_by n s t batch u c e (Ok done) first sound (mid, looks, left) = ((u, first, c, sound, e, (mid, looks, left)), tt)
settle_by n s t batch u c e (Err errors.Memory) first sound (mid, looks, left) = absurd looks
settle_by n s t batch u c e (Err errors.NoTable) first sound (mid, looks, left) = (tt, (Err errors.NoTable, refl, c, sound, e, (mid, looks, left)))
settle_by n s t batch u c e (Err (errors.SeatAhead seen found)) first sound (mid, looks, left) =
    (tt, (Err (errors.SeatAhead seen found), refl, c, sound, e, (mid, looks, left)))
settle_by n s t batch u c e (Err (errors.Cell strange)) first sound (mid, looks, left) =
    (tt, (Err (errors.Cell strange), refl, c, sound, e, (mid, looks, left)))

pub settle_ends : (n : ℕ) (s t : SeatState) (batch : List Update) (u : Update) (c e : CellState) (r : Result (Unit {0}) (ShardError StrangeBatch)) (result : Result (Unit {0}) EngineError)
    → result ≡ settle_end r → slice_get batch 0 ≡ Some u → IsSoundTable c → NotesSettle c e n s batch u.table r t → HasSettled n s batch u.table t result
settle_ends n s t batch u c e r result is first sound notes =
    subst (λ (x : Result (Unit {0}) EngineError). HasSettled n s batch u.table t x) (sym is) (settle_by n s t batch u c e r first sound notes)

looks_number : (call : CellState → Result (Unit {0}) StrangeBatch → CellState → Type 0) (table : ℕ) (c e : CellState) (s t : SeatState) (r : Result (Unit {0}) (ShardError StrangeBatch))
    → Looks call table c s r e t → t.number ≡ s.number
looks_number call table c e s t (Ok done) (may, made, is) = number_kept s t is
looks_number call table c e s t (Err errors.NoTable) (other, same, is) = number_kept s t is
looks_number call table c e s t (Err (errors.SeatAhead seen found)) (here, ahead, same, is) = number_kept s t is
looks_number call table c e s t (Err errors.Memory) looks = absurd looks
looks_number call table c e s t (Err (errors.Cell error)) (may, made, is) = number_kept s t is

pub settle_number : (n : ℕ) (s t : SeatState) (batch : List Update) (table : ℕ) (c e : CellState) (r : Result (Unit {0}) (ShardError StrangeBatch)) → NotesSettle c e n s batch table r t
    → t.number ≡ s.number
settle_number n s t batch table c e r (mid, looks, left) =
    number_kept (noted table n (events_of c) (if_settled r) mid) t left
    ∙ (noted_number table n (events_of c) (if_settled r) mid ∙ looks_number (λ x r y. Settles x n batch r y) table c e s mid r looks)
