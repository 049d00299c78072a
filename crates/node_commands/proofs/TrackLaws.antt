-- One track after another.
use Rattle.std.proofs.Common.{◌≡◌, ◌∙◌, ◌+◌, ◌<◌, ◌≤◌, ℕ, List, [], ◌∷◌, ◌++◌, Ok, Result, true, false, arith, inl, inr, length, refl, sym, ap, subst, append-nil, append_assoc, length-append}
use Rattle.std.specs.List.{AllByRecursion}
use Rattle.table_types.specs.declared.change.Change.TheVariants as changes
use Rattle.table_types.specs.declared.copies.CopyKind.{CopyKind}
use Rattle.table_types.specs.declared.data_type.DataType.TheVariants as types
use Rattle.table_types.specs.declared.key.Key.TheVariants as keys
use Rattle.table_types.specs.declared.update.Update.{Update}
use Rattle.table_cell.specs.Histories.{CellState, events_of}
use Rattle.table_cell.specs.declared.events.CellEvent.{CellEvent}
use Rattle.table_cell.specs.declared.events.CellEvent.TheVariants as events
use Rattle.table_cell.specs.declared.events.CellReply.{CellReply}
use Rattle.table_cell.specs.declared.events.CellReply.TheVariants as replies
use Rattle.table_shards.specs.declared.answers.Answered.{Answered}
use Rattle.table_shards.specs.Receipts.{ReceiptState, SeatState, receipts_of, with_answer}
use Rattle.table_shards.specs.declared.errors.ShardError.{ShardError}
use Rattle.table_shards.specs.Holding.{Holds, receipted}
use Rattle.session_core.specs.declared.event.Event.{Event}
use Rattle.peers_engine.specs.Calls.{IsCopied, IsSettled, IsTaken}
use Rattle.table_shards.proofs.PageLaws.{one_more}
use Rattle.table_shards.proofs.AllLaws.{all_both, all_end}
use Rattle.node_commands.specs.Tracks.{GainsTracks, GainsWork, HasDoneItsPart, IsTrack, is_work}

pub none_tracked : (key : ℕ) (s : SeatState) → GainsTracks key 0 s s
none_tracked key s = (refl, [], sym (append-nil (receipts_of 1 s)), refl, tt)

tracked_once : (key : ℕ) (s : SeatState) (c : CellState) (reply : CellReply)
    → GainsTracks key 1 s (receipted 1 c s (events.Track s.number (keys.Int key) (changes.Add types.Gpc0 1) 4294967296) reply)
tracked_once key s c reply =
    let r : ReceiptState = record { place = events_of c + 1; event = events.Track s.number (keys.Int key) (changes.Add types.Gpc0 1) 4294967296; reply = reply } in
    (refl, r ∷ [], one_more s 1 r, refl, (refl, tt))

pub one_tracked : (key now : ℕ) (s e : SeatState) (c : CellState) (reply : CellReply) → now ≡ 4294967296
    → e ≡ receipted 1 c s (events.Track s.number (keys.Int key) (changes.Add types.Gpc0 1) now) reply → GainsTracks key 1 s e
one_tracked key now s e c reply least is =
    subst (λ (x : SeatState). GainsTracks key 1 s x)
    (sym (is ∙ ap (λ (m : ℕ). receipted 1 c s (events.Track s.number (keys.Int key) (changes.Add types.Gpc0 1) m) reply) least))
    (tracked_once key s c reply)

pub one_more_tracked : (key n : ℕ) (s m e : SeatState) → GainsTracks key n s m → GainsTracks key 1 m e → GainsTracks key (n + 1) s e
one_more_tracked key n s m e (same, made, before, count, all) (again, more, after, one, last) = (
  again ∙ same,
  made ++ more,
  after ∙ (ap (λ (rs : List ReceiptState). rs ++ more) before ∙ append_assoc (receipts_of 1 s) made more),
  length-append made more ∙ (ap (λ (k : ℕ). k + length more) count ∙ ap (λ (k : ℕ). n + k) one),
  all_both (IsTrack s.number key) made more all (subst (λ (k : ℕ). AllByRecursion (IsTrack k key) more) same last),
)

-- a thread's seat that has tracked
pub tracked_part : (threads tracks : ℕ) (s e : SeatState) → s.number ≤ threads → receipts_of 1 s ≡ [] → GainsTracks s.number tracks s e → HasDoneItsPart threads tracks e
tracked_part threads tracks s e low none (same, made, after, count, all) =
    let own : receipts_of 1 e ≡ made = after ∙ ap (λ (rs : List ReceiptState). rs ++ made) none in
    let number : s.number ≡ e.number = sym same in (
      (λ within. (
        ap (λ (rs : List ReceiptState). length rs) own ∙ count,
        subst (λ (rs : List ReceiptState). AllByRecursion (IsTrack e.number e.number) rs) (sym own) (subst (λ (n : ℕ). AllByRecursion (IsTrack n n) made) number all),
      )),
      (λ above. absurd (omega (arith, low, same, above))),
    )

-- ---- the worker

pub none_worked : (s : SeatState) → GainsWork s s
none_worked s = (refl, [], sym (append-nil (receipts_of 1 s)), tt)

pub one_worked : (s : SeatState) (c : CellState) (event : CellEvent) (reply : CellReply) → is_work event ≡ true → GainsWork s (receipted 1 c s event reply)
one_worked s c event reply is =
    let r : ReceiptState = record { place = events_of c + 1; event = event; reply = reply } in
    (refl, r ∷ [], one_more s 1 r, (is, tt))

pub more_worked : (s m e : SeatState) → GainsWork s m → GainsWork m e → GainsWork s e
more_worked s m e (same, made, before, all) (again, more, after, last) = (
  again ∙ same,
  made ++ more,
  after ∙ (ap (λ (rs : List ReceiptState). rs ++ more) before ∙ append_assoc (receipts_of 1 s) made more),
  all_both (λ (r : ReceiptState). is_work r.event ≡ true) made more all last,
)

-- a seat that is no thread's, and has worked
pub worked_part : (threads tracks : ℕ) (s e : SeatState) → threads < s.number → receipts_of 1 s ≡ [] → GainsWork s e → HasDoneItsPart threads tracks e
worked_part threads tracks s e above none (same, made, after, all) =
    let own : receipts_of 1 e ≡ made = after ∙ ap (λ (rs : List ReceiptState). rs ++ made) none in (
      (λ within. absurd (omega (arith, above, same, within))),
      (λ over. subst (λ (rs : List ReceiptState). AllByRecursion (λ (r : ReceiptState). is_work r.event ≡ true) rs) (sym own) all),
    )

-- ---- calls of `held`

-- after a call of `held` that succeeds, the seat is as the call leaves it
pub held_ok : {A E : Type 0} (call : CellState → Result A E → CellState → Type 0) (left : A → SeatState) (table : ℕ) (c e : CellState) (s t : SeatState)
    (r : Result A (ShardError E)) (a : A) → r ≡ Ok a → Holds call left table c s r e t → t ≡ left a
held_ok {A = A} {E = E} call left table c e s t r a is holds = (subst (λ (x : Result A (ShardError E)). Holds call left table c s x e t) is holds).2

-- after a call of `held` that makes an event of the worker, the seat has gained it
pub held_worked : {A E : Type 0} (call : CellState → Result A E → CellState → Type 0) (event : CellEvent) (reply : A → CellReply) (c e : CellState) (s t : SeatState)
    (r : Result A (ShardError E)) (a : A) → is_work event ≡ true → r ≡ Ok a → Holds call (λ x. receipted 1 c s event (reply x)) 1 c s r e t → GainsWork s t
held_worked call event reply c e s t r a work is holds =
    subst (GainsWork s) (sym (held_ok call (λ x. receipted 1 c s event (reply x)) 1 c e s t r a is holds)) (one_worked s c event (reply a) work)

-- ---- calls of `peers_engine`

-- an answer without an event adds no receipt
pub answered : (s e : SeatState) (a : Answered) → e ≡ with_answer s a → GainsWork s e
answered s e a is = subst (GainsWork s) (sym is) (refl, [], sym (append-nil (receipts_of 1 s)), tt)

pub copied_worked : (now : ℕ) (s t : SeatState) (kind : CopyKind) (event : Event) → IsCopied false 1 now s 1 kind t event → GainsWork s t
copied_worked now s t kind event (c, at, is, inl (batch, same, (sound, e, (mid, (may, calls, receipt), left)))) =
    subst (GainsWork s) (sym (left ∙ receipt)) (one_worked s c (events.Copy 1 kind 512 at) (replies.Copy batch) refl)
copied_worked now s t kind event (c, at, is, inr (same, (sound, e, (mid, (may, calls, stays), left)))) = subst (λ (x : SeatState). GainsWork x t) stays (answered mid t _ left)

pub taken_worked : (s t : SeatState) (number : ℕ) (event : Event) → IsTaken 1 s 1 number t event → GainsWork s t
taken_worked s t number event (inl (settled, same, (c, sound, e, (mid, (may, calls, receipt), left)))) =
    subst (GainsWork s) (sym (left ∙ receipt)) (one_worked s c (events.Ack 1 number) (replies.Ack settled) refl)
taken_worked s t number event (inr (same, (c, sound, e, (mid, (may, calls, stays), left)))) = subst (λ (x : SeatState). GainsWork x t) stays (answered mid t _ left)

pub settled_worked : (s t : SeatState) (batch : List Update) → IsSettled 1 s batch t → GainsWork s t
settled_worked s t batch (u, first, c, sound, e, (mid, (may, calls, stays), left)) = subst (λ (x : SeatState). GainsWork x t) stays (answered mid t _ left)

-- ---- all seats

-- the seats of threads that have done their parts, and one more, which is no thread's and has worked
pub parts_done : (threads tracks : ℕ) (done seats : List SeatState) (s e : SeatState) → AllByRecursion (HasDoneItsPart threads tracks) done → threads < s.number → receipts_of 1 s ≡ [] → GainsWork s e → seats ≡ done ++ e ∷ []
    → AllByRecursion (HasDoneItsPart threads tracks) seats
parts_done threads tracks done seats s e all above none gains is =
    subst (AllByRecursion (HasDoneItsPart threads tracks)) (sym is) (all_end (HasDoneItsPart threads tracks) e done all (worked_part threads tracks s e above none gains))
