-- An event extends a table with its history.
use Rattle.std.proofs.Common.{◌≡◌, ℕ, ◌+◌, ◌-◌, ◌^◌, true, false, List, [], ◌∷◌, ◌++◌, length, Option, Some, None, refl, sym, ap, subst, ◌∙◌, arith, inl, inr, true≢false, ltb-true}
use Rattle.std.specs.Prelude.{Err, slice_get, option_and_then, cond, nat_eq, nat_lt, min, if◌then◌else◌}
use Rattle.std.proofs.Math.Seq.{drop-append_seam}
use Rattle.std.proofs.lemmas.List.{append_assoc, length-append}
use Rattle.std.specs.Ordering.{is_eq, nat_cmp}
use Rattle.std.specs.Cmp.{nat_cmp_is}
use Rattle.std.specs.declared.cmp.Ordering.{Ordering}
use Rattle.std.specs.declared.cmp.Ordering.TheVariants.{Less, Equal, Greater}
use Rattle.std.proofs.lemmas.Map.Lookups.{exact_unsigned}
use Rattle.std.specs.Map.{lookup}
use Rattle.std.specs.BTreeMap.{is_at}
use Rattle.std.proofs.lemmas.Bool.{cases_Bool, cond-true, cond-false, cases_eq, eq-eqb, ne_eqb}
use Rattle.table_types.specs.declared.update.Update.{Update}
use Rattle.table_types.specs.declared.copies.CopyKind.{CopyKind}
use Rattle.table_cell.specs.declared.errors.LearnError.{LearnError}
use Rattle.table_cell.specs.declared.errors.LearnError.TheVariants as unlearned
use Rattle.table_cell.specs.declared.events.CellEvent.{CellEvent}
use Rattle.table_cell.specs.declared.events.CellEvent.TheVariants as events
use Rattle.table_cell.specs.declared.events.CellReply.{CellReply}
use Rattle.table_cell.specs.declared.events.CellReply.TheVariants as replies
use Rattle.table_cell.specs.Machine.{TableState, Step, learn_refusal}
use Rattle.table_cell.specs.Histories.{CellState, Learns, Made, batch_in, batch_of, event_in, events_of, held_batch, is_history_full, kept_batch, kept_events, latest_batch, or_former, room_of}
use Rattle.table_cell.specs.Soundness.{IsTimely}
use Rattle.table_cell.specs.Cells.{AreLatestCopies, IsCell, IsLatestCopy, OriginState, cell_of, latest_of}
use Rattle.table_stock.proofs.BlockLaws.{get_after}
use Rattle.table_cell.proofs.RefusalLaws.{memory_is_no_learn_refusal}
use Rattle.table_stock.proofs.RowsLaws.{some_none}
use Rattle.table_cell.proofs.RunLaws.{made_sound}

-- ---- one more event

pub is_made : (o : OriginState) (s e : TableState) (history later : List (CellEvent × CellReply)) (event : CellEvent) (reply : CellReply)
    → Step s event reply e → later ≡ history ++ (event, reply) ∷ []
    → Made (cell_of o history s) event reply (cell_of o later e)
is_made o s e history later event reply step longer = (
  step,
  ap (λ (hs : List (CellEvent × CellReply)). record { base = o.base; dropped = o.dropped; history = hs; state = e; slid = length o.past; held = o.held; renewals = o.renewals })
      (ap (λ (hs : List (CellEvent × CellReply)). o.past ++ hs) longer ∙ sym (append_assoc o.past history ((event, reply) ∷ []))),
)

-- what a call leaves that adds an event
pub call_made : (o : OriginState) (s e : TableState) (history later : List (CellEvent × CellReply)) (c : CellState) (event : CellEvent) (reply : CellReply)
    → cell_of o history s ≡ c → is_history_full c ≡ false
    → Step s event reply e → later ≡ history ++ (event, reply) ∷ [] → (is_history_full c ≡ false) × Made c event reply (cell_of o later e)
call_made o s e history later c event reply view room step longer =
    (room, subst (λ (x : CellState). Made x event reply (cell_of o later e)) view (is_made o s e history later event reply step longer))

-- ---- the latest batches

pub is_same : (a b : ℕ) → is_eq (nat_cmp a b) ≡ true → a ≡ b
is_same a b tied = exact_unsigned a b (tied_equal (nat_cmp a b) tied)
  where
    tied_equal : (o : Ordering) → is_eq o ≡ true → o ≡ Equal
    tied_equal Equal is = refl
    tied_equal Less is = absurd (true≢false (sym is))
    tied_equal Greater is = absurd (true≢false (sym is))

is_other : (session k limit now : ℕ) (kind : CopyKind) (us : List Update) → is_eq (nat_cmp session k) ≡ false → batch_of k (events.Copy session kind limit now, replies.Copy us) ≡ None
is_other session k limit now kind us other = elim (cases_eq session k) [
  | inl same ↦ absurd (true≢false (sym (ap is_eq (cmp_of_equal session k same)) ∙ other))
  | inr differs ↦ cond-false (nat_eq session k) (Some us) None (ne_eqb session k differs)
]
  where
    cmp_of_equal : (a b : ℕ) → a ≡ b → nat_cmp a b ≡ Equal
    cmp_of_equal a b same = sym (nat_cmp_is a b Equal same)

pub none_former : (o : Option (List Update)) → or_former None o ≡ o
none_former None = refl
none_former (Some us) = refl

pub former_twice : (a b c : Option (List Update)) → or_former a (or_former b c) ≡ or_former (or_former a b) c
former_twice a b None = refl
former_twice a b (Some us) = refl

latest_end : (session : ℕ) (x : CellEvent × CellReply) (hs : List (CellEvent × CellReply)) → latest_batch session (hs ++ x ∷ []) ≡ or_former (latest_batch session hs) (batch_of session x)
latest_end session x [] = sym (none_former (batch_of session x))
latest_end session x (h ∷ hs) =
    ap (or_former (batch_of session h)) (latest_end session x hs) ∙ former_twice (batch_of session h) (latest_batch session hs) (batch_of session x)

pub then_some : {A B : Type 0} (f : A → Option B) (o : Option A) (b : B) → option_and_then f o ≡ Some b → (a : A) × (o ≡ Some a) × (f a ≡ Some b)
then_some f None b is = absurd (some_none b (sym is))
then_some f (Some a) b is = (a, refl, is)

of_end : (session : ℕ) (x : CellEvent × CellReply) (held : List (ℕ × (CellEvent × CellReply))) (hs : List (CellEvent × CellReply)) → latest_of session held (hs ++ x ∷ []) ≡ or_former (latest_of session held hs) (batch_of session x)
of_end session x held hs = ap (or_former (held_batch session held)) (latest_end session x hs) ∙ former_twice (held_batch session held) (latest_batch session hs) (batch_of session x)

still_latest : (session : ℕ) (x : CellEvent × CellReply) (held : List (ℕ × (CellEvent × CellReply))) (hs : List (CellEvent × CellReply)) (o : Option (CellEvent × CellReply)) → batch_of session x ≡ None
    → IsLatestCopy held hs session o → IsLatestCopy held (hs ++ x ∷ []) session o
still_latest session x held hs None none latest = of_end session x held hs ∙ ap (or_former (latest_of session held hs)) none ∙ latest
still_latest session x held hs (Some copy) none (us, latest, is) = (us, of_end session x held hs ∙ ap (or_former (latest_of session held hs)) none ∙ latest, is)

pub latest_stay : (x : CellEvent × CellReply) (held : List (ℕ × (CellEvent × CellReply))) (hs later : List (CellEvent × CellReply)) (copies : List (ℕ × (CellEvent × CellReply))) → ((session : ℕ) → batch_of session x ≡ None)
    → later ≡ hs ++ x ∷ [] → AreLatestCopies copies held hs → AreLatestCopies copies held later
latest_stay x held hs later copies none longer latest =
    λ session. subst (λ (l : List (CellEvent × CellReply)). IsLatestCopy held l session (lookup (is_at (nat_cmp session)) copies)) (sym longer)
    (still_latest session x held hs (lookup (is_at (nat_cmp session)) copies) (none session) (latest session))

-- the copies for other sessions stay, and that for the session is its new one
pub latest_copied : (session limit now : ℕ) (kind : CopyKind) (us : List Update) (held : List (ℕ × (CellEvent × CellReply))) (hs later : List (CellEvent × CellReply)) (old new : List (ℕ × (CellEvent × CellReply)))
    → later ≡ hs ++ (events.Copy session kind limit now, replies.Copy us) ∷ []
    → ((k : ℕ) → lookup (is_at (nat_cmp k)) new ≡ cond (is_eq (nat_cmp session k)) (Some (events.Copy session kind limit now, replies.Copy us)) (lookup (is_at (nat_cmp k)) old))
    → AreLatestCopies old held hs → AreLatestCopies new held later
latest_copied session limit now kind us held hs later old new longer updates latest =
    λ k. subst (λ (l : List (CellEvent × CellReply)). IsLatestCopy held l k (lookup (is_at (nat_cmp k)) new)) (sym longer)
    (subst (IsLatestCopy held (hs ++ x ∷ []) k) (sym (updates k)) (each k))
  where
    x : CellEvent × CellReply
    x = (events.Copy session kind limit now, replies.Copy us)

    own : batch_of session x ≡ Some us
    own = cond-true (nat_eq session session) (Some us) None (eq-eqb session session refl)

    here : IsLatestCopy held (hs ++ x ∷ []) session (Some x)
    here = (us, of_end session x held hs ∙ ap (or_former (latest_of session held hs)) own, refl)

    each : (k : ℕ) → IsLatestCopy held (hs ++ x ∷ []) k (cond (is_eq (nat_cmp session k)) (Some x) (lookup (is_at (nat_cmp k)) old))
    each k = elim (cases_Bool (is_eq (nat_cmp session k))) [
      | inl tied ↦
          let same : session ≡ k = is_same session k tied in
          subst (IsLatestCopy held (hs ++ x ∷ []) k) (sym (cond-true (is_eq (nat_cmp session k)) (Some x) (lookup (is_at (nat_cmp k)) old) tied))
          (subst (λ (q : ℕ). IsLatestCopy held (hs ++ x ∷ []) q (Some x)) same here)
      | inr other ↦
          subst (IsLatestCopy held (hs ++ x ∷ []) k) (sym (cond-false (is_eq (nat_cmp session k)) (Some x) (lookup (is_at (nat_cmp k)) old) other))
          (still_latest k x held hs (lookup (is_at (nat_cmp k)) old) (is_other session k limit now kind us other) (latest k))
    ]

-- ---- the cell

pub cell_goes_on : (o : OriginState) (s e : TableState) (history later : List (CellEvent × CellReply)) (copies : List (ℕ × (CellEvent × CellReply))) (event : CellEvent) (reply : CellReply)
    → IsTimely event → ((session : ℕ) → batch_of session (event, reply) ≡ None) → is_history_full (cell_of o history s) ≡ false
    → Step s event reply e → later ≡ history ++ (event, reply) ∷ [] → IsCell o history s copies → IsCell o later e copies
cell_goes_on o s e history later copies event reply timely none room step longer cell =
    record {
      sound = made_sound (cell_of o history s) (cell_of o later e) event reply timely room cell.sound (is_made o s e history later event reply step longer);
      latest = latest_stay (event, reply) o.held history later copies none longer cell.latest;
    }

-- the batch of the latest copy
pub copied_is : (session : ℕ) (held : List (ℕ × (CellEvent × CellReply))) (hs : List (CellEvent × CellReply)) (o : Option (CellEvent × CellReply)) → IsLatestCopy held hs session o
    → option_and_then (λ h. batch_in h.1) o ≡ latest_of session held hs
copied_is session held hs None latest = sym latest
copied_is session held hs (Some copy) (us, latest, is) = is ∙ sym latest

-- ---- what stands before the events that a table has

pub kept_is : (o : OriginState) (hs : List (CellEvent × CellReply)) (s : TableState) → kept_events (cell_of o hs s) ≡ hs
kept_is o hs s = drop-append_seam o.past hs

pub batch_is : (session : ℕ) (o : OriginState) (hs : List (CellEvent × CellReply)) (s : TableState) → kept_batch session (cell_of o hs s) ≡ latest_of session o.held hs
batch_is session o hs s = ap (λ (l : List (CellEvent × CellReply)). latest_of session o.held l) (kept_is o hs s)

pub events_are : (o : OriginState) (hs : List (CellEvent × CellReply)) (s : TableState) → events_of (cell_of o hs s) ≡ o.dropped + length o.past + length hs
events_are o hs s = omega (arith, length-append o.past hs)

pub room_is : (o : OriginState) (hs : List (CellEvent × CellReply)) (s : TableState) → room_of (cell_of o hs s) ≡ min (1000000 - length hs) (2 ^ 63 - (o.dropped + length o.past + length hs))
room_is o hs s =
    let left : 1000000 + length o.past - length (o.past ++ hs) ≡ 1000000 - length hs = omega (arith, length-append o.past hs) in
    let ever : 2 ^ 63 - (o.dropped + length (o.past ++ hs)) ≡ 2 ^ 63 - (o.dropped + length o.past + length hs) = ap (λ (n : ℕ). 2 ^ 63 - n) (events_are o hs s) in
    ap (λ (n : ℕ). min n (2 ^ 63 - (o.dropped + length (o.past ++ hs)))) left ∙ ap (min (1000000 - length hs)) ever

pub event_is : (o : OriginState) (hs : List (CellEvent × CellReply)) (s : TableState) (place : ℕ)
    → event_in (cell_of o hs s) place ≡ (if nat_lt (o.dropped + length o.past) place then slice_get hs (place - (o.dropped + length o.past + 1)) else None)
event_is o hs s place = elim (cases_Bool (nat_lt (o.dropped + length o.past) place)) [
  | inl later ↦
      let above = ltb-true (o.dropped + length o.past) place later in
      let index : place - (o.dropped + 1) ≡ length o.past + (place - (o.dropped + length o.past + 1)) = omega (arith, above) in
      cond-true (nat_lt (o.dropped + length o.past) place) (slice_get (o.past ++ hs) (place - (o.dropped + 1))) None later
      ∙ ap (slice_get (o.past ++ hs)) index
      ∙ get_after o.past hs (place - (o.dropped + length o.past + 1))
      ∙ sym (cond-true (nat_lt (o.dropped + length o.past) place) (slice_get hs (place - (o.dropped + length o.past + 1))) None later)
  | inr gone ↦
      cond-false (nat_lt (o.dropped + length o.past) place) (slice_get (o.past ++ hs) (place - (o.dropped + 1))) None gone
      ∙ sym (cond-false (nat_lt (o.dropped + length o.past) place) (slice_get hs (place - (o.dropped + length o.past + 1))) None gone)
]

-- ---- what a call refuses

pub learn_refused : (c : CellState) (session : ℕ) (u : Update) (now : ℕ) (error : LearnError) → learn_refusal (is_history_full c) c.state session u now ≡ Some error → Learns c session u now (Err error) c
learn_refused c session u now unlearned.NoSession is = (is, refl)
learn_refused c session u now unlearned.Misfit is = (is, refl)
learn_refused c session u now unlearned.MomentBack is = (is, refl)
learn_refused c session u now unlearned.HistoryFull is = (is, refl)
learn_refused c session u now unlearned.Spent is = (is, refl)
learn_refused c session u now unlearned.TableFull is = (is, refl)
learn_refused c session u now unlearned.Memory is = absurd (memory_is_no_learn_refusal (is_history_full c) c.state session u now is)
