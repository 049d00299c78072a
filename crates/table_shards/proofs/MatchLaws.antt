-- If receipts agree with a history, they are its events, in another order.
use Rattle.std.proofs.Common.{◌≡◌, ℕ, zero, suc, ◌+◌, ◌-◌, ◌<◌, ◌≤◌, ◌==◌, false, List, [], ◌∷◌, length, drop, Some, None, nat_lt, slice_get, sum_by, not, refl, sym, ap, ◌∙◌, subst, arith, inl, inr, eq-eqb, true≢false}
use Rattle.std.specs.List.{AllByRecursion}
use Rattle.std.proofs.lemmas.Bool.{cases_Bool, cases_eq}
use Rattle.std.proofs.lemmas.List.{length-drop}
use Rattle.std.proofs.lemmas.List.Sums.{sum_by-cons}
use Rattle.std.proofs.lemmas.Option.{slice_get_past}
use Rattle.table_cell.specs.declared.events.CellEvent.{CellEvent}
use Rattle.table_cell.specs.declared.events.CellReply.{CellReply}
use Rattle.table_cell.specs.Histories.{CellState}
use Rattle.table_cell.proofs.RowsLaws.{all_filter}
use Rattle.table_shards.specs.Receipts.{ReceiptState, SeatState, all_receipts, times}
use Rattle.table_shards.specs.Agreement.{Agree, IsEntry, id_of}
use Rattle.table_shards.proofs.AgreeLaws.{elsewhere, elsewhere_here, elsewhere_other, still}
use Rattle.table_shards.proofs.AllLaws.{all_so}
use Rattle.table_shards.proofs.PageLaws.{eqb_is, some_none}
use Rattle.table_shards.proofs.ReceiptLaws.{times_here, times_other}

-- the receipt is of the event at its place, if `hs` are the events after the first `low`
abbrev IsOf : List (CellEvent × CellReply) → ℕ → ReceiptState → Type 0
IsOf hs low r = (low < r.place) × (slice_get hs (r.place - (low + 1)) ≡ Some (r.event, r.reply))

-- each of these places has one receipt
abbrev AreOnce : List (CellEvent × CellReply) → ℕ → List ReceiptState → Type 0
AreOnce hs low rs = (place : ℕ) → low < place → place ≤ low + length hs → times place rs ≡ 1

abbrev of_event : (CellEvent → ℕ) → ReceiptState → ℕ
of_event f r = f r.event

abbrev of_entry : (CellEvent → ℕ) → CellEvent × CellReply → ℕ
of_entry f h = f h.0

nowhere : (place : ℕ) (rs : List ReceiptState) → times place rs ≡ 0 → elsewhere place rs ≡ rs
nowhere place [] none = refl
nowhere place (r ∷ rs) none = elim (cases_Bool (r.place == place)) [
  | inl same ↦ absurd (omega (arith, none, times_here place r rs same))
  | inr other ↦ elsewhere_other place r rs other ∙ ap (λ (xs : List ReceiptState). r ∷ xs) (nowhere place rs (omega (arith, none, times_other place r rs other)))
]

-- ---- the first event, and those after it

is_first : (h : CellEvent × CellReply) (hs : List (CellEvent × CellReply)) (low : ℕ) (r : ReceiptState) → IsOf (h ∷ hs) low r → r.place ≡ low + 1 → r.event ≡ h.0
is_first h hs low r (above, at) same =
    let index : r.place - (low + 1) ≡ 0 = omega (arith, same) in
    let both : Some h ≡ Some (r.event, r.reply) = sym (ap (λ (i : ℕ). slice_get (h ∷ hs) i) index) ∙ at in
    let one : h ≡ (r.event, r.reply) = cc in
    sym (ap (λ (x : CellEvent × CellReply). x.0) one)

is_later : (h : CellEvent × CellReply) (hs : List (CellEvent × CellReply)) (low : ℕ) (r : ReceiptState) → IsOf (h ∷ hs) low r → (r.place == low + 1) ≡ false → IsOf hs (low + 1) r
is_later h hs low r (above, at) apart = elim (cases_eq r.place (low + 1)) [
  | inl same ↦ absurd (true≢false (sym (eq-eqb r.place (low + 1) same) ∙ apart))
  | inr other ↦
      let index : r.place - (low + 1) ≡ suc (r.place - (low + 1 + 1)) = omega (arith, above, other) in
      (omega (arith, above, other), sym (ap (λ (i : ℕ). slice_get (h ∷ hs) i) index) ∙ at)
]

are_later : (h : CellEvent × CellReply) (hs : List (CellEvent × CellReply)) (low : ℕ) (rs : List ReceiptState) → AllByRecursion (IsOf (h ∷ hs) low) rs → AllByRecursion (IsOf hs (low + 1)) (elsewhere (low + 1) rs)
are_later h hs low [] all = tt
are_later h hs low (r ∷ rs) (first, rest) = elim (cases_Bool (r.place == low + 1)) [
  | inl same ↦ subst (AllByRecursion (IsOf hs (low + 1))) (sym (elsewhere_here (low + 1) r rs same)) (are_later h hs low rs rest)
  | inr other ↦ subst (AllByRecursion (IsOf hs (low + 1))) (sym (elsewhere_other (low + 1) r rs other)) (is_later h hs low r first other, are_later h hs low rs rest)
]

once_later : (h : CellEvent × CellReply) (hs : List (CellEvent × CellReply)) (low : ℕ) (rs : List ReceiptState) → AreOnce (h ∷ hs) low rs → AreOnce hs (low + 1) (elsewhere (low + 1) rs)
once_later h hs low rs once place above within =
    still (low + 1) place rs (λ is. absurd (omega (arith, is, above))) ∙ once place (omega (arith, above)) (omega (arith, within))

-- ---- sums

one_out : (f : CellEvent → ℕ) (h : CellEvent × CellReply) (hs : List (CellEvent × CellReply)) (low : ℕ) (rs : List ReceiptState) → AllByRecursion (IsOf (h ∷ hs) low) rs → times (low + 1) rs ≡ 1
    → sum_by (of_event f) rs ≡ f h.0 + sum_by (of_event f) (elsewhere (low + 1) rs)
one_out f h hs low [] all once =
    let none : times (low + 1) [] ≡ 0 = refl in
    absurd (omega (arith, none, once))
one_out f h hs low (r ∷ rs) (first, rest) once = elim (cases_Bool (r.place == low + 1)) [
  | inl same ↦
      let others : elsewhere (low + 1) (r ∷ rs) ≡ rs = elsewhere_here (low + 1) r rs same ∙ nowhere (low + 1) rs (omega (arith, once, times_here (low + 1) r rs same)) in
      sum_by-cons (of_event f) r rs
      ∙ ap (λ (e : CellEvent). f e + sum_by (of_event f) rs) (is_first h hs low r first (eqb_is r.place (low + 1) same))
      ∙ ap (λ (xs : List ReceiptState). f h.0 + sum_by (of_event f) xs) (sym others)
  | inr other ↦
      let longer : sum_by (of_event f) (elsewhere (low + 1) (r ∷ rs)) ≡ f r.event + sum_by (of_event f) (elsewhere (low + 1) rs) =
      ap (sum_by (of_event f)) (elsewhere_other (low + 1) r rs other) ∙ sum_by-cons (of_event f) r (elsewhere (low + 1) rs) in
      let whole : sum_by (of_event f) (r ∷ rs) ≡ f r.event + sum_by (of_event f) rs = sum_by-cons (of_event f) r rs in
      let before = one_out f h hs low rs rest (omega (arith, once, times_other (low + 1) r rs other)) in
      omega (arith, whole, before, longer)
]

sum_of : (f : CellEvent → ℕ) (hs : List (CellEvent × CellReply)) (low : ℕ) (rs : List ReceiptState) → AllByRecursion (IsOf hs low) rs → AreOnce hs low rs → sum_by (of_event f) rs ≡ sum_by (of_entry f) hs
sum_of f [] low [] all once = refl
sum_of f [] low (r ∷ rs) ((above, at), rest) once = absurd (some_none (r.event, r.reply) (sym at))
sum_of f (h ∷ hs) low rs all once =
    let first = one_out f h hs low rs all (once (low + 1) (omega arith) (omega arith)) in
    let rest = sum_of f hs (low + 1) (elsewhere (low + 1) rs) (are_later h hs low rs all) (once_later h hs low rs once) in
    let whole : sum_by (of_entry f) (h ∷ hs) ≡ f h.0 + sum_by (of_entry f) hs = sum_by-cons (of_entry f) h hs in
    omega (arith, first, rest, whole)

-- ---- what holds of each

one_found : (P : CellEvent → Type 0) (h : CellEvent × CellReply) (hs : List (CellEvent × CellReply)) (low : ℕ) (rs : List ReceiptState) → AllByRecursion (IsOf (h ∷ hs) low) rs → times (low + 1) rs ≡ 1
    → AllByRecursion (λ (r : ReceiptState). P r.event) rs → P h.0
one_found P h hs low [] all once each =
    let none : times (low + 1) [] ≡ 0 = refl in
    absurd (omega (arith, none, once))
one_found P h hs low (r ∷ rs) (first, rest) once (this, others) = elim (cases_Bool (r.place == low + 1)) [
  | inl same ↦ subst P (is_first h hs low r first (eqb_is r.place (low + 1) same)) this
  | inr other ↦ one_found P h hs low rs rest (omega (arith, once, times_other (low + 1) r rs other)) others
]

each_of : (P : CellEvent → Type 0) (hs : List (CellEvent × CellReply)) (low : ℕ) (rs : List ReceiptState) → AllByRecursion (IsOf hs low) rs → AreOnce hs low rs
    → AllByRecursion (λ (r : ReceiptState). P r.event) rs → AllByRecursion (λ (h : CellEvent × CellReply). P h.0) hs
each_of P [] low rs all once each = tt
each_of P (h ∷ hs) low rs all once each = (
  one_found P h hs low rs all (once (low + 1) (omega arith) (omega arith)) each,
  each_of P hs (low + 1) (elsewhere (low + 1) rs) (are_later h hs low rs all) (once_later h hs low rs once)
      (all_filter (λ (r : ReceiptState). P r.event) (λ (r : ReceiptState). not (r.place == low + 1)) rs each),
)

-- ---- receipts that agree

get_dropped : {A : Type 0} (k : ℕ) (xs : List A) (i : ℕ) → slice_get (drop k xs) i ≡ slice_get xs (k + i)
get_dropped zero xs i = let same : i ≡ 0 + i = omega arith in ap (slice_get xs) same
get_dropped (suc k) [] i = slice_get_past [] i (omega arith) ∙ sym (slice_get_past [] (suc k + i) (omega arith))
get_dropped (suc k) (x ∷ xs) i = let step : suc (k + i) ≡ suc k + i = omega arith in get_dropped k xs i ∙ ap (slice_get (x ∷ xs)) step

-- the events after the first `began`
abbrev pub after_first : ℕ → CellState → List (CellEvent × CellReply)
after_first began c = drop (began - c.dropped) c.history

are_of : (c : CellState) (began : ℕ) (seats : List SeatState) → c.dropped ≤ began → Agree c began seats → AllByRecursion (IsOf (after_first began c) began) (all_receipts (id_of c) seats)
are_of c began seats from agree = all_so (λ (r : ReceiptState). (began < r.place) × IsEntry c r) (IsOf (after_first began c) began) one (all_receipts (id_of c) seats) agree.own
  where
    one : (r : ReceiptState) → (began < r.place) × IsEntry c r → IsOf (after_first began c) began r
    one r (above, is) = elim (cases_Bool (nat_lt (c.dropped + c.slid) r.place)) [
      | inl kept ↦
          let there : slice_get c.history (r.place - (c.dropped + 1)) ≡ Some (r.event, r.reply) = rw kept at is in
          let index : began - c.dropped + (r.place - (began + 1)) ≡ r.place - (c.dropped + 1) = omega (arith, from, above) in
          (above, get_dropped (began - c.dropped) c.history (r.place - (began + 1)) ∙ ap (slice_get c.history) index ∙ there)
      | inr gone ↦
          let none : None ≡ Some (r.event, r.reply) = rw gone at is in
          absurd (some_none (r.event, r.reply) (sym none))
    ]

once_after : (c : CellState) (began : ℕ) (seats : List SeatState) → c.dropped ≤ began → Agree c began seats → AreOnce (after_first began c) began (all_receipts (id_of c) seats)
once_after c began seats from agree place above within =
    let left = length-drop (began - c.dropped) c.history in
    agree.once place above (omega (arith, from, above, within, left))

pub round_summed : (c : CellState) (began : ℕ) (seats : List SeatState) (f : CellEvent → ℕ) → c.dropped ≤ began → Agree c began seats
    → sum_by (λ (r : ReceiptState). f r.event) (all_receipts (id_of c) seats) ≡ sum_by (λ (h : CellEvent × CellReply). f h.0) (drop (began - c.dropped) c.history)
round_summed c began seats f from agree = sum_of f (after_first began c) began (all_receipts (id_of c) seats) (are_of c began seats from agree) (once_after c began seats from agree)

pub round_each : (c : CellState) (began : ℕ) (seats : List SeatState) (P : CellEvent → Type 0) → c.dropped ≤ began → Agree c began seats → AllByRecursion (λ (r : ReceiptState). P r.event) (all_receipts (id_of c) seats)
    → AllByRecursion (λ (h : CellEvent × CellReply). P h.0) (drop (began - c.dropped) c.history)
round_each c began seats P from agree each = each_of P (after_first began c) began (all_receipts (id_of c) seats) (are_of c began seats from agree) (once_after c began seats from agree) each

-- the same if the round began with the history
whole_after : (c : CellState) → after_first c.dropped c ≡ c.history
whole_after c = let none : c.dropped - c.dropped ≡ 0 = omega arith in ap (λ (n : ℕ). drop n c.history) none

pub summed : (c : CellState) (seats : List SeatState) (f : CellEvent → ℕ) → Agree c c.dropped seats → sum_by (λ (r : ReceiptState). f r.event) (all_receipts (id_of c) seats) ≡ sum_by (λ (h : CellEvent × CellReply). f h.0) c.history
summed c seats f agree = round_summed c c.dropped seats f (omega arith) agree ∙ ap (sum_by (of_entry f)) (whole_after c)

pub each_event : (c : CellState) (seats : List SeatState) (P : CellEvent → Type 0) → Agree c c.dropped seats → AllByRecursion (λ (r : ReceiptState). P r.event) (all_receipts (id_of c) seats) → AllByRecursion (λ (h : CellEvent × CellReply). P h.0) c.history
each_event c seats P agree each = subst (AllByRecursion (λ (h : CellEvent × CellReply). P h.0)) (whole_after c) (round_each c c.dropped seats P (omega arith) agree each)
