-- If receipts agree with a table, there are as many of them as events.
use Rattle.std.proofs.Common.{◌≡◌, ℕ, zero, suc, ◌+◌, ◌<◌, ◌≤◌, ◌==◌, true, false, not, List, [], ◌∷◌, length, filter, Some, None, slice_get, nat_lt, ◌-◌, refl, sym, ap, ◌∙◌, subst, arith, inl, inr, eq-eqb, ne_eqb, true≢false}
use Rattle.std.specs.List.{AllByRecursion}
use Rattle.std.proofs.lemmas.Bool.{cases_Bool, cases_eq}
use Rattle.std.proofs.lemmas.Option.{slice_get_within}
use Rattle.table_cell.specs.declared.events.CellEvent.{CellEvent}
use Rattle.table_cell.specs.declared.events.CellReply.{CellReply}
use Rattle.table_cell.specs.Histories.{CellState, events_of, event_in}
use Rattle.table_shards.specs.Receipts.{ReceiptState, SeatState, all_receipts, times}
use Rattle.table_shards.specs.Agreement.{Agree, IsEntry, id_of}
use Rattle.table_shards.proofs.AllLaws.{all_so}
use Rattle.table_shards.proofs.PageLaws.{eqb_is, some_none}
use Rattle.table_shards.proofs.ReceiptLaws.{times_here, times_other}

-- the receipts of other places
abbrev pub elsewhere : ℕ → List ReceiptState → List ReceiptState
elsewhere place rs = filter (λ r. not (r.place == place)) rs

pub elsewhere_here : (place : ℕ) (r : ReceiptState) (rs : List ReceiptState) → (r.place == place) ≡ true → elsewhere place (r ∷ rs) ≡ elsewhere place rs
elsewhere_here place r rs same = rw same refl

pub elsewhere_other : (place : ℕ) (r : ReceiptState) (rs : List ReceiptState) → (r.place == place) ≡ false → elsewhere place (r ∷ rs) ≡ r ∷ elsewhere place rs
elsewhere_other place r rs other = rw other refl

parted : (place : ℕ) (rs : List ReceiptState) → length (elsewhere place rs) + times place rs ≡ length rs
parted place [] = refl
parted place (r ∷ rs) = elim (cases_Bool (r.place == place)) [
  | inl same ↦
      let shorter : length (elsewhere place (r ∷ rs)) ≡ length (elsewhere place rs) = ap (λ (xs : List ReceiptState). length xs) (elsewhere_here place r rs same) in
      omega (arith, parted place rs, shorter, times_here place r rs same)
  | inr other ↦
      let longer : length (elsewhere place (r ∷ rs)) ≡ 1 + length (elsewhere place rs) = ap (λ (xs : List ReceiptState). length xs) (elsewhere_other place r rs other) ∙ omega arith in
      omega (arith, parted place rs, longer, times_other place r rs other)
]

-- the counts of other places stay
pub still : (place other : ℕ) (rs : List ReceiptState) → (place ≡ other → ⊥) → times other (elsewhere place rs) ≡ times other rs
still place other [] apart = refl
still place other (r ∷ rs) apart = elim (cases_Bool (r.place == place)) [
  | inl same ↦
      let here : r.place ≡ place = eqb_is r.place place same in
      let none = times_other other r rs (ne_eqb r.place other (λ is. apart (sym here ∙ is))) in
      ap (λ (xs : List ReceiptState). times other xs) (elsewhere_here place r rs same) ∙ omega (arith, still place other rs apart, none)
  | inr away ↦
      ap (λ (xs : List ReceiptState). times other xs) (elsewhere_other place r rs away)
      ∙ elim (cases_Bool (r.place == other)) [
        | inl there ↦ omega (arith, still place other rs apart, times_here other r rs there, times_here other r (elsewhere place rs) there)
        | inr gone ↦ omega (arith, still place other rs apart, times_other other r rs gone, times_other other r (elsewhere place rs) gone)
      ]
]

abbrev Within : ℕ → ℕ → ReceiptState → Type 0
Within low n r = (low < r.place) × (r.place ≤ low + n)

fewer : (low n : ℕ) (rs : List ReceiptState) → AllByRecursion (Within low (suc n)) rs → AllByRecursion (Within low n) (elsewhere (low + suc n) rs)
fewer low n [] all = tt
fewer low n (r ∷ rs) (first, rest) = elim (cases_Bool (r.place == low + suc n)) [
  | inl same ↦ subst (AllByRecursion (Within low n)) (sym (elsewhere_here (low + suc n) r rs same)) (fewer low n rs rest)
  | inr other ↦
      let apart : r.place ≡ low + suc n → ⊥ = λ is. true≢false (sym (eq-eqb r.place (low + suc n) is) ∙ other) in
      let below : r.place ≤ low + n = elim (cases_eq r.place (low + suc n)) [ inl is ↦ absurd (apart is) | inr no_last ↦ omega (arith, no_last, first.1) ] in
      subst (AllByRecursion (Within low n)) (sym (elsewhere_other (low + suc n) r rs other)) ((first.0, below), fewer low n rs rest)
]

-- if each of these places has one receipt, there are as many receipts as places
pub as_many : (n low : ℕ) (rs : List ReceiptState) → AllByRecursion (Within low n) rs → ((place : ℕ) → low < place → place ≤ low + n → times place rs ≡ 1) → length rs ≡ n
as_many zero low [] all once = refl
as_many zero low (r ∷ rs) (first, rest) once = absurd (omega (arith, first.0, first.1))
as_many (suc n) low rs all once =
    let last = low + suc n in
    let shorter : length (elsewhere last rs) ≡ n =
    as_many n low (elsewhere last rs) (fewer low n rs all) (λ place above within. still last place rs (λ is. absurd (omega arith)) ∙ once place above (omega arith)) in
    omega (arith, parted last rs, shorter, once last (omega arith) (omega arith))

-- the place of an event is at most the number of events
entry_within : (c : CellState) (place : ℕ) (e : CellEvent × CellReply) → event_in c place ≡ Some e → place ≤ events_of c
entry_within c place e is = elim (cases_Bool (nat_lt (c.dropped + c.slid) place)) [
  | inl kept ↦
      let there : slice_get c.history (place - (c.dropped + 1)) ≡ Some e = rw kept at is in
      let within = slice_get_within c.history (place - (c.dropped + 1)) e there in
      omega (arith, within)
  | inr gone ↦
      let none : None ≡ Some e = rw gone at is in
      absurd (some_none e (sym none))
]

-- if there are no more events than `began`, there is no receipt: each would be of a later place that has an event
pub receipts_count : (c : CellState) (began : ℕ) (seats : List SeatState) → Agree c began seats → length (all_receipts (id_of c) seats) ≡ events_of c - began
receipts_count c began seats agree =
    let rs = all_receipts (id_of c) seats in
    let n = events_of c - began in
    let within : AllByRecursion (Within began n) rs =
    all_so (λ r. (began < r.place) × IsEntry c r) (Within began n) (λ r own. (own.0, (let most = entry_within c r.place (r.event, r.reply) own.1 in omega (arith, most, own.0)))) rs agree.own in
    as_many n began rs within (λ place above most. agree.once place above (omega (arith, above, most)))
