-- Counting receipts by their places.
use Rattle.std.proofs.Common.{◌≡◌, ◌≢◌, ℕ, zero, suc, ◌+◌, ◌-◌, ◌<◌, ◌≤◌, ◌==◌, ◌↔◌, Bool, true, false, true≢false, cond, leb, leb-true, leb-false, le-leb, List, [], ◌∷◌, length, get_or, set, take, drop, refl, sym, ap, subst, ◌∙◌, arith, inl, inr, eq-eqb, ne_eqb, slice_index}
use Rattle.std.specs.Prelude.{EachIndex, IsTrue}
use Rattle.std.specs.Bool.{MatchBool}
use Rattle.std.specs.List.{AllWithin}
use Rattle.std.proofs.lemmas.Bool.{cases_Bool, cases_eq, lt-leb}
use Rattle.std.proofs.lemmas.List.{drop-drop, get_or-set_other, get_or-set_same, get_or-take, length-take-le}
use Rattle.std.proofs.lemmas.List.Sums.{sum_by-cons}
use Rattle.table_shards.specs.Counts.{AreAdded, AreCounts, AreOnce, RiseAfter}
use Rattle.table_shards.specs.Receipts.{ReceiptState, SeatState, PlacesRise, all_receipts, times}
use Rattle.table_shards.proofs.PageLaws.{eqb_is}
use Rattle.table_shards.proofs.ReceiptLaws.{rise_order, times_above, times_here, times_other}

-- ---- ascending places

-- receipts that ascend are of different places
pub times_most : (place before seen : ℕ) (rs : List ReceiptState) → PlacesRise before rs seen → times place rs ≤ 1
times_most place before seen [] rise =
    let none : times place [] ≡ 0 = refl in
    omega (arith, none)
times_most place before seen (r ∷ rs) (first, rest) = elim (cases_Bool (r.place == place)) [
  | inl same ↦
      let is : r.place ≡ place = eqb_is r.place place same in
      let none : times place rs ≡ 0 = times_above place r.place seen rs rest (omega (arith, is)) in
      omega (arith, times_here place r rs same, none)
  | inr other ↦
      let few : times place rs ≤ 1 = times_most place r.place seen rs rest in
      omega (arith, times_other place r rs other, few)
]

wider : (before seen more : ℕ) (rs : List ReceiptState) → PlacesRise before rs seen → seen ≤ more → PlacesRise before rs more
wider before seen more [] rise le = omega (arith, rise, le)
wider before seen more (r ∷ rs) (first, rest) le = (first, wider r.place seen more rs rest le)

-- the receipts of later places, if those before them are not
pub rise_later : (from before seen : ℕ) (rs : List ReceiptState) (i : ℕ) → PlacesRise before rs seen → AllWithin (λ r. leb r.place from ≡ false) rs i (length rs) → PlacesRise from (drop i rs) (from + seen)
rise_later from before seen [] zero rise late = omega arith
rise_later from before seen [] (suc i) rise late = omega arith
rise_later from before seen (r ∷ rs) zero (first, rest) late =
    (leb-false r.place from (late zero r (omega arith) (omega arith)), wider r.place seen (from + seen) rs rest (omega arith))
rise_later from before seen (r ∷ rs) (suc i) (first, rest) late =
    rise_later from r.place seen rs i rest (λ k d low high. late (suc k) d (omega (arith, low)) (omega (arith, high)))

-- and no receipt of a later place is before them
pub times_later : (place from : ℕ) (rs : List ReceiptState) (i : ℕ) → from < place → i ≤ length rs → AllWithin (λ r. leb r.place from ≡ true) rs 0 i → times place (drop i rs) ≡ times place rs
times_later place from [] zero less le early = refl
times_later place from [] (suc i) less le early = absurd (omega (arith, le))
times_later place from (r ∷ rs) zero less le early = refl
times_later place from (r ∷ rs) (suc i) less le early =
    let low : r.place ≤ from = leb-true r.place from (early zero r (omega arith) (omega arith)) in
    let other = times_other place r rs (ne_eqb r.place place (λ is. absurd (omega (arith, low, less, is)))) in
    let rest : times place (drop i rs) ≡ times place rs = times_later place from rs i less (omega (arith, le)) (λ k d above below. early (suc k) d (omega arith) (omega (arith, below))) in
    let whole : times place (drop i rs) ≡ times place (r ∷ rs) = omega (arith, other, rest) in
    whole

-- receipts that ascend after a place also ascend after an earlier one
pub earlier : (a b seen : ℕ) (rs : List ReceiptState) → a ≤ b → PlacesRise b rs seen → PlacesRise a rs seen
earlier a b seen [] le rise = omega (arith, le, rise)
earlier a b seen (r ∷ rs) le (first, rest) = (omega (arith, le, first), rest)

-- if a receipt is of a place up to `from`, so is each one before it
pub early_to : (from seen : ℕ) (rs : List ReceiptState) (i : ℕ) → PlacesRise 0 rs seen → i < length rs → ((d : ReceiptState) → true ≡ leb (get_or rs i d).place from) → AllWithin (λ r. leb r.place from ≡ true) rs 0 (i + 1)
early_to from seen rs i rise lt is k d low high =
    let order = rise_order 0 seen rs k i d rise (omega (arith, high)) lt in
    let up_to = leb-true (get_or rs i d).place from (sym (is d)) in
    le-leb (get_or rs k d).place from (omega (arith, order, up_to))

-- if a receipt is of a later place, so is each one after it
pub late_from : (from seen : ℕ) (rs : List ReceiptState) (i : ℕ) → PlacesRise 0 rs seen → i < length rs → ((d : ReceiptState) → false ≡ leb (get_or rs i d).place from) → AllWithin (λ r. leb r.place from ≡ false) rs i (length rs)
late_from from seen rs i rise lt is k d low high =
    let order = rise_order 0 seen rs i k d rise low high in
    let over = leb-false (get_or rs i d).place from (sym (is d)) in
    lt-leb (get_or rs k d).place from (omega (arith, order, over))

-- those that are left after the first `next`, without the first `count` of them
left_after : (next count : ℕ) (rs left : List ReceiptState) → drop next rs ≡ left → drop (next + count) rs ≡ drop count left
left_after next count rs left is = sym (drop-drop count next rs) ∙ ap (λ (xs : List ReceiptState). drop count xs) is

pub later_rise : (from seen next count : ℕ) (rs left : List ReceiptState) → drop next rs ≡ left → PlacesRise 0 left seen → AllWithin (λ r. leb r.place from ≡ false) left count (length left) → RiseAfter from (drop (next + count) rs)
later_rise from seen next count rs left is rise late =
    (from + seen, subst (λ (xs : List ReceiptState). PlacesRise from xs (from + seen)) (sym (left_after next count rs left is)) (rise_later from 0 seen left count rise late))

pub later_times : (from place next count : ℕ) (rs left : List ReceiptState) → drop next rs ≡ left → from < place → count ≤ length left → AllWithin (λ r. leb r.place from ≡ true) left 0 count → times place (drop (next + count) rs) ≡ times place left
later_times from place next count rs left is over within early = ap (λ (xs : List ReceiptState). times place xs) (left_after next count rs left is) ∙ times_later place from left count over within early

one_less : (place : ℕ) (r : ReceiptState) (rest : List ReceiptState) → times place (r ∷ rest) ≡ cond (r.place == place) 1 0 + times place rest
one_less place r rest = sum_by-cons (λ (q : ReceiptState). cond (q.place == place) 1 0) r rest

is_counted : (place : ℕ) (r : ReceiptState) → r.place ≡ place → ◌≡◌ {A = ℕ} (cond (r.place == place) 1 0) 1
is_counted place r here = let same : (r.place == place) ≡ true = eq-eqb r.place place here in rw same refl

is_not_counted : (place : ℕ) (r : ReceiptState) → r.place ≢ place → ◌≡◌ {A = ℕ} (cond (r.place == place) 1 0) 0
is_not_counted place r away = let other : (r.place == place) ≡ false = ne_eqb r.place place away in rw other refl

-- ---- counting the receipts of a seat

-- the counts so far, and the receipts that are left, are the counts before and all receipts
abbrev pub AreCountedBut : ℕ → List ReceiptState → List ReceiptState → List ℕ → List ℕ → Type 0
AreCountedBut from left rs olds counts =
    (index : ℕ) → index < 512 → slice_index counts index + times (from + 1 + index) left ≡ slice_index olds index + times (from + 1 + index) rs

pub one_counted : (from : ℕ) (olds counts : List ℕ) (rs rest : List ReceiptState) (j count : ℕ) (r : ReceiptState) → length counts ≡ 512 → j < 512 → r.place ≡ from + 1 + j
    → count ≡ slice_index counts j + 1 → AreCountedBut from (r ∷ rest) rs olds counts → AreCountedBut from rest rs olds (set counts j count)
one_counted from olds counts rs rest j count r long within at so counted index below = elim (cases_eq index j) [
  | inl same ↦
      let one = is_counted (from + 1 + index) r (omega (arith, at, same)) in
      let new : slice_index (set counts j count) j ≡ count = get_or-set_same counts j count 0 (omega (arith, within, long)) in
      let moved : slice_index (set counts j count) index ≡ slice_index (set counts j count) j = ap (λ (k : ℕ). slice_index (set counts j count) k) same in
      let old : slice_index counts index ≡ slice_index counts j = ap (λ (k : ℕ). slice_index counts k) same in
      omega (arith, counted index below, one_less (from + 1 + index) r rest, one, new, moved, old, so)
  | inr apart ↦
      let none = is_not_counted (from + 1 + index) r (λ here. absurd (omega (arith, at, here, apart))) in
      let still : slice_index (set counts j count) index ≡ slice_index counts index = get_or-set_other counts j index count 0 apart in
      omega (arith, counted index below, one_less (from + 1 + index) r rest, none, still)
]

-- a count has room: the receipt is the only one of its place
pub has_room : (from seen : ℕ) (olds counts : List ℕ) (rs rest : List ReceiptState) (j : ℕ) (r : ReceiptState) → PlacesRise from rs seen → j < 512 → r.place ≡ from + 1 + j
    → AreCountedBut from (r ∷ rest) rs olds counts → slice_index counts j ≤ slice_index olds j
has_room from seen olds counts rs rest j r rise within at counted =
    let one = is_counted (from + 1 + j) r at in
    omega (arith, counted j within, one_less (from + 1 + j) r rest, one, times_most (from + 1 + j) from seen rs rise)

-- the next receipt is of a place beyond those that are counted
pub none_left : (from seen : ℕ) (olds counts : List ℕ) (rs rest : List ReceiptState) (r : ReceiptState) → PlacesRise r.place rest seen → from + 512 < r.place
    → AreCountedBut from (r ∷ rest) rs olds counts → AreAdded from rs olds counts
none_left from seen olds counts rs rest r rise beyond counted index below =
    let away = is_not_counted (from + 1 + index) r (λ here. absurd (omega (arith, here, beyond, below))) in
    let none : times (from + 1 + index) rest ≡ 0 = times_above (from + 1 + index) r.place seen rest rise (omega (arith, beyond, below)) in
    omega (arith, counted index below, one_less (from + 1 + index) r rest, away, none)

-- ---- whether each count is one

pub once_where : (b : Bool) (table from width : ℕ) (seats : List SeatState) (counts : List ℕ) → width ≤ 512 → length counts ≡ 512 → AreCounts from (all_receipts table seats) counts
    → (IsTrue b ↔ EachIndex (take width counts) (λ index. slice_index (take width counts) index ≡ 1))
    → MatchBool b (AreOnce table seats from (from + width)) (AreOnce table seats from (from + width) → ⊥)
once_where true table from width seats counts few long counted ones = λ place above within.
    let index = place - (from + 1) in
    let low : index < width = omega (arith, above, within) in
    let taken : length (take width counts) ≡ width = length-take-le width counts (omega (arith, few, long)) in
    let one : slice_index (take width counts) index ≡ 1 = ones.0 refl index (omega (arith, low, taken)) in
    let read : slice_index (take width counts) index ≡ slice_index counts index = get_or-take width counts index 0 low in
    let back : from + 1 + index ≡ place = omega (arith, above) in
    let count : slice_index counts index ≡ times (from + 1 + index) (all_receipts table seats) = counted index (omega (arith, low, few)) in
    ap (λ (p : ℕ). times p (all_receipts table seats)) (sym back) ∙ sym count ∙ sym read ∙ one
once_where false table from width seats counts few long counted ones = λ once.
    let taken : length (take width counts) ≡ width = length-take-le width counts (omega (arith, few, long)) in
    true≢false (sym (ones.1 (λ index below.
    let low : index < width = omega (arith, below, taken) in
    get_or-take width counts index 0 low ∙ counted index (omega (arith, low, few)) ∙ once (from + 1 + index) (omega arith) (omega (arith, low)))))
