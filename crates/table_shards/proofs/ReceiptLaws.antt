-- How often a place occurs among receipts.
use Rattle.std.proofs.Common.{◌≡◌, ℕ, zero, suc, ◌+◌, ◌-◌, ◌<◌, ◌≤◌, ◌==◌, true, false, cond, List, [], ◌∷◌, ◌++◌, length, get_or, take, drop, Option, Some, None, refl, sym, ap, ◌∙◌, subst, arith, ne_eqb, zero-add, append-nil, append_assoc}
use Rattle.std.specs.List.{AllByRecursion, slice_get}
use Rattle.std.proofs.lemmas.List.{drop-drop, drop_more, length-drop, take_more}
use Rattle.std.proofs.lemmas.List.Sums.{sum_by-cons, sum_by-append}
use Rattle.table_shards.specs.Pages.{AreFrom}
use Rattle.table_shards.specs.Receipts.{ReceiptState, SeatState, PlacesRise, all_receipts, receipts_of, times}
use Rattle.table_shards.proofs.AllLaws.{all_left, all_right, all_both}

-- ---- ascending places

pub rise_low : (before seen : ℕ) (rs : List ReceiptState) (i : ℕ) (d : ReceiptState) → PlacesRise before rs seen → i < length rs → before < (get_or rs i d).place
rise_low before seen [] i d rise lt = absurd (omega arith)
rise_low before seen (r ∷ rs) zero d (first, rest) lt = first
rise_low before seen (r ∷ rs) (suc i) d (first, rest) lt =
    let low : r.place < (get_or rs i d).place = rise_low r.place seen rs i d rest (omega arith) in
    omega arith

pub rise_order : (before seen : ℕ) (rs : List ReceiptState) (i j : ℕ) (d : ReceiptState) → PlacesRise before rs seen → i ≤ j → j < length rs → (get_or rs i d).place ≤ (get_or rs j d).place
rise_order before seen [] i j d rise le lt = absurd (omega arith)
rise_order before seen (r ∷ rs) zero zero d rise le lt = omega arith
rise_order before seen (r ∷ rs) zero (suc j) d (first, rest) le lt =
    let low : r.place < (get_or rs j d).place = rise_low r.place seen rs j d rest (omega arith) in
    omega arith
rise_order before seen (r ∷ rs) (suc i) zero d rise le lt = absurd (omega arith)
rise_order before seen (r ∷ rs) (suc i) (suc j) d (first, rest) le lt = rise_order r.place seen rs i j d rest (omega arith) (omega arith)

-- ---- counts

pub times_here : (place : ℕ) (r : ReceiptState) (rs : List ReceiptState) → (r.place == place) ≡ true → times place (r ∷ rs) ≡ 1 + times place rs
times_here place r rs same =
    let one : cond (r.place == place) 1 0 ≡ 1 = rw same refl in
    sum_by-cons (λ (q : ReceiptState). cond (q.place == place) 1 0) r rs ∙ ap (λ (n : ℕ). n + times place rs) one

pub times_other : (place : ℕ) (r : ReceiptState) (rs : List ReceiptState) → (r.place == place) ≡ false → times place (r ∷ rs) ≡ 0 + times place rs
times_other place r rs other =
    let none : cond (r.place == place) 1 0 ≡ 0 = rw other refl in
    sum_by-cons (λ (q : ReceiptState). cond (q.place == place) 1 0) r rs ∙ ap (λ (n : ℕ). n + times place rs) none

pub times_above : (place before seen : ℕ) (rs : List ReceiptState) → PlacesRise before rs seen → place ≤ before → times place rs ≡ 0
times_above place before seen [] rise le = refl
times_above place before seen (r ∷ rs) (first, rest) le =
    let other = times_other place r rs (ne_eqb r.place place (λ is. absurd (omega arith))) in
    let none : times place rs ≡ 0 = times_above place r.place seen rs rest (omega arith) in
    omega (arith, other, none)

-- ---- seats

-- the count continues with the next seat
pub times_next : (place t : ℕ) (ss : List SeatState) (i : ℕ) (s : SeatState) → i < length ss → s ≡ get_or ss i s
    → times place (all_receipts t (drop i ss)) ≡ times place (receipts_of t s) + times place (all_receipts t (drop (i + 1) ss))
times_next place t ss i s lt is =
    ap (λ (rest : List SeatState). times place (all_receipts t rest)) (drop_more ss i s lt)
    ∙ sum_by-append (λ (q : ReceiptState). cond (q.place == place) 1 0) (receipts_of t (get_or ss i s)) (all_receipts t (drop (i + 1) ss))
    ∙ ap (λ (x : SeatState). times place (receipts_of t x) + times place (all_receipts t (drop (i + 1) ss))) (sym is)

all_append : (t : ℕ) (ss : List SeatState) (s : SeatState) → all_receipts t (ss ++ s ∷ []) ≡ all_receipts t ss ++ receipts_of t s
all_append t [] s = append-nil (receipts_of t s)
all_append t (x ∷ ss) s = ap (λ rest. receipts_of t x ++ rest) (all_append t ss s) ∙ sym (append_assoc (receipts_of t x) (all_receipts t ss) (receipts_of t s))

-- what holds of all receipts of some seats and of those of the next seat
pub receipts_more : (P : ReceiptState → Type 0) (t : ℕ) (ss : List SeatState) (i : ℕ) (s : SeatState) → i < length ss → s ≡ get_or ss i s
    → AllByRecursion P (receipts_of t s) → AllByRecursion P (all_receipts t (take i ss)) → AllByRecursion P (all_receipts t (take (i + 1) ss))
receipts_more P t ss i s lt is one all =
    let whole : all_receipts t (take (i + 1) ss) ≡ all_receipts t (take i ss) ++ receipts_of t s =
    ap (λ (xs : List SeatState). all_receipts t xs) (take_more ss i s lt) ∙ all_append t (take i ss) (get_or ss i s) ∙ ap (λ (x : SeatState). all_receipts t (take i ss) ++ receipts_of t x) (sym is) in
    subst (AllByRecursion P) (sym whole) (all_both P (all_receipts t (take i ss)) (receipts_of t s) all one)

-- and of the receipts of one seat
pub receipts_of_one : (P : ReceiptState → Type 0) (t : ℕ) (ss : List SeatState) (i : ℕ) (d : SeatState) → i < length ss → AllByRecursion P (all_receipts t ss) → AllByRecursion P (receipts_of t (get_or ss i d))
receipts_of_one P t [] i d lt all = absurd (omega arith)
receipts_of_one P t (s ∷ ss) zero d lt all = all_left P (receipts_of t s) (all_receipts t ss) all
receipts_of_one P t (s ∷ ss) (suc i) d lt all = receipts_of_one P t ss i d (omega arith) (all_right P (receipts_of t s) (all_receipts t ss) all)

-- ---- the receipts that are left

pub left_over : (next end : ℕ) (rs left : List ReceiptState) → AreFrom next end rs → drop next rs ≡ left → end - next ≡ length left
left_over next end rs left from is =
    let whole : end ≡ length rs = from.whole in
    let some : length (drop next rs) ≡ length rs - next = length-drop next rs in
    let same : length (drop next rs) ≡ length left = ap (λ (xs : List ReceiptState). length xs) is in
    omega (arith, whole, some, same)

pub got_from : (rs : List ReceiptState) (next index : ℕ) → slice_get (drop next rs) index ≡ slice_get rs (next + index)
got_from rs zero index = ap (λ (i : ℕ). slice_get rs i) (sym (zero-add index))
got_from [] (suc next) index = refl
got_from (r ∷ rs) (suc next) index =
    let step : suc (next + index) ≡ suc next + index = omega arith in
    got_from rs next index ∙ ap (λ (i : ℕ). slice_get (r ∷ rs) i) step

same_receipt : (a b : ReceiptState) → ◌≡◌ {A = Option ReceiptState} (Some a) (Some b) → a ≡ b
same_receipt a b e = cc

some_left : (a : ReceiptState) → ◌≡◌ {A = Option ReceiptState} (Some a) None → ⊥
some_left a e = cc

-- the first one that is left, and those after it
pub first_left : (rs left : List ReceiptState) (next : ℕ) (r : ReceiptState) → drop next rs ≡ left → Some r ≡ slice_get left 0 → left ≡ r ∷ drop (next + 1) rs
first_left rs left next r is first = by left is first
  where
    by : (ls : List ReceiptState) → drop next rs ≡ ls → Some r ≡ slice_get ls 0 → ls ≡ r ∷ drop (next + 1) rs
    by [] is first = absurd (some_left r first)
    by (q ∷ qs) is first =
        let rest : qs ≡ drop (next + 1) rs = sym (ap (λ (xs : List ReceiptState). drop 1 xs) is) ∙ drop-drop 1 next rs in
        ap (λ (x : ReceiptState). x ∷ qs) (sym (same_receipt r q first)) ∙ ap (λ (xs : List ReceiptState). r ∷ xs) rest

pub nothing_left : (left : List ReceiptState) → None ≡ slice_get left 0 → left ≡ []
nothing_left [] none = refl
nothing_left (q ∷ qs) none = absurd (some_left q (sym none))
