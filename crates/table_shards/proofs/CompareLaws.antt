-- What a comparison of receipts with a table finds.
use Rattle.std.proofs.Common.{◌≡◌, ℕ, ◌+◌, ◌<◌, ◌≤◌, Bool, true, false, List, [], ◌∷◌, ◌++◌, length, get_or, take, Option, Some, None, nat_lt, is_some, true≢false, refl, sym, ap, ◌∙◌, subst, arith, inl, inr, ltb-true, ltb-false}
use Rattle.std.specs.Bool.{MatchBool}
use Rattle.std.specs.List.{AllByRecursion}
use Rattle.std.proofs.lemmas.Bool.{cond_both}
use Rattle.std.proofs.lemmas.List.{take_more}
use Rattle.table_cell.specs.Histories.{CellState, events_of}
use Rattle.table_shards.specs.Receipts.{ReceiptState, SeatState, PlacesRise, all_receipts, receipts_of, seen_of, times}
use Rattle.table_shards.specs.Agreement.{Agree, AreEntries, Compares, IsEntry, IsLeastStray, OneOf, Strays, id_of, lesser}
use Rattle.table_shards.proofs.AllLaws.{all_both, all_end, all_left, all_right, all_so}

-- ---- one of a list

pub one_left : {A : Type 0} (P : A → Type 0) (xs ys : List A) → OneOf P xs → OneOf P (xs ++ ys)
one_left P [] ys one = absurd one
one_left P (x ∷ xs) ys (inl here) = inl here
one_left P (x ∷ xs) ys (inr there) = inr (one_left P xs ys there)

pub one_last : {A : Type 0} (P : A → Type 0) (xs : List A) (y : A) → P y → OneOf P (xs ++ y ∷ [])
one_last P [] y here = inl here
one_last P (x ∷ xs) y here = inr (one_last P xs y here)

pub none_of_all : {A : Type 0} (P Q : A → Type 0) (xs : List A) → ((x : A) → P x → Q x → ⊥) → AllByRecursion P xs → OneOf Q xs → ⊥
none_of_all P Q [] apart all one = one
none_of_all P Q (x ∷ xs) apart (first, rest) (inl here) = apart x first here
none_of_all P Q (x ∷ xs) apart (first, rest) (inr there) = none_of_all P Q xs apart rest there

-- ---- the least stray

lesser_left : (least number : ℕ) → lesser (Some least) number ≤ least
lesser_left least number = cond_both (nat_lt least number) least number (λ x. x ≤ least) (λ _. omega arith) (λ no_less. let bound = ltb-false least number no_less in omega arith)

lesser_right : (least number : ℕ) → lesser (Some least) number ≤ number
lesser_right least number = cond_both (nat_lt least number) least number (λ x. x ≤ number) (λ less. let bound = ltb-true least number less in omega arith) (λ _. omega arith)

-- one more seat, whose receipts are the table's events
pub stays : (c : CellState) (ss : List SeatState) (s : SeatState) (least : Option ℕ) → Strays c ss least → AreEntries c s → Strays c (ss ++ s ∷ []) least
stays c ss s None all own = all_end (AreEntries c) s ss all own
stays c ss s (Some number) (one, all) own =
    (one_left (λ x. (x.number ≡ number) × (AreEntries c x → ⊥)) ss (s ∷ []) one, all_end (λ x. (AreEntries c x → ⊥) → number ≤ x.number) s ss all (λ not_so. absurd (not_so own)))

-- one more seat, with another receipt
grows : (c : CellState) (ss : List SeatState) (s : SeatState) (least : Option ℕ) → Strays c ss least → (AreEntries c s → ⊥) → Strays c (ss ++ s ∷ []) (Some (lesser least s.number))
grows c ss s None all other = (
  one_last (λ x. (x.number ≡ s.number) × (AreEntries c x → ⊥)) ss s (refl, other),
  all_end (λ x. (AreEntries c x → ⊥) → s.number ≤ x.number) s ss (all_so (AreEntries c) (λ x. (AreEntries c x → ⊥) → s.number ≤ x.number) (λ x own not_so. absurd (not_so own)) ss all) (λ not_so. omega arith),
)
grows c ss s (Some number) (one, all) other =
    let left = lesser_left number s.number in
    let right = lesser_right number s.number in (
      cond_both (nat_lt number s.number) number s.number (λ n. OneOf (λ x. (x.number ≡ n) × (AreEntries c x → ⊥)) (ss ++ s ∷ []))
          (λ _. one_left (λ x. (x.number ≡ number) × (AreEntries c x → ⊥)) ss (s ∷ []) one)
          (λ _. one_last (λ x. (x.number ≡ s.number) × (AreEntries c x → ⊥)) ss s (refl, other)),
      all_end (λ x. (AreEntries c x → ⊥) → lesser (Some number) s.number ≤ x.number) s ss
          (all_so (λ x. (AreEntries c x → ⊥) → number ≤ x.number) (λ x. (AreEntries c x → ⊥) → lesser (Some number) s.number ≤ x.number) (λ x low not_so. let bound = low not_so in omega arith) ss all) (λ not_so. right),
    )

pub grows_by : (c : CellState) (ss : List SeatState) (s : SeatState) (least : Option ℕ) (number : ℕ) → number ≡ lesser least s.number → Strays c ss least → (AreEntries c s → ⊥) → Strays c (ss ++ s ∷ []) (Some number)
grows_by c ss s least number is strays other = subst (λ (n : ℕ). Strays c (ss ++ s ∷ []) (Some n)) (sym is) (grows c ss s least strays other)

pub next_taken : (ss : List SeatState) (i : ℕ) (s : SeatState) → i < length ss → s ≡ get_or ss i s → take (i + 1) ss ≡ take i ss ++ s ∷ []
next_taken ss i s lt is = take_more ss i s lt ∙ ap (λ (x : SeatState). take i ss ++ x ∷ []) (sym is)

-- ---- agreement

both_hold : (P Q : ReceiptState → Type 0) (rs : List ReceiptState) → AllByRecursion P rs → AllByRecursion Q rs → AllByRecursion (λ r. P r × Q r) rs
both_hold P Q [] ps qs = tt
both_hold P Q (r ∷ rs) (p, ps) (q, qs) = ((p, q), both_hold P Q rs ps qs)

-- what holds of each seat's receipts holds of all of them
joined : (P : ReceiptState → Type 0) (t : ℕ) (ss : List SeatState) → AllByRecursion (λ s. AllByRecursion P (receipts_of t s)) ss → AllByRecursion P (all_receipts t ss)
joined P t [] all = tt
joined P t (s ∷ ss) (first, rest) = all_both P (receipts_of t s) (all_receipts t ss) first (joined P t ss rest)

apart : (P : ReceiptState → Type 0) (t : ℕ) (ss : List SeatState) → AllByRecursion P (all_receipts t ss) → AllByRecursion (λ s. AllByRecursion P (receipts_of t s)) ss
apart P t [] all = tt
apart P t (s ∷ ss) all = (all_left P (receipts_of t s) (all_receipts t ss) all, apart P t ss (all_right P (receipts_of t s) (all_receipts t ss) all))

-- the receipts are the events, and the places of each seat ascend
pub agrees : (c : CellState) (began : ℕ) (ss : List SeatState) → AllByRecursion (AreEntries c) ss → AllByRecursion (λ r. began < r.place) (all_receipts (id_of c) ss)
    → ((place : ℕ) → began < place → place ≤ events_of c → times place (all_receipts (id_of c) ss) ≡ 1)
    → AllByRecursion (λ s. PlacesRise 0 (receipts_of (id_of c) s) (seen_of (id_of c) s)) ss → Agree c began ss
agrees c began ss own after once rise = record {
  once = once;
  own = both_hold (λ r. began < r.place) (IsEntry c) (all_receipts (id_of c) ss) after (joined (IsEntry c) (id_of c) ss own);
  rise = rise;
}

pub agrees_after : (c : CellState) (began : ℕ) (ss : List SeatState) → Agree c began ss → AllByRecursion (λ r. began < r.place) (all_receipts (id_of c) ss)
agrees_after c began ss agree = all_so (λ r. (began < r.place) × IsEntry c r) (λ r. began < r.place) (λ r own. own.0) (all_receipts (id_of c) ss) agree.own

pub agrees_entries : (c : CellState) (began : ℕ) (ss : List SeatState) → Agree c began ss → AllByRecursion (AreEntries c) ss
agrees_entries c began ss agree = apart (IsEntry c) (id_of c) ss (all_so (λ r. (began < r.place) × IsEntry c r) (IsEntry c) (λ r own. own.1) (all_receipts (id_of c) ss) agree.own)

-- a stray rules out agreement
pub stray_belies : (c : CellState) (began number : ℕ) (ss : List SeatState) → IsLeastStray c ss number → Agree c began ss → ⊥
stray_belies c began number ss stray agree =
    none_of_all (AreEntries c) (λ s. (s.number ≡ number) × (AreEntries c s → ⊥)) ss (λ s own not_so. not_so.1 own) (agrees_entries c began ss agree) stray.0

-- ---- what a comparison returns

pub strays_none : (c : CellState) (ss : List SeatState) (o : Option ℕ) → is_some o ≡ false → Strays c ss o → AllByRecursion (AreEntries c) ss
strays_none c ss None not_so strays = strays
strays_none c ss (Some number) not_so strays = absurd (true≢false not_so)

pub compares_stray : (c : CellState) (began : ℕ) (ss : List SeatState) (o : Option ℕ) → is_some o ≡ true → Strays c ss o → Compares c began ss o
compares_stray c began ss None is strays = absurd (true≢false (sym is))
compares_stray c began ss (Some number) is strays = (stray_belies c began number ss strays, inl strays)

pub compares_else : (c : CellState) (began : ℕ) (ss : List SeatState) → AllByRecursion (AreEntries c) ss → (Agree c began ss → ⊥) → Compares c began ss (Some 0)
compares_else c began ss own not_so = (not_so, inr (own, refl))

-- whether each of the events is a receipt once, if all receipts are of later places
pub agree_where : (b : Bool) (c : CellState) (began : ℕ) (ss : List SeatState) → AllByRecursion (AreEntries c) ss → AllByRecursion (λ r. began < r.place) (all_receipts (id_of c) ss)
    → AllByRecursion (λ s. PlacesRise 0 (receipts_of (id_of c) s) (seen_of (id_of c) s)) ss
    → MatchBool b ((place : ℕ) → began < place → place ≤ events_of c → times place (all_receipts (id_of c) ss) ≡ 1) (((place : ℕ) → began < place → place ≤ events_of c → times place (all_receipts (id_of c) ss) ≡ 1) → ⊥)
    → MatchBool b (Agree c began ss) (Agree c began ss → ⊥)
agree_where true c began ss own after rise once = agrees c began ss own after once rise
agree_where false c began ss own after rise not_so = λ agree. not_so agree.once

abbrev Once : ℕ → ℕ → List SeatState → ℕ → Type 0
Once t began ss last = (place : ℕ) → began < place → place ≤ last → times place (all_receipts t ss) ≡ 1

-- the same, with the table's id and its count of events as they were read
pub agree_at : (b : Bool) (c : CellState) (began : ℕ) (ss : List SeatState) (t last : ℕ) → t ≡ id_of c → last ≡ events_of c → AllByRecursion (AreEntries c) ss
    → AllByRecursion (λ r. began < r.place) (all_receipts t ss) → AllByRecursion (λ s. PlacesRise 0 (receipts_of t s) (seen_of t s)) ss
    → MatchBool b (Once t began ss last) (Once t began ss last → ⊥) → MatchBool b (Agree c began ss) (Agree c began ss → ⊥)
agree_at b c began ss t last is_table is_last own after rise once =
    agree_where b c began ss own
    (subst (λ (id : ℕ). AllByRecursion (λ (r : ReceiptState). began < r.place) (all_receipts id ss)) is_table after)
    (subst (λ (id : ℕ). AllByRecursion (λ (s : SeatState). PlacesRise 0 (receipts_of id s) (seen_of id s)) ss) is_table rise)
    (subst (λ (n : ℕ). MatchBool b (Once (id_of c) began ss n) (Once (id_of c) began ss n → ⊥)) is_last (subst (λ (id : ℕ). MatchBool b (Once id began ss last) (Once id began ss last → ⊥)) is_table once))

-- if some receipt isn't of a later place
pub agree_not_at : (c : CellState) (began : ℕ) (ss : List SeatState) (t : ℕ) → t ≡ id_of c
    → (AllByRecursion (λ r. began < r.place) (all_receipts t ss) → ⊥) → Agree c began ss → ⊥
agree_not_at c began ss t is_table before agree =
    before (subst (λ (id : ℕ). AllByRecursion (λ (r : ReceiptState). began < r.place) (all_receipts id ss)) (sym is_table) (agrees_after c began ss agree))
