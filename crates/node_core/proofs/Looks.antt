-- The looks at a next number that are kept, and those that there were.
use Rattle.std.proofs.Common.{◌≡◌, ◌<◌, ◌⊎◌, ℕ, zero, suc, List, [], ◌∷◌, ◌++◌, length, take, drop, Option, Some, None, refl, sym, ap, subst, ◌∙◌, inl, inr, arith}
use Rattle.std.specs.Prelude.{nat_lt, ◌==◌}
use Rattle.std.specs.List.{AllByRecursion, remove}
use Rattle.std.proofs.lemmas.Bool.{cases_Bool, cond_both, cond-true, cond-false, ltb-true}
use Rattle.node_core.specs.declared.number_times.Look.{Look}
use Rattle.node_core.specs.NumberTimes.{IsAmong, last_next, noted, noted_all, noted_from, of_use, since, spare, thinned, without}

-- ---- what holds of each look holds of each that is kept

all_taken : (P : Look → Type 0) (n : ℕ) (looks : List Look) → AllByRecursion P looks → AllByRecursion P (take n looks)
all_taken P zero looks all = tt
all_taken P (suc n) [] all = tt
all_taken P (suc n) (look ∷ looks) (first, rest) = (first, all_taken P n looks rest)

all_dropped : (P : Look → Type 0) (n : ℕ) (looks : List Look) → AllByRecursion P looks → AllByRecursion P (drop n looks)
all_dropped P zero looks all = all
all_dropped P (suc n) [] all = tt
all_dropped P (suc n) (look ∷ looks) (first, rest) = all_dropped P n looks rest

all_joined : (P : Look → Type 0) (looks more : List Look) → AllByRecursion P looks → AllByRecursion P more → AllByRecursion P (looks ++ more)
all_joined P [] more all rest = rest
all_joined P (look ∷ looks) more (first, all) rest = (first, all_joined P looks more all rest)

all_without : (P : Look → Type 0) (index : Option ℕ) (looks : List Look) → AllByRecursion P looks → AllByRecursion P (without index looks)
all_without P None looks all = cond_both (nat_lt 512 (length looks)) (drop 1 looks) looks (AllByRecursion P) (λ _. all_dropped P 1 looks all) (λ _. all)
all_without P (Some index) looks all = all_joined P (take index looks) (drop (suc index) looks) (all_taken P index looks all) (all_dropped P (suc index) looks all)

all_of_use : (P : Look → Type 0) (next : ℕ) (looks : List Look) → AllByRecursion P looks → AllByRecursion P (of_use next looks)
all_of_use P next looks all = cond_both (nat_lt next (last_next looks)) [] looks (AllByRecursion P) (λ _. tt) (λ _. all)

all_noted : (P : Look → Type 0) (look : Look) (looks : List Look) → AllByRecursion P looks → P look → AllByRecursion P (noted look.time look.next looks)
all_noted P look looks all new =
    let more : List Look = of_use look.next looks ++ look ∷ [] in
    cond_both (look.next == last_next looks) looks (thinned look.time more) (AllByRecursion P)
    (λ _. all)
    (λ _. all_without P (spare look.time more) more (all_joined P (of_use look.next looks) (look ∷ []) (all_of_use P look.next looks all) (new, tt)))

all_from : (P : Look → Type 0) (kept looks : List Look) → AllByRecursion P kept → AllByRecursion P looks → AllByRecursion P (noted_from kept looks)
all_from P kept [] all rest = all
all_from P kept (look ∷ looks) all (first, rest) = all_from P (noted look.time look.next kept) looks (all_noted P look kept all first) rest

-- ---- the looks that there were

among_more : (look : Look) (looks some : List Look) → AllByRecursion (IsAmong looks) some → AllByRecursion (IsAmong (look ∷ looks)) some
among_more look looks [] all = tt
among_more look looks (one ∷ some) (first, rest) = (inr first, among_more look looks some rest)

among_all : (looks : List Look) → AllByRecursion (IsAmong looks) looks
among_all [] = tt
among_all (look ∷ looks) = (inl refl, among_more look looks looks (among_all looks))

is_some : {A : Type 0} (x y : A) → Some x ≡ Some y → x ≡ y
is_some x y same = cc

found : (P : Look → Type 0) (number time : ℕ) (looks : List Look) → AllByRecursion P looks → since number looks ≡ Some time → (look : Look) × P look × (look.time ≡ time) × (number < look.next)
found P number time [] all is = absurd cc
found P number time (look ∷ looks) (first, rest) is = elim (cases_Bool (nat_lt number look.next)) [
  | inl above ↦ (look, first, is_some look.time time (sym (cond-true (nat_lt number look.next) (Some look.time) (since number looks) above) ∙ is), ltb-true number look.next above)
  | inr below ↦ found P number time looks rest (sym (cond-false (nat_lt number look.next) (Some look.time) (since number looks) below) ∙ is)
]

pub seen_assigned : (looks : List Look) (number time : ℕ) → since number (noted_all looks) ≡ Some time → (look : Look) × IsAmong looks look × (look.time ≡ time) × (number < look.next)
seen_assigned looks number time is = found (IsAmong looks) number time (noted_all looks) (all_from (IsAmong looks) [] looks tt (among_all looks)) is
