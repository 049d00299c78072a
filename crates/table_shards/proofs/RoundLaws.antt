-- The seats with which a round begins.
use Rattle.std.proofs.Common.{◌≡◌, ℕ, zero, suc, ◌+◌, List, [], ◌∷◌, ◌++◌, map, refl, sym, ap, ◌∙◌, arith}
use Rattle.table_cell.specs.Histories.{CellState}
use Rattle.table_shards.specs.Receipts.{SeatState, fresh_seat}
use Rattle.table_shards.specs.declared.unlocked.UnlockedTable.{UnlockedTable}
use Rattle.table_shards.specs.Rounds.{begun, fresh_from, fresh_seats}
use Rattle.table_shards.specs.Audits.{table_rounds}

fresh_more : (first count : ℕ) → fresh_from first (count + 1) ≡ fresh_from first count ++ fresh_seat (first + count) ∷ []
fresh_more first zero =
    let same : first ≡ first + 0 = omega arith in
    ap (λ (n : ℕ). fresh_seat n ∷ []) same
fresh_more first (suc count) =
    let same : first + 1 + count ≡ first + suc count = omega arith in
    let step : suc count + 1 ≡ suc (count + 1) = omega arith in
    let later : fresh_from (first + 1) (count + 1) ≡ fresh_from (first + 1) count ++ fresh_seat (first + suc count) ∷ [] =
    fresh_more (first + 1) count ∙ ap (λ (n : ℕ). fresh_from (first + 1) count ++ fresh_seat n ∷ []) same in
    ap (λ (n : ℕ). fresh_from first n) step ∙ ap (λ (ss : List SeatState). fresh_seat first ∷ ss) later

pub one_seat_more : (count : ℕ) → fresh_seats count ++ fresh_seat (count + 1) ∷ [] ≡ fresh_seats (count + 1)
one_seat_more count =
    let same : count + 1 ≡ 1 + count = omega arith in
    ap (λ (n : ℕ). fresh_seats count ++ fresh_seat n ∷ []) same ∙ sym (fresh_more 1 count)

-- ---- tables moved one by one

pub map_append : {A B : Type 0} (f : A → B) (xs ys : List A) → map f (xs ++ ys) ≡ map f xs ++ map f ys
map_append f [] ys = refl
map_append f (x ∷ xs) ys = ap (λ zs. f x ∷ zs) (map_append f xs ys)

pub one_unlocked : (ts : List UnlockedTable) (t : UnlockedTable) (c : CellState) (taken : List CellState) → table_rounds ts ≡ map begun taken → (t.table, t.began, t.renewals) ≡ begun c
    → table_rounds (ts ++ t ∷ []) ≡ map begun (taken ++ c ∷ [])
one_unlocked ts t c taken so same =
    map_append (λ (x : UnlockedTable). (x.table, x.began, x.renewals)) ts (t ∷ [])
    ∙ ap (λ (xs : List (ℕ × ℕ × ℕ)). xs ++ (t.table, t.began, t.renewals) ∷ []) so
    ∙ ap (λ (x : ℕ × ℕ × ℕ). map begun taken ++ x ∷ []) same
    ∙ sym (map_append begun taken (c ∷ []))
