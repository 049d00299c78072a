-- The rows that a session has not acknowledged, one after another.
use Rattle.std.proofs.Common.{◌≡◌, ℕ, suc, ◌+◌, ◌-◌, ◌<◌, ◌≤◌, Bool, true, false, ◌&&◌, List, [], ◌∷◌, ◌++◌, length, refl, sym, ap, ◌∙◌, arith, inl, inr, append_assoc}
use Rattle.std.specs.Prelude.{filter, map, take, nat_lt}
use Rattle.std.proofs.lemmas.List.{length-append}
use Rattle.std.proofs.lemmas.Bool.{cases_Bool, cond-true, cond-false}
use Rattle.table_types.specs.declared.key.Key.{Key}
use Rattle.table_types.specs.Rows.{StoredRow}
use Rattle.table_types.specs.declared.copies.CopyKind.{CopyKind}
use Rattle.table_rows.specs.Rows.{is_live}
use Rattle.table_cell.specs.Machine.{is_copied, is_unacked}

-- a copy of `kind` at `now` includes the row
abbrev pub is_due : CopyKind → ℕ → Key × StoredRow → Bool
is_due kind now e = is_copied kind e.1 && is_live now e.1

abbrev pub is_above : ℕ → Key × StoredRow → Bool
is_above n e = nat_lt n e.1.number

above_is : (kind : CopyKind) (n now : ℕ) (e : Key × StoredRow) → nat_lt n e.1.number ≡ true → is_unacked kind n now e ≡ is_due kind now e
above_is kind n now e above = ap (λ b. b && is_copied kind e.1 && is_live now e.1) above

below_is : (kind : CopyKind) (n now : ℕ) (e : Key × StoredRow) → nat_lt n e.1.number ≡ false → is_unacked kind n now e ≡ false
below_is kind n now e below = ap (λ b. b && is_copied kind e.1 && is_live now e.1) below

-- the rows above a number that a copy includes
pub due_above : (kind : CopyKind) (n now : ℕ) (rows : List (Key × StoredRow)) → filter (is_due kind now) (filter (is_above n) rows) ≡ filter (is_unacked kind n now) rows
due_above kind n now [] = refl
due_above kind n now (x ∷ xs) = elim (cases_Bool (nat_lt n x.1.number)) [
  | inl above ↦
      ap (filter (is_due kind now)) (cond-true (is_above n x) (x ∷ filter (is_above n) xs) (filter (is_above n) xs) above)
      ∙ elim (cases_Bool (is_due kind now x)) [
        | inl due ↦
            cond-true (is_due kind now x) (x ∷ filter (is_due kind now) (filter (is_above n) xs)) (filter (is_due kind now) (filter (is_above n) xs)) due
            ∙ ap (λ (l : List (Key × StoredRow)). x ∷ l) (due_above kind n now xs)
            ∙ sym (cond-true (is_unacked kind n now x) (x ∷ filter (is_unacked kind n now) xs) (filter (is_unacked kind n now) xs) (above_is kind n now x above ∙ due))
        | inr passed ↦
            cond-false (is_due kind now x) (x ∷ filter (is_due kind now) (filter (is_above n) xs)) (filter (is_due kind now) (filter (is_above n) xs)) passed
            ∙ due_above kind n now xs
            ∙ sym (cond-false (is_unacked kind n now x) (x ∷ filter (is_unacked kind n now) xs) (filter (is_unacked kind n now) xs) (above_is kind n now x above ∙ passed))
      ]
  | inr below ↦
      ap (filter (is_due kind now)) (cond-false (is_above n x) (x ∷ filter (is_above n) xs) (filter (is_above n) xs) below)
      ∙ due_above kind n now xs
      ∙ sym (cond-false (is_unacked kind n now x) (x ∷ filter (is_unacked kind n now) xs) (filter (is_unacked kind n now) xs) (below_is kind n now x below))
]

-- the next row, if it is chosen
pub next_chosen : {A : Type 0} (p : A → Bool) (e : A) (all rest : List A) → all ≡ e ∷ rest → p e ≡ true → filter p all ≡ e ∷ filter p rest
next_chosen p e all rest is passes = ap (filter p) is ∙ cond-true (p e) (e ∷ filter p rest) (filter p rest) passes

-- ---- the batch as it grows

one_more : {A B : Type 0} (f : A → B) (done : List B) (limit : ℕ) (e : A) (all rest : List A) → all ≡ e ∷ rest → length done < limit
    → (done ++ f e ∷ []) ++ take (limit - length (done ++ f e ∷ [])) (map f rest) ≡ done ++ take (limit - length done) (map f all)
one_more f done limit e all rest is more =
    let sizes : length (done ++ f e ∷ []) ≡ length done + 1 = length-append done (f e ∷ []) in
    let left : suc (limit - length (done ++ f e ∷ [])) ≡ limit - length done = omega arith in
    append_assoc done (f e ∷ []) (take (limit - length (done ++ f e ∷ [])) (map f rest))
    ∙ ap (λ n. done ++ take n (f e ∷ map f rest)) left
    ∙ ap (λ l. done ++ take (limit - length done) (map f l)) (sym is)

pub one_done : {A B : Type 0} (f : A → B) (done more x : List B) (limit : ℕ) (e : A) (b : B) (all rest : List A) → more ≡ done ++ b ∷ [] → b ≡ f e → all ≡ e ∷ rest → length done < limit
    → done ++ take (limit - length done) (map f all) ≡ x → more ++ take (limit - length more) (map f rest) ≡ x
one_done {B = B} f done more x limit e b all rest longer same is below before =
    let this : more ≡ done ++ f e ∷ [] = longer ∙ ap (λ (y : B). done ++ y ∷ []) same in
    ap (λ (l : List B). l ++ take (limit - length l) (map f rest)) this ∙ one_more f done limit e all rest is below ∙ before

pub none_done : {A B : Type 0} (f : A → B) (done : List B) (limit : ℕ) (all rest : List A) → done ≡ [] → all ≡ rest → done ++ take (limit - length done) (map f all) ≡ take limit (map f rest)
none_done {A = A} {B = B} f done limit all rest none same =
    let whole : limit - 0 ≡ limit = omega arith in
    ap (λ (l : List B). l ++ take (limit - length l) (map f all)) none ∙ ap (λ (n : ℕ). take n (map f all)) whole ∙ ap (λ (l : List A). take limit (map f l)) same

-- if a row is left and the batch isn't full, the batch isn't empty
pub some_found : {A B : Type 0} (f : A → B) (done x : List B) (limit : ℕ) (e : A) (all rest : List A) → all ≡ e ∷ rest → length done < limit → done ++ take (limit - length done) (map f all) ≡ x → 1 ≤ length x
some_found {A = A} {B = B} f done x limit e all rest is below before =
    let left : limit - length done ≡ suc (limit - (length done + 1)) = omega arith in
    let whole : x ≡ done ++ f e ∷ take (limit - (length done + 1)) (map f rest) =
    sym before ∙ ap (λ (l : List A). done ++ take (limit - length done) (map f l)) is ∙ ap (λ (n : ℕ). done ++ take n (f e ∷ map f rest)) left in
    let sizes : length x ≡ length done + suc (length (take (limit - (length done + 1)) (map f rest))) = ap (λ (l : List B). length l) whole ∙ length-append done (f e ∷ take (limit - (length done + 1)) (map f rest)) in
    omega (arith, sizes)
