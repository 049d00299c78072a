-- Lists of rows: what remains of them, and a row appended to them.
use Rattle.std.proofs.Common.{◌≡◌, ℕ, suc, ◌+◌, ◌<◌, ◌≤◌, Bool, true, false, not, List, [], ◌∷◌, ◌++◌, length, Option, Some, None, refl, sym, ap, ◌∙◌, arith, inl, inr, true≢false}
use Rattle.std.specs.Prelude.{filter}
use Rattle.std.specs.List.{AllByRecursion}
use Rattle.std.specs.Ordering.{is_eq}
use Rattle.std.specs.Cmp.{eq_by_cmp_equiv}
use Rattle.std.proofs.lemmas.Bool.{cases_Bool, cond-true, cond-false, cond_both}
use Rattle.table_types.specs.declared.key.Key.{Key}
use Rattle.table_types.specs.Keys.{key_cmp}
use Rattle.table_types.specs.KeyOrder.{key_cmp_total}
use Rattle.table_types.specs.Rows.{StoredRow}
use Rattle.table_rows.specs.Rows.{row_at}
use Rattle.table_stock.specs.NumberedRows.{KeysDiffer, NumbersRise, without}

pub some_none : {A : Type 0} (x : A) → ◌≡◌ {A = Option A} (Some x) None → ⊥
some_none x e = cc

pub not_true : (b : Bool) → not b ≡ true → b ≡ false
not_true true e = absurd (true≢false (sym e))
not_true false e = refl

pub not_false : (b : Bool) → not b ≡ false → b ≡ true
not_false true e = refl
not_false false e = absurd (true≢false e)

-- ---- all

pub all_filter : {A : Type 0} (P : A → Type 0) (p : A → Bool) (xs : List A) → AllByRecursion P xs → AllByRecursion P (filter p xs)
all_filter P p [] all = all
all_filter P p (x ∷ xs) (first, rest) =
    let kept = all_filter P p xs rest in
    cond_both (p x) (x ∷ filter p xs) (filter p xs) (AllByRecursion P) (λ _. (first, kept)) (λ _. kept)

pub all_end : {A : Type 0} (P : A → Type 0) (x : A) (xs : List A) → AllByRecursion P xs → P x → AllByRecursion P (xs ++ x ∷ [])
all_end P x [] all last = (last, tt)
all_end P x (y ∷ ys) (first, rest) last = (first, all_end P x ys rest last)

pub all_so : {A : Type 0} (P Q : A → Type 0) (so : (x : A) → P x → Q x) (xs : List A) → AllByRecursion P xs → AllByRecursion Q xs
all_so P Q so [] all = all
all_so P Q so (x ∷ xs) (first, rest) = (so x first, all_so P Q so xs rest)

pub filter_shorter : {A : Type 0} (p : A → Bool) (xs : List A) → length (filter p xs) ≤ length xs
filter_shorter p [] = omega arith
filter_shorter p (x ∷ xs) =
    let rest = filter_shorter p xs in
    cond_both (p x) (x ∷ filter p xs) (filter p xs) (λ ys. length ys ≤ length (x ∷ xs)) (λ _. omega arith) (λ _. omega arith)

-- ---- numbers

pub rise_from_less : (a b next : ℕ) (es : List (Key × StoredRow)) → a ≤ b → NumbersRise b next es → NumbersRise a next es
rise_from_less a b next [] less rise = omega arith
rise_from_less a b next (e ∷ es) less (first, rest) = (omega arith, rest)

pub rise_filter : (p : Key × StoredRow → Bool) (a next : ℕ) (es : List (Key × StoredRow)) → NumbersRise a next es → NumbersRise a next (filter p es)
rise_filter p a next [] rise = rise
rise_filter p a next (e ∷ es) (first, rest) =
    let kept = rise_filter p (e.1.number + 1) next es rest in
    let less : a ≤ e.1.number + 1 = omega arith in
    cond_both (p e) (e ∷ filter p es) (filter p es) (NumbersRise a next) (λ _. (first, kept)) (λ _. rise_from_less a (e.1.number + 1) next (filter p es) less kept)

pub rise_end : (a next : ℕ) (es : List (Key × StoredRow)) (key : Key) (row : StoredRow) → row.number ≡ next → NumbersRise a next es → NumbersRise a (next + 1) (es ++ (key, row) ∷ [])
rise_end a next [] key row is rise = (omega arith, omega arith)
rise_end a next (e ∷ es) key row is (first, rest) = (first, rise_end (e.1.number + 1) next es key row is rest)

pub rise_bound : (a next : ℕ) (es : List (Key × StoredRow)) → NumbersRise a next es → a ≤ next
rise_bound a next [] rise = rise
rise_bound a next (e ∷ es) (first, rest) = let more = rise_bound (e.1.number + 1) next es rest in omega arith

-- each number lies between the bounds
pub rise_each : (a next : ℕ) (es : List (Key × StoredRow)) → NumbersRise a next es → AllByRecursion (λ (e : Key × StoredRow). (a ≤ e.1.number) × (e.1.number < next)) es
rise_each a next [] rise = tt
rise_each a next (e ∷ es) (first, rest) =
    let bound = rise_bound (e.1.number + 1) next es rest in
    ((first, omega arith), all_so (λ (x : Key × StoredRow). (e.1.number + 1 ≤ x.1.number) × (x.1.number < next)) (λ (x : Key × StoredRow). (a ≤ x.1.number) × (x.1.number < next)) (λ x (low, high). (omega arith, high)) es (rise_each (e.1.number + 1) next es rest))

-- ---- keys

pub none_parts : (key : Key) (e : Key × StoredRow) (es : List (Key × StoredRow)) → row_at key (e ∷ es) ≡ None → (is_eq (key_cmp key e.0) ≡ false) × (row_at key es ≡ None)
none_parts key e es none = elim (cases_Bool (is_eq (key_cmp key e.0))) [
  | inl tied ↦ absurd (some_none e.1 (sym (cond-true (is_eq (key_cmp key e.0)) (Some e.1) (row_at key es) tied) ∙ none))
  | inr other ↦ (other, sym (cond-false (is_eq (key_cmp key e.0)) (Some e.1) (row_at key es) other) ∙ none)
]

pub none_from : (key : Key) (e : Key × StoredRow) (es : List (Key × StoredRow)) → is_eq (key_cmp key e.0) ≡ false → row_at key es ≡ None → row_at key (e ∷ es) ≡ None
none_from key e es other none = cond-false (is_eq (key_cmp key e.0)) (Some e.1) (row_at key es) other ∙ none

pub none_filter : (key : Key) (p : Key × StoredRow → Bool) (es : List (Key × StoredRow)) → row_at key es ≡ None → row_at key (filter p es) ≡ None
none_filter key p [] none = none
none_filter key p (e ∷ es) none =
    let parts = none_parts key e es none in
    let kept = none_filter key p es parts.1 in
    cond_both (p e) (e ∷ filter p es) (filter p es) (λ (l : List (Key × StoredRow)). row_at key l ≡ None) (λ _. none_from key e (filter p es) parts.0 kept) (λ _. kept)

pub without_none : (key : Key) (es : List (Key × StoredRow)) → row_at key (without key es) ≡ None
without_none key [] = refl
without_none key (e ∷ es) =
    let rest = without_none key es in
    cond_both (not (is_eq (key_cmp key e.0))) (e ∷ without key es) (without key es) (λ (l : List (Key × StoredRow)). row_at key l ≡ None)
    (λ other. none_from key e (without key es) (not_true (is_eq (key_cmp key e.0)) other) rest)
    (λ _. rest)

pub differ_filter : (p : Key × StoredRow → Bool) (es : List (Key × StoredRow)) → KeysDiffer es → KeysDiffer (filter p es)
differ_filter p [] differ = differ
differ_filter p (e ∷ es) (first, rest) =
    let kept = differ_filter p es rest in
    cond_both (p e) (e ∷ filter p es) (filter p es) KeysDiffer (λ _. (none_filter e.0 p es first, kept)) (λ _. kept)

pub none_end : (other key : Key) (row : StoredRow) (es : List (Key × StoredRow)) → row_at other es ≡ None → is_eq (key_cmp other key) ≡ false → row_at other (es ++ (key, row) ∷ []) ≡ None
none_end other key row [] none apart = none_from other (key, row) [] apart refl
none_end other key row (e ∷ es) none apart =
    let parts = none_parts other e es none in
    none_from other e (es ++ (key, row) ∷ []) parts.0 (none_end other key row es parts.1 apart)

pub differ_end : (key : Key) (row : StoredRow) (es : List (Key × StoredRow)) → KeysDiffer es → row_at key es ≡ None → KeysDiffer (es ++ (key, row) ∷ [])
differ_end key row [] differ none = (refl, tt)
differ_end key row (e ∷ es) (first, rest) none =
    let parts = none_parts key e es none in
    let apart : is_eq (key_cmp e.0 key) ≡ false = (eq_by_cmp_equiv key_cmp_total).symm e.0 key ∙ parts.0 in
    (none_end e.0 key row es first apart, differ_end key row es rest parts.1)

-- if there is a row of the key, the list without it has one row less
pub without_shorter : (key : Key) (row : StoredRow) (es : List (Key × StoredRow)) → row_at key es ≡ Some row → length (without key es) + 1 ≤ length es
without_shorter key row [] at = absurd (some_none row (sym at))
without_shorter key row (e ∷ es) at = elim (cases_Bool (is_eq (key_cmp key e.0))) [
  | inl tied ↦
      let less = filter_shorter (λ (x : Key × StoredRow). not (is_eq (key_cmp key x.0))) es in
      let same : without key (e ∷ es) ≡ without key es = cond-false (not (is_eq (key_cmp key e.0))) (e ∷ without key es) (without key es) (ap not tied) in
      let sizes : length (without key (e ∷ es)) ≡ length (without key es) = ap (λ (l : List (Key × StoredRow)). length l) same in
      omega arith
  | inr other ↦
      let less = without_shorter key row es (sym (cond-false (is_eq (key_cmp key e.0)) (Some e.1) (row_at key es) other) ∙ at) in
      let same : without key (e ∷ es) ≡ e ∷ without key es = cond-true (not (is_eq (key_cmp key e.0))) (e ∷ without key es) (without key es) (ap not other) in
      let sizes : length (without key (e ∷ es)) ≡ suc (length (without key es)) = ap (λ (l : List (Key × StoredRow)). length l) same in
      omega arith
]
