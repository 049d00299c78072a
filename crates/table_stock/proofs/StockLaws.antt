-- Rows with their numbers: what is looked up, and what is put and removed.
use Rattle.std.proofs.Common.{◌≡◌, ℕ, ◌+◌, ◌<◌, ◌^◌, Bool, true, false, cond, not, List, [], ◌∷◌, ◌++◌, Option, Some, None, refl, sym, ap, ◌∙◌, arith}
use Rattle.std.specs.List.{AllByRecursion}
use Rattle.std.specs.Cmp.{eq_by_cmp_equiv}
use Rattle.std.specs.Ordering.{is_eq}
use Rattle.table_types.specs.declared.key.Key.{Key}
use Rattle.table_types.specs.Keys.{key_cmp}
use Rattle.table_types.specs.KeyOrder.{key_cmp_total}
use Rattle.table_types.specs.Rows.{StoredRow}
use Rattle.table_types.proofs.EqualKeysAreOne.{key_cmp-same, one_key}
use Rattle.table_rows.specs.Rows.{row_at}
use Rattle.table_stock.specs.NumberedRows.{KeysDiffer, without}
use Rattle.table_stock.specs.Stock.{IsStock, stocked}
use Rattle.table_stock.proofs.RowsLaws.{differ_end, differ_filter, rise_end, rise_filter, some_none, without_none}

pub key-same : (key : Key) → is_eq (key_cmp key key) ≡ true
key-same key = ap is_eq (key_cmp-same key)

pub one_turned : (a b : Key) → is_eq (key_cmp a b) ≡ is_eq (key_cmp b a)
one_turned a b = (eq_by_cmp_equiv key_cmp_total).symm a b

pub apart_from : (b : Bool) → b ≡ true → b ≡ false → ⊥
apart_from b holds fails = let both : true ≡ false = sym holds ∙ fails in cc

pub same_row : (a b : StoredRow) → ◌≡◌ {A = Option StoredRow} (Some a) (Some b) → a ≡ b
same_row a b e = cc

-- ---- what is looked up

-- what holds of each key and row that is found holds of each entry
pub all_found : (es : List (Key × StoredRow)) → KeysDiffer es → (T : Key × StoredRow → Type 0) → ((k : Key) (row : StoredRow) → row_at k es ≡ Some row → T (k, row)) → AllByRecursion T es
all_found [] differ T h = tt
all_found (e ∷ es) (none, differ) T h = (h e.0 e.1 (rw (key-same e.0) refl), all_found es differ T (λ k row at. h k row (further k row at)))
  where
    further : (k : Key) (row : StoredRow) → row_at k es ≡ Some row → row_at k (e ∷ es) ≡ Some row
    further k row at = by (is_eq (key_cmp k e.0)) refl
      where
        by : (b : Bool) → is_eq (key_cmp k e.0) ≡ b → row_at k (e ∷ es) ≡ Some row
        by true same = absurd (some_none row (sym at ∙ ap (λ (q : Key). row_at q es) (one_key k e.0 same) ∙ none))
        by false other = rw other at

-- what holds of each entry holds of each row that is found
pub found_in : (es : List (Key × StoredRow)) (T : Key × StoredRow → Type 0) → AllByRecursion T es → (k : Key) (row : StoredRow) → row_at k es ≡ Some row → T (k, row)
found_in [] T all k row at = absurd cc
found_in (e ∷ es) T (first, rest) k row at = by (is_eq (key_cmp k e.0)) refl (λ there. found_in es T rest k row there)
  where
    by : (b : Bool) → is_eq (key_cmp k e.0) ≡ b → (row_at k es ≡ Some row → T (k, row)) → T (k, row)
    by true same further =
        let one : k ≡ e.0 = one_key k e.0 same in
        let stored : e.1 ≡ row = same_row e.1 row (sym (rw same refl) ∙ at) in
        rw (one, ← stored) first
    by false other further = further (sym (rw other refl) ∙ at)

-- a row is appended in place of the key's
pub rows-put : (es : List (Key × StoredRow)) (key : Key) (row : StoredRow) (k : Key) → row_at k (without key es ++ (key, row) ∷ []) ≡ cond (is_eq (key_cmp key k)) (Some row) (row_at k es)
rows-put [] key row k = ap (λ (b : Bool). cond b (Some row) None) (one_turned k key)
rows-put (e ∷ es) key row k = by (is_eq (key_cmp key e.0)) refl (is_eq (key_cmp k e.0)) refl (is_eq (key_cmp key k)) refl (rows-put es key row k)
  where
    by : (a : Bool) → is_eq (key_cmp key e.0) ≡ a → (b : Bool) → is_eq (key_cmp k e.0) ≡ b → (c : Bool) → is_eq (key_cmp key k) ≡ c → row_at k (without key es ++ (key, row) ∷ []) ≡ cond (is_eq (key_cmp key k)) (Some row) (row_at k es)
        → row_at k (without key (e ∷ es) ++ (key, row) ∷ []) ≡ cond (is_eq (key_cmp key k)) (Some row) (row_at k (e ∷ es))
    by true here b tied true same rest = rw here (rest ∙ rw same refl)
    by true here true tied false other rest =
        absurd (apart_from (is_eq (key_cmp key k)) (ap (λ (q : Key). is_eq (key_cmp key q)) (one_key k e.0 tied) ∙ here) other)
    by true here false apart false other rest = rw here (rest ∙ rw (other, apart) refl)
    by false there true tied true same rest =
        absurd (apart_from (is_eq (key_cmp key e.0)) (ap (λ (q : Key). is_eq (key_cmp key q)) (sym (one_key k e.0 tied)) ∙ same) there)
    by false there true tied false other rest = rw (there, tied, other) refl
    by false there false apart c is rest = rw (there, apart) rest

pub rows-without : (es : List (Key × StoredRow)) (key k : Key) → row_at k (without key es) ≡ cond (is_eq (key_cmp key k)) None (row_at k es)
rows-without [] key k = by (is_eq (key_cmp key k))
  where
    by : (b : Bool) → ◌≡◌ {A = Option StoredRow} None (cond b None None)
    by true = refl
    by false = refl
rows-without (e ∷ es) key k = by (is_eq (key_cmp key e.0)) refl (is_eq (key_cmp k e.0)) refl (is_eq (key_cmp key k)) refl (rows-without es key k)
  where
    by : (a : Bool) → is_eq (key_cmp key e.0) ≡ a → (b : Bool) → is_eq (key_cmp k e.0) ≡ b → (c : Bool) → is_eq (key_cmp key k) ≡ c → row_at k (without key es) ≡ cond (is_eq (key_cmp key k)) None (row_at k es)
        → row_at k (without key (e ∷ es)) ≡ cond (is_eq (key_cmp key k)) None (row_at k (e ∷ es))
    by true here b tied true same rest = rw here (rest ∙ rw same refl)
    by true here true tied false other rest =
        absurd (apart_from (is_eq (key_cmp key k)) (ap (λ (q : Key). is_eq (key_cmp key q)) (one_key k e.0 tied) ∙ here) other)
    by true here false apart false other rest = rw here (rest ∙ rw (other, apart) refl)
    by false there true tied true same rest =
        absurd (apart_from (is_eq (key_cmp key e.0)) (ap (λ (q : Key). is_eq (key_cmp key q)) (sym (one_key k e.0 tied)) ∙ same) there)
    by false there true tied false other rest = rw (there, tied, other) refl
    by false there false apart c is rest = rw (there, apart) rest

-- ---- a stock

pub put_sound : (rows : List (Key × StoredRow)) (next : ℕ) (key : Key) (row : StoredRow) → row.number ≡ next → next < 2 ^ 32 → IsStock (stocked next rows) → IsStock (stocked (next + 1) (without key rows ++ (key, row) ∷ []))
put_sound rows next key row is left sound = record {
  numbers = rise_end 1 next (without key rows) key row is (rise_filter (λ e. not (is_eq (key_cmp key e.0))) 1 next rows sound.numbers);
  keys = differ_end key row (without key rows) (differ_filter (λ e. not (is_eq (key_cmp key e.0))) rows sound.keys) (without_none key rows);
  most = omega (arith, left);
}

pub taken_sound : (rows : List (Key × StoredRow)) (next : ℕ) (key : Key) → IsStock (stocked next rows) → IsStock (stocked next (without key rows))
taken_sound rows next key sound = record {
  numbers = rise_filter (λ e. not (is_eq (key_cmp key e.0))) 1 next rows sound.numbers;
  keys = differ_filter (λ e. not (is_eq (key_cmp key e.0))) rows sound.keys;
  most = sound.most;
}
