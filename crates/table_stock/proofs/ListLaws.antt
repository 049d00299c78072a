-- Rows that are listed by their keys.
use Rattle.std.proofs.Common.{◌≡◌, ℕ, ◌+◌, ◌≤◌, Bool, true, false, List, [], ◌∷◌, ◌++◌, length, take, take_all, Option, Some, None, Result, Ok, Err, IfOk, OnOk, refl, sym, ap, ◌∙◌, subst, arith, append_assoc, length-append}
use Rattle.std.specs.Prelude.{filter}
use Rattle.std.specs.List.{AllByRecursion, cons_option}
use Rattle.std.specs.List.Sorted.{IsStrictlySortedBy}
use Rattle.std.specs.Map.{keys_of}
use Rattle.std.specs.declared.cmp.Ordering.TheVariants.{Less}
use Rattle.std.specs.Ordering.{is_eq}
use Rattle.std.proofs.lemmas.Bool.{cond-false, cond-true}
use Rattle.std.proofs.lemmas.Option.{none-some}
use Rattle.table_types.specs.declared.key.Key.{Key}
use Rattle.table_types.specs.Keys.{key_cmp}
use Rattle.table_types.specs.Rows.{StoredRow}
use Rattle.table_types.proofs.EqualKeysAreOne.{one_key}
use Rattle.table_rows.specs.declared.row_end.RowEnd.{RowEnd}
use Rattle.table_rows.specs.Rows.{follows, row_at, rows_after}
use Rattle.table_stock.specs.Shelves.{AreShelved, listed, row_alone, rows_in, slot_of}
use Rattle.table_stock.specs.Stock.{AreInRisingKey, AreNextInRisingKey}
use Rattle.table_stock.proofs.StockLaws.{key-same}
use Rattle.table_stock.proofs.ShelfLaws.{in_slot, no_slot}

-- each key's slot has a row of that key
abbrev AllStand : (ℕ → Option (Key × StoredRow)) → List (Key × ℕ) → Type 0
AllStand at keys = AllByRecursion (λ (e : Key × ℕ). (row : StoredRow) × (at e.1 ≡ Some (e.0, row))) keys

-- a key that is below these has no slot among them
none_above : (key : Key) (keys : List (Key × ℕ)) → AllByRecursion (λ q. key_cmp key q ≡ Less) (keys_of keys) → slot_of key keys ≡ None
none_above key [] below = refl
none_above key (e ∷ es) below = cond-false (is_eq (key_cmp key e.0)) (Some e.1) (slot_of key es) (ap is_eq below.0) ∙ none_above key es below.1

all_stand : (at : ℕ → Option (Key × StoredRow)) (keys : List (Key × ℕ)) → IsStrictlySortedBy key_cmp (keys_of keys) → ((key : Key) (slot : ℕ) → slot_of key keys ≡ Some slot → (row : StoredRow) × (at slot ≡ Some (key, row))) → AllStand at keys
unfolding IsStrictlySortedBy
all_stand at [] rising found = tt
all_stand at (e ∷ es) rising found = (found e.0 e.1 (cond-true (is_eq (key_cmp e.0 e.0)) (Some e.1) (slot_of e.0 es) (key-same e.0)), all_stand at es rising.1 further)
  where
    further : (key : Key) (slot : ℕ) → slot_of key es ≡ Some slot → (row : StoredRow) × (at slot ≡ Some (key, row))
    further key slot is = by (is_eq (key_cmp key e.0)) refl
      where
        by : (b : Bool) → is_eq (key_cmp key e.0) ≡ b → (row : StoredRow) × (at slot ≡ Some (key, row))
        by true tied = absurd (none-some slot (sym (none_above e.0 es rising.0) ∙ ap (λ (q : Key). slot_of q es) (sym (one_key key e.0 tied)) ∙ is))
        by false loose = found key slot (cond-false (is_eq (key_cmp key e.0)) (Some e.1) (slot_of key es) loose ∙ is)

keys_listed : (at : ℕ → Option (Key × StoredRow)) (keys : List (Key × ℕ)) → AllStand at keys → keys_of (listed at keys) ≡ keys_of keys
keys_listed at [] stand = refl
keys_listed at (e ∷ es) ((row, is), rest) =
    ap (λ (o : Option (Key × StoredRow)). keys_of (cons_option o (listed at es))) is
    ∙ ap (λ (ks : List Key). e.0 ∷ ks) (keys_listed at es rest)

row_listed : (at : ℕ → Option (Key × StoredRow)) (keys : List (Key × ℕ)) → AllStand at keys → (key : Key) (want : Option StoredRow) → (slot_of key keys ≡ None → want ≡ None) → ((slot : ℕ) → slot_of key keys ≡ Some slot → row_alone (at slot) ≡ want) → row_at key (listed at keys) ≡ want
row_listed at [] stand key want none some = sym (none refl)
row_listed at (e ∷ es) ((row, is), rest) key want none some =
    ap (λ (o : Option (Key × StoredRow)). row_at key (cons_option o (listed at es))) is
    ∙ by (is_eq (key_cmp key e.0)) refl (λ new named. row_listed at es rest key want new named)
  where
    by : (b : Bool) → is_eq (key_cmp key e.0) ≡ b → ((slot_of key es ≡ None → want ≡ None) → ((slot : ℕ) → slot_of key es ≡ Some slot → row_alone (at slot) ≡ want) → row_at key (listed at es) ≡ want) → row_at key ((e.0, row) ∷ listed at es) ≡ want
    by true tied further =
        cond-true (is_eq (key_cmp key e.0)) (Some row) (row_at key (listed at es)) tied
        ∙ sym (ap row_alone is)
        ∙ some e.1 (cond-true (is_eq (key_cmp key e.0)) (Some e.1) (slot_of key es) tied)
    by false loose further =
        let before : slot_of key (e ∷ es) ≡ slot_of key es = cond-false (is_eq (key_cmp key e.0)) (Some e.1) (slot_of key es) loose in
        cond-false (is_eq (key_cmp key e.0)) (Some row) (row_at key (listed at es)) loose
        ∙ further (λ new. none (before ∙ new)) (λ slot named. some slot (before ∙ named))

after_listed : (at : ℕ → Option (Key × StoredRow)) (after : Option Key) (keys : List (Key × ℕ)) → AllStand at keys → rows_after after (listed at keys) ≡ listed at (filter (λ e. follows after e.0) keys)
after_listed at after [] stand = refl
after_listed at after (e ∷ es) ((row, is), rest) =
    ap (λ (o : Option (Key × StoredRow)). rows_after after (cons_option o (listed at es))) is
    ∙ by (follows after e.0) refl (after_listed at after es rest)
  where
    by : (b : Bool) → follows after e.0 ≡ b → rows_after after (listed at es) ≡ listed at (filter (λ q. follows after q.0) es) → rows_after after ((e.0, row) ∷ listed at es) ≡ listed at (filter (λ q. follows after q.0) (e ∷ es))
    by true passes further =
        cond-true (follows after e.0) ((e.0, row) ∷ rows_after after (listed at es)) (rows_after after (listed at es)) passes
        ∙ ap (λ (l : List (Key × StoredRow)). (e.0, row) ∷ l) further
        ∙ ap (λ (o : Option (Key × StoredRow)). cons_option o (listed at (filter (λ q. follows after q.0) es))) (sym is)
        ∙ sym (ap (listed at) (cond-true (follows after e.0) (e ∷ filter (λ q. follows after q.0) es) (filter (λ q. follows after q.0) es) passes))
    by false fails further =
        cond-false (follows after e.0) ((e.0, row) ∷ rows_after after (listed at es)) (rows_after after (listed at es)) fails
        ∙ further
        ∙ sym (ap (listed at) (cond-false (follows after e.0) (e ∷ filter (λ q. follows after q.0) es) (filter (λ q. follows after q.0) es) fails))

-- ---- what is listed of a stock

module _ (keys : List (Key × ℕ)) (at : ℕ → Option (Key × StoredRow)) (log : List (ℕ × ℕ)) (next : ℕ) (ends : List RowEnd) (shelved : AreShelved keys at log next ends) (rising : IsStrictlySortedBy key_cmp (keys_of keys)) where
  stand : AllStand at keys
  stand = all_stand at keys rising shelved.found

  pub rising_listed : IsStrictlySortedBy key_cmp (keys_of (listed at keys))
  rising_listed = subst (IsStrictlySortedBy key_cmp) (sym (keys_listed at keys stand)) rising

  pub each_listed : (key : Key) → row_at key (listed at keys) ≡ row_at key (rows_in at log)
  each_listed key = row_listed at keys stand key (row_at key (rows_in at log)) (no_slot keys at log next ends shelved key) (λ slot is. in_slot keys at log next ends shelved key slot (at slot) is refl)

  pub next_listed : (after : Option Key) (most : ℕ) (list : List (Key × StoredRow)) → list ≡ take most (listed at (filter (λ e. follows after e.0) keys)) → AreNextInRisingKey after most (rows_in at log) list
  next_listed after most list is = (listed at keys, (rising_listed, each_listed), is ∙ ap (take most) (sym (after_listed at after keys stand)))

-- ---- loops over keys

pub all_follow : {X : Type 0} (xs : List X) → filter (λ _. true) xs ≡ xs
all_follow [] = refl
all_follow {X = X} (x ∷ xs) = ap (λ (l : List X). x ∷ l) (all_follow xs)

pub fewer_listed : (at : ℕ → Option (Key × StoredRow)) (keys : List (Key × ℕ)) → length (listed at keys) ≤ length keys
fewer_listed at [] = omega arith
fewer_listed at (e ∷ es) = by (at e.1) (fewer_listed at es)
  where
    by : (o : Option (Key × StoredRow)) → length (listed at es) ≤ length es → length (cons_option o (listed at es)) ≤ length (e ∷ es)
    by None rest = omega (arith, rest)
    by (Some row) rest = omega (arith, rest)

pub one_more_listed : (o : Option (Key × StoredRow)) (rows : List (Key × StoredRow)) → cons_option o [] ++ rows ≡ cons_option o rows
one_more_listed None rows = refl
one_more_listed (Some e) rows = refl

-- a row is pushed
pub listed_on : (at : ℕ → Option (Key × StoredRow)) (done new all : List (Key × StoredRow)) (iter rest : List (Key × ℕ)) (e : Key × ℕ) → iter ≡ e ∷ rest → new ≡ done ++ cons_option (at e.1) [] → done ++ listed at iter ≡ all → new ++ listed at rest ≡ all
listed_on at done new all iter rest e steps pushed before =
    ap (λ (l : List (Key × StoredRow)). l ++ listed at rest) pushed
    ∙ append_assoc done (cons_option (at e.1) []) (listed at rest)
    ∙ ap (λ (l : List (Key × StoredRow)). done ++ l) (one_more_listed (at e.1) (listed at rest) ∙ sym (ap (listed at) steps))
    ∙ before

pub one_longer : (done new : List (Key × StoredRow)) (o : Option (Key × StoredRow)) → new ≡ done ++ cons_option o [] → length new ≤ length done + 1
one_longer done new o pushed =
    let sizes : length new ≡ length done + length (cons_option o []) = ap (λ (l : List (Key × StoredRow)). length l) pushed ∙ length-append done (cons_option o []) in
    let few = at_most_one o in
    omega (arith, sizes, few)
  where
    at_most_one : (q : Option (Key × StoredRow)) → length (cons_option q []) ≤ 1
    at_most_one None = omega arith
    at_most_one (Some e) = omega arith

-- ---- results

-- all keys are asked for
pub all_taken : (at : ℕ → Option (Key × StoredRow)) (keys : List (Key × ℕ)) (count : ℕ) → count ≡ length keys → take count (listed at (filter (λ e. follows None e.0) keys)) ≡ listed at keys
all_taken at keys count is =
    let few = fewer_listed at keys in
    ap (λ (ks : List (Key × ℕ)). take count (listed at ks)) (all_follow keys) ∙ take_all count (listed at keys) (omega (arith, few, is))

pub next_copied : {X E : Type 0} (r : Result X E) (items : X → List (Key × StoredRow)) (keys : List (Key × ℕ)) (at : ℕ → Option (Key × StoredRow)) (log : List (ℕ × ℕ)) (next : ℕ) (ends : List RowEnd) → AreShelved keys at log next ends → (after : Option Key) (most : ℕ)
    → IfOk r (λ v. items v ≡ take most (listed at (filter (λ e. follows after e.0) keys))) → OnOk r (IsStrictlySortedBy key_cmp (keys_of keys)) → IfOk r (λ v. AreNextInRisingKey after most (rows_in at log) (items v))
next_copied (Ok v) items keys at log next ends shelved after most is rising = next_listed keys at log next ends shelved rising after most (items v) is
next_copied (Err error) items keys at log next ends shelved after most is rising = tt
