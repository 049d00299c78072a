-- Putting an update changes one row.
use Rattle.std.proofs.Common.{◌≡◌, ◌≢◌, ◌⊎◌, ◌++◌, ℕ, suc, false, cond, List, [], ◌∷◌, length, Option, Some, refl, sym, ap, ◌∙◌, arith, inl, inr}
use Rattle.std.specs.declared.cmp.Ordering.{Ordering}
use Rattle.std.specs.declared.cmp.Ordering.TheVariants.{Less, Equal, Greater}
use Rattle.std.specs.Ordering.{is_eq, nat_cmp}
use Rattle.std.specs.Cmp.{nat_cmp_is}
use Rattle.std.specs.Cmp.Lexicographic.{slice_cmp}
use Rattle.std.specs.BTreeMap.{insert_entry}
use Rattle.std.proofs.lemmas.Bool.{cases_eq, eq-eqb, ne_eqb}
use Rattle.std.proofs.lemmas.Map.Lookups.{exact_bytes, exact_unsigned}
use Rattle.table_types.specs.declared.key.Key.{Key}
use Rattle.table_types.specs.declared.key.Key.TheVariants as keys
use Rattle.table_types.specs.declared.update.Update.{Update}
use Rattle.table_types.specs.Tables.{Definition}
use Rattle.table_types.specs.Rosters.{table_at}
use Rattle.table_types.specs.Rows.{StoredRow, row_of}
use Rattle.table_types.specs.Keys.{key_cmp}
use Rattle.learner.specs.Rows.{row_at, rows_at, put, put_all, AreOfOthers}

-- keys that compare as equal are equal
exact_keys : (a b : Key) → key_cmp a b ≡ Equal → a ≡ b
exact_keys (keys.Int a) (keys.Int b) h = ap (λ (n : ℕ). keys.Int n) (exact_unsigned a b h)
exact_keys (keys.Ip4 a) (keys.Ip4 b) h = ap (λ (n : List ℕ). keys.Ip4 n) (exact_bytes a b h)
exact_keys (keys.Ip6 a) (keys.Ip6 b) h = ap (λ (n : List ℕ). keys.Ip6 n) (exact_bytes a b h)
exact_keys (keys.Str a) (keys.Str b) h = ap (λ (n : List ℕ). keys.Str n) (exact_bytes a b h)
exact_keys (keys.Bin a) (keys.Bin b) h = ap (λ (n : List ℕ). keys.Bin n) (exact_bytes a b h)
exact_keys (keys.Int a) (keys.Ip4 b) h = absurd cc
exact_keys (keys.Int a) (keys.Ip6 b) h = absurd cc
exact_keys (keys.Int a) (keys.Str b) h = absurd cc
exact_keys (keys.Int a) (keys.Bin b) h = absurd cc
exact_keys (keys.Ip4 a) (keys.Int b) h = absurd cc
exact_keys (keys.Ip4 a) (keys.Ip6 b) h = absurd cc
exact_keys (keys.Ip4 a) (keys.Str b) h = absurd cc
exact_keys (keys.Ip4 a) (keys.Bin b) h = absurd cc
exact_keys (keys.Ip6 a) (keys.Int b) h = absurd cc
exact_keys (keys.Ip6 a) (keys.Ip4 b) h = absurd cc
exact_keys (keys.Ip6 a) (keys.Str b) h = absurd cc
exact_keys (keys.Ip6 a) (keys.Bin b) h = absurd cc
exact_keys (keys.Str a) (keys.Int b) h = absurd cc
exact_keys (keys.Str a) (keys.Ip4 b) h = absurd cc
exact_keys (keys.Str a) (keys.Ip6 b) h = absurd cc
exact_keys (keys.Str a) (keys.Bin b) h = absurd cc
exact_keys (keys.Bin a) (keys.Int b) h = absurd cc
exact_keys (keys.Bin a) (keys.Ip4 b) h = absurd cc
exact_keys (keys.Bin a) (keys.Ip6 b) h = absurd cc
exact_keys (keys.Bin a) (keys.Str b) h = absurd cc

nat_cmp-same : (n : ℕ) → nat_cmp n n ≡ Equal
nat_cmp-same n = sym (nat_cmp_is n n Equal refl)

bytes-same : (bs : List ℕ) → slice_cmp nat_cmp bs bs ≡ Equal
bytes-same [] = refl
bytes-same (b ∷ bs) = rw (nat_cmp-same b) (bytes-same bs)

key_cmp-same : (key : Key) → key_cmp key key ≡ Equal
key_cmp-same (keys.Int n) = nat_cmp-same n
key_cmp-same (keys.Ip4 bytes) = bytes-same bytes
key_cmp-same (keys.Ip6 bytes) = bytes-same bytes
key_cmp-same (keys.Str bytes) = bytes-same bytes
key_cmp-same (keys.Bin bytes) = bytes-same bytes

other_key : (a b : Key) → a ≢ b → is_eq (key_cmp a b) ≡ false
other_key a b other = at (key_cmp a b) refl
  where
    at : (o : Ordering) → key_cmp a b ≡ o → is_eq (key_cmp a b) ≡ false
    at Less e = rw e refl
    at Greater e = rw e refl
    at Equal e = absurd (other (exact_keys a b e))

-- what is put at a key is found there
put_here : (es : List (Key × StoredRow)) (key : Key) (row : StoredRow) → row_at key (insert_entry key_cmp es key row) ≡ Some row
put_here [] key row = rw (key_cmp-same key) refl
put_here (e ∷ es) key row = at (key_cmp key e.0) refl (put_here es key row)
  where
    at : (o : Ordering) → key_cmp key e.0 ≡ o → row_at key (insert_entry key_cmp es key row) ≡ Some row → row_at key (insert_entry key_cmp (e ∷ es) key row) ≡ Some row
    at Less is later = rw (is, key_cmp-same key) refl
    at Equal is later = rw (is, is) refl
    at Greater is later = rw (is, is) later

-- and what is at another key stays
put_there : (es : List (Key × StoredRow)) (key other : Key) (row : StoredRow) → other ≢ key → row_at other (insert_entry key_cmp es key row) ≡ row_at other es
put_there [] key other row differs = rw (other_key other key differs) refl
put_there (e ∷ es) key other row differs = at (key_cmp key e.0) refl (put_there es key other row differs)
  where
    at : (o : Ordering) → key_cmp key e.0 ≡ o → row_at other (insert_entry key_cmp es key row) ≡ row_at other es → row_at other (insert_entry key_cmp (e ∷ es) key row) ≡ row_at other (e ∷ es)
    at Less is later = rw (is, other_key other key differs) refl
    at Equal is later =
        let stored : key ≡ e.0 = exact_keys key e.0 is in
        let apart : is_eq (key_cmp other e.0) ≡ false = other_key other e.0 (λ same. differs (same ∙ sym stored)) in
        rw (is, apart) refl
    at Greater is later = rw is (ap (λ (o : Option StoredRow). cond (is_eq (key_cmp other e.0)) (Some e.1) o) later)

-- ---- among the tables

pub here : (now : ℕ) (roster : List Definition) (tables : List (List (Key × StoredRow))) (u : Update) (d : Definition) → length tables ≡ length roster → table_at roster u.table ≡ Some d → row_at u.key (rows_at roster u.table (put now roster tables u)) ≡ Some (row_of now d.expire u)
here now [] tables u d size at = absurd cc
here now (x ∷ xs) [] u d size at = absurd cc
here now (x ∷ xs) (first ∷ others) u d size at = elim (cases_eq x.id u.table) [
  | inl same ↦
      let found : Some x ≡ Some d = sym (rw (eq-eqb x.id u.table same) refl) ∙ at in
      let is : x ≡ d = cc in
      rw (eq-eqb x.id u.table same, eq-eqb x.id u.table same, is) (put_here first u.key (row_of now d.expire u))
  | inr other ↦
      let found : table_at xs u.table ≡ Some d = sym (rw (ne_eqb x.id u.table other) refl) ∙ at in
      let rest : length others ≡ length xs = omega arith in
      rw (ne_eqb x.id u.table other, ne_eqb x.id u.table other) (here now xs others u d rest found)
]

pub other_keys : (now : ℕ) (roster : List Definition) (tables : List (List (Key × StoredRow))) (u : Update) (id : ℕ) (key : Key) → key ≢ u.key → row_at key (rows_at roster id (put now roster tables u)) ≡ row_at key (rows_at roster id tables)
other_keys now [] tables u id key differs = refl
other_keys now (x ∷ xs) [] u id key differs = refl
other_keys now (x ∷ xs) (first ∷ others) u id key differs = elim (cases_eq x.id u.table) [
  | inl same ↦ elim (cases_eq x.id id) [
    | inl named ↦ rw (eq-eqb x.id u.table same, eq-eqb x.id id named) (put_there first u.key key (row_of now x.expire u) differs)
    | inr unnamed ↦ rw (eq-eqb x.id u.table same, ne_eqb x.id id unnamed) refl
  ]
  | inr apart ↦ elim (cases_eq x.id id) [
    | inl named ↦ rw (ne_eqb x.id u.table apart, eq-eqb x.id id named) refl
    | inr unnamed ↦ rw (ne_eqb x.id u.table apart, ne_eqb x.id id unnamed) (other_keys now xs others u id key differs)
  ]
]

pub other_tables : (now : ℕ) (roster : List Definition) (tables : List (List (Key × StoredRow))) (u : Update) (id : ℕ) → id ≢ u.table → rows_at roster id (put now roster tables u) ≡ rows_at roster id tables
other_tables now [] tables u id differs = refl
other_tables now (x ∷ xs) [] u id differs = refl
other_tables now (x ∷ xs) (first ∷ others) u id differs = elim (cases_eq x.id u.table) [
  | inl same ↦
      let unnamed : x.id ≡ id → ⊥ = λ named. differs (sym named ∙ same) in
      rw (eq-eqb x.id u.table same, ne_eqb x.id id unnamed) refl
  | inr apart ↦ elim (cases_eq x.id id) [
    | inl named ↦ rw (ne_eqb x.id u.table apart, eq-eqb x.id id named) refl
    | inr unnamed ↦ rw (ne_eqb x.id u.table apart, ne_eqb x.id id unnamed) (other_tables now xs others u id differs)
  ]
]

-- ---- updates one after another

put_size : (now : ℕ) (roster : List Definition) (tables : List (List (Key × StoredRow))) (u : Update) → length (put now roster tables u) ≡ length tables
put_size now [] tables u = refl
put_size now (x ∷ xs) [] u = refl
put_size now (x ∷ xs) (first ∷ others) u = elim (cases_eq x.id u.table) [
  | inl same ↦ rw (eq-eqb x.id u.table same) refl
  | inr other ↦ rw (ne_eqb x.id u.table other) (ap (λ (n : ℕ). suc n) (put_size now xs others u))
]

-- a row of which no update is put is unchanged
pub others_stay_all : (now : ℕ) (roster : List Definition) (us : List Update) (id : ℕ) (key : Key) (tables : List (List (Key × StoredRow))) → AreOfOthers id key us → row_at key (rows_at roster id (put_all now roster us tables)) ≡ row_at key (rows_at roster id tables)
others_stay_all now roster [] id key tables others = refl
others_stay_all now roster (u ∷ us) id key tables others = others_stay_all now roster us id key (put now roster tables u) others.1 ∙ one others.0
  where
    one : (u.table ≢ id) ⊎ (u.key ≢ key) → row_at key (rows_at roster id (put now roster tables u)) ≡ row_at key (rows_at roster id tables)
    one (inl apart) = ap (row_at key) (other_tables now roster tables u id (λ e. apart (sym e)))
    one (inr apart) = other_keys now roster tables u id key (λ e. apart (sym e))

-- a row is what the last update of its table and key teaches
pub last_stands : (now : ℕ) (roster : List Definition) (before after : List Update) (u : Update) (d : Definition) (tables : List (List (Key × StoredRow))) → length tables ≡ length roster → table_at roster u.table ≡ Some d → AreOfOthers u.table u.key after
    → row_at u.key (rows_at roster u.table (put_all now roster (before ++ (u ∷ after)) tables)) ≡ Some (row_of now d.expire u)
last_stands now roster [] after u d tables size at others = others_stay_all now roster after u.table u.key (put now roster tables u) others ∙ here now roster tables u d size at
last_stands now roster (x ∷ xs) after u d tables size at others = last_stands now roster xs after u d (put now roster tables x) (put_size now roster tables x ∙ size) at others
