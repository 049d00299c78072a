-- Rows by the index of their table.
use Rattle.std.proofs.Common.{◌≡◌, ℕ, suc, ◌+◌, ◌<◌, ◌≤◌, List, [], ◌∷◌, ◌++◌, length, get_or, set, drop, Option, Some, None, refl, sym, ap, ◌∙◌, arith, inl, inr}
use Rattle.std.specs.Prelude.{map}
use Rattle.std.proofs.lemmas.List.{append-nil}
use Rattle.std.proofs.Math.ListN.{drop_of_length-le}
use Rattle.std.specs.BTreeMap.{insert_entry}
use Rattle.std.proofs.lemmas.Bool.{cases_eq, eq-eqb, ne_eqb}
use Rattle.table_types.specs.declared.key.Key.{Key}
use Rattle.table_types.specs.declared.update.Update.{Update}
use Rattle.table_types.specs.Tables.{Definition}
use Rattle.table_types.specs.Rosters.{table_at}
use Rattle.table_types.specs.Rows.{StoredRow, row_of}
use Rattle.table_types.specs.Keys.{key_cmp}
use Rattle.std.specs.Prelude.{IfSome}
use Rattle.learner.specs.declared.keeper.NewRow.{NewRow}
use Rattle.learner.specs.NewRows.{AreRowsOf}
use Rattle.learner.specs.Rows.{put_row, put, put_all, rows_at, index_of}

-- ---- the index of a table

place_first : (d : Definition) (ds : List Definition) (id p : ℕ) → d.id ≡ id → index_of (d ∷ ds) id ≡ Some p → p ≡ 0
place_first d ds id p same at =
    let first : Some 0 ≡ Some p = sym (rw (eq-eqb d.id id same) refl) ∙ at in
    cc

place_later : (d : Definition) (ds : List Definition) (id p : ℕ) → (d.id ≡ id → ⊥) → index_of (d ∷ ds) id ≡ Some p → (q : ℕ) × (p ≡ suc q) × (index_of ds id ≡ Some q)
place_later d ds id p other at = found (index_of ds id) refl
  where
    found : (o : Option ℕ) → index_of ds id ≡ o → (q : ℕ) × (p ≡ suc q) × (index_of ds id ≡ Some q)
    found None e = let none : None ≡ Some p = sym (rw (ne_eqb d.id id other, e) refl) ∙ at in absurd cc
    found (Some q) e =
        let some : Some (q + 1) ≡ Some p = sym (rw (ne_eqb d.id id other, e) refl) ∙ at in
        let is : q + 1 ≡ p = cc in
        (q, omega arith, e)

never : (p : ℕ) → ◌≡◌ {A = Option ℕ} (Some p) None → ⊥
never p e = cc

place_none : (d : Definition) (ds : List Definition) (id : ℕ) → index_of (d ∷ ds) id ≡ None → (d.id ≡ id → ⊥) × (index_of ds id ≡ None)
place_none d ds id none = elim (cases_eq d.id id) [
  | inl same ↦ absurd (never 0 (sym (rw (eq-eqb d.id id same) refl) ∙ none))
  | inr other ↦ (other, rest other (index_of ds id) refl)
]
  where
    rest : (d.id ≡ id → ⊥) → (o : Option ℕ) → index_of ds id ≡ o → index_of ds id ≡ None
    rest other None e = e
    rest other (Some q) e = absurd (never (q + 1) (sym (rw (ne_eqb d.id id other, e) refl) ∙ none))

-- a table that is found has an index among the tables
pub place_within : (ds : List Definition) (id p : ℕ) → index_of ds id ≡ Some p → p < length ds
place_within [] id p at = absurd cc
place_within (d ∷ ds) id p at = elim (cases_eq d.id id) [
  | inl same ↦ let first = place_first d ds id p same at in omega arith
  | inr other ↦
      let later = place_later d ds id p other at in
      let within = place_within ds id later.0 later.2 in
      omega arith
]

-- the rows of a table are those at its index
pub rows_placed : (ds : List Definition) (id p : ℕ) (tables : List (List (Key × StoredRow))) (rows : List (Key × StoredRow)) → length tables ≡ length ds → index_of ds id ≡ Some p → rows ≡ get_or tables p rows → rows_at ds id tables ≡ rows
rows_placed [] id p tables rows size at is = absurd cc
rows_placed (d ∷ ds) id p [] rows size at is = absurd cc
rows_placed (d ∷ ds) id p (first ∷ others) rows size at is = elim (cases_eq d.id id) [
  | inl same ↦
      let zero : p ≡ 0 = place_first d ds id p same at in
      rw (eq-eqb d.id id same) (sym (is ∙ ap (λ n. get_or (first ∷ others) n rows) zero))
  | inr other ↦
      let later = place_later d ds id p other at in
      let there : rows ≡ get_or others later.0 rows = is ∙ ap (λ n. get_or (first ∷ others) n rows) later.1 in
      let rest : length others ≡ length ds = omega arith in
      rw (ne_eqb d.id id other) (rows_placed ds id later.0 others rows rest later.2 there)
]

-- and a table that isn't found has no index
pub rows_unplaced : (ds : List Definition) (id : ℕ) (tables : List (List (Key × StoredRow))) → index_of ds id ≡ None → rows_at ds id tables ≡ []
rows_unplaced [] id tables none = refl
rows_unplaced (d ∷ ds) id [] none = refl
rows_unplaced (d ∷ ds) id (first ∷ others) none =
    let rest = place_none d ds id none in
    rw (ne_eqb d.id id rest.0) (rows_unplaced ds id others rest.1)

-- an update is put at the index of its table
pub put_placed : (now : ℕ) (ds : List Definition) (p : ℕ) (tables : List (List (Key × StoredRow))) (u : Update) (d : Definition) (rows : List (Key × StoredRow)) → length tables ≡ length ds → index_of ds u.table ≡ Some p → table_at ds u.table ≡ Some d → rows ≡ get_or tables p rows → set tables p (put_row now d u rows) ≡ put now ds tables u
put_placed now [] p tables u d rows size at is_table is_rows = absurd cc
put_placed now (x ∷ xs) p [] u d rows size at is_table is_rows = absurd cc
put_placed now (x ∷ xs) p (first ∷ others) u d rows size at is_table is_rows = elim (cases_eq x.id u.table) [
  | inl same ↦
      let zero : p ≡ 0 = place_first x xs u.table p same at in
      let found : Some x ≡ Some d = sym (rw (eq-eqb x.id u.table same) refl) ∙ is_table in
      let table : d ≡ x = cc in
      let there : rows ≡ first = is_rows ∙ ap (λ n. get_or (first ∷ others) n rows) zero in
      rw (eq-eqb x.id u.table same, zero, table, there) refl
  | inr other ↦
      let later = place_later x xs u.table p other at in
      let table : table_at xs u.table ≡ Some d = sym (rw (ne_eqb x.id u.table other) refl) ∙ is_table in
      let there : rows ≡ get_or others later.0 rows = is_rows ∙ ap (λ n. get_or (first ∷ others) n rows) later.1 in
      let rest : length others ≡ length xs = omega arith in
      rw (ne_eqb x.id u.table other, later.1) (ap (λ (tail : List (List (Key × StoredRow))). first ∷ tail) (put_placed now xs later.0 others u d rows rest later.2 table there))
]

-- and nowhere if its table has no index
pub put_unplaced : (now : ℕ) (ds : List Definition) (tables : List (List (Key × StoredRow))) (u : Update) → index_of ds u.table ≡ None → put now ds tables u ≡ tables
put_unplaced now [] tables u none = refl
put_unplaced now (d ∷ ds) [] u none = refl
put_unplaced now (d ∷ ds) (first ∷ others) u none =
    let rest = place_none d ds u.table none in
    rw (ne_eqb d.id u.table rest.0) (ap (λ (tail : List (List (Key × StoredRow))). first ∷ tail) (put_unplaced now ds others u rest.1))

-- nor if its table isn't found
pub put_unfound : (now : ℕ) (ds : List Definition) (tables : List (List (Key × StoredRow))) (u : Update) → table_at ds u.table ≡ None → put now ds tables u ≡ tables
put_unfound now [] tables u none = refl
put_unfound now (d ∷ ds) [] u none = refl
put_unfound now (d ∷ ds) (first ∷ others) u none = elim (cases_eq d.id u.table) [
  | inl same ↦ absurd (not_none d (sym (rw (eq-eqb d.id u.table same) refl) ∙ none))
  | inr other ↦
      let rest : table_at ds u.table ≡ None = sym (rw (ne_eqb d.id u.table other) refl) ∙ none in
      rw (ne_eqb d.id u.table other) (ap (λ (tail : List (List (Key × StoredRow))). first ∷ tail) (put_unfound now ds others u rest))
]
  where
    not_none : (t : Definition) → ◌≡◌ {A = Option Definition} (Some t) None → ⊥
    not_none t e = cc

-- the number of tables with rows doesn't change with an update
pub length-put : (now : ℕ) (ds : List Definition) (tables : List (List (Key × StoredRow))) (u : Update) → length (put now ds tables u) ≡ length tables
length-put now [] tables u = refl
length-put now (d ∷ ds) [] u = refl
length-put now (d ∷ ds) (first ∷ others) u = elim (cases_eq d.id u.table) [
  | inl same ↦ rw (eq-eqb d.id u.table same) refl
  | inr other ↦ rw (ne_eqb d.id u.table other) (ap suc (length-put now ds others u))
]

-- ---- what a learner holds

-- no rows for each table
abbrev pub no_rows : List Definition → List (List (Key × StoredRow))
no_rows ds = map (λ _. []) ds

pub all_shelved : (ds : List Definition) (n : ℕ) (rows_of_tables : List (List (Key × StoredRow))) → length ds ≤ n → rows_of_tables ++ no_rows (drop n ds) ≡ no_rows ds → rows_of_tables ≡ no_rows ds
all_shelved ds n rows_of_tables le e =
    sym (append-nil rows_of_tables) ∙ ap (λ (xs : List Definition). rows_of_tables ++ no_rows xs) (sym (drop_of_length-le ds le)) ∙ e

pub length_shelved : (ds : List Definition) → length (no_rows ds) ≡ length ds
length_shelved [] = refl
length_shelved (d ∷ ds) = ap suc (length_shelved ds)

pub table_rows_within : (roster inside : List Definition) (id p : ℕ) (tables : List (List (Key × StoredRow))) → index_of roster id ≡ Some p → inside ≡ roster → length tables ≡ length inside → p < length tables
table_rows_within roster inside id p tables at same size =
    let within = place_within roster id p at in
    let sizes : length inside ≡ length roster = ap (λ (ds : List Definition). length ds) same in
    omega arith

-- an update is put at its table's index
pub put_in_table : (now : ℕ) (ds : List Definition) (p expire : ℕ) (tables : List (List (Key × StoredRow))) (u : Update) (d : Definition) (held after : List (Key × StoredRow)) (key : Key) (row : StoredRow)
    → length tables ≡ length ds → index_of ds u.table ≡ Some p → table_at ds u.table ≡ Some d → held ≡ get_or tables p held
    → expire ≡ d.expire → key ≡ u.key → row ≡ row_of now expire u → after ≡ insert_entry key_cmp held key row
    → set tables p after ≡ put now ds tables u
put_in_table now ds p expire tables u d held after key row size at is_table is_shelf is_expire is_key is_row is_after =
    let stored : after ≡ put_row now d u held =
    is_after
    ∙ ap (λ (k : Key). insert_entry key_cmp held k row) is_key
    ∙ ap (λ (r : StoredRow). insert_entry key_cmp held u.key r) (is_row ∙ ap (λ (n : ℕ). row_of now n u) is_expire) in
    ap (λ (rows : List (Key × StoredRow)). set tables p rows) stored ∙ put_placed now ds p tables u d held size at is_table is_shelf

-- a row that is taught is put in its table, and if none is taught, nothing changes
pub put_new : (now : ℕ) (ds : List Definition) (p : ℕ) (tables : List (List (Key × StoredRow))) (us : List Update) (held after : List (Key × StoredRow)) (key : Key) (row : StoredRow)
    → length tables ≡ length ds → held ≡ get_or tables p held → AreRowsOf now ds us (Some (record { index = p; key = key; row = row })) → after ≡ insert_entry key_cmp held key row
    → set tables p after ≡ put_all now ds us tables
put_new now ds p tables [] held after key row size is_held rows is = absurd cc
put_new now ds p tables (u ∷ []) held after key row size is_held (at, d, is_table, is_key, is_row) is =
    put_in_table now ds p d.expire tables u d held after key row size at is_table is_held refl is_key is_row is
put_new now ds p tables (u ∷ v ∷ us) held after key row size is_held rows is = absurd rows

pub put_none : (now : ℕ) (ds : List Definition) (tables : List (List (Key × StoredRow))) (us : List Update) → AreRowsOf now ds us None → tables ≡ put_all now ds us tables
put_none now ds tables [] rows = refl
put_none now ds tables (u ∷ []) (inl unfound) = sym (put_unfound now ds tables u unfound)
put_none now ds tables (u ∷ []) (inr unplaced) = sym (put_unplaced now ds tables u unplaced)
put_none now ds tables (u ∷ v ∷ us) rows = absurd rows

pub row_within : (now : ℕ) (ds : List Definition) (us : List Update) (row : Option NewRow) → AreRowsOf now ds us row → IfSome row (λ new. new.index < length ds)
row_within now ds us None rows = tt
row_within now ds [] (Some new) rows = absurd cc
row_within now ds (u ∷ []) (Some new) (at, d, is_table, is_key, is_row) = place_within ds u.table new.index at
row_within now ds (u ∷ v ∷ us) (Some new) rows = absurd rows
