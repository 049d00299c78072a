-- The rows that are left when updates are put one after another, each at its moment.
use Rattle.std.proofs.Common.{◌≡◌, ◌≢◌, ◌⊎◌, ◌<◌, ◌^◌, ℕ, suc, List, [], ◌∷◌, ◌++◌, length, Some, None, refl, sym, ap, subst, ◌∙◌, inl, inr}
use Rattle.std.specs.Prelude.{map}
use Rattle.std.specs.List.{AllByRecursion}
use Rattle.std.proofs.lemmas.Bool.{cases_eq, eq-eqb, ne_eqb}
use Rattle.std.proofs.lemmas.List.{map-append}
use Rattle.std.proofs.lemmas.List.Sums.{fold-append}
use Rattle.std.specs.declared.cmp.Ordering.{Ordering}
use Rattle.std.specs.declared.cmp.Ordering.TheVariants.{Less, Equal, Greater}
use Rattle.table_types.specs.declared.key.Key.{Key}
use Rattle.table_types.specs.declared.update.Update.{Update}
use Rattle.table_types.specs.Keys.{key_cmp}
use Rattle.table_types.specs.Rosters.{table_at}
use Rattle.table_types.specs.Rows.{StoredRow, row_of}
use Rattle.table_types.specs.Tables.{Definition}
use Rattle.table_types.proofs.EqualKeysAreOne.{exact_keys, key_cmp-same}
use Rattle.learner.specs.Rows.{AreOfOthers, put, put_all, row_at, rows_at}
use Rattle.learner.proofs.PutChangesOneRow.{here, other_keys, other_tables}
use Rattle.interleave_core.specs.Sound.{AreLeftBy, IsOfLast, put_each}

abbrev Rows : Type 0
Rows = List (List (Key × StoredRow))

-- no rows of any table
abbrev no_rows : List Definition → Rows
no_rows roster = map (λ _. []) roster

-- the moments are below 2^63
abbrev AreBelow : List (ℕ × Update) → Type 0
AreBelow puts = AllByRecursion (λ p. p.0 < 2 ^ 63) puts

-- ---- updates put at one moment

abbrev at_moment : ℕ → List Update → List (ℕ × Update)
at_moment now us = map (λ u. (now, u)) us

updates_at : (now : ℕ) (us : List Update) → us ≡ map (λ p. p.1) (at_moment now us)
updates_at now [] = refl
updates_at now (u ∷ us) = ap (λ (xs : List Update). u ∷ xs) (updates_at now us)

put_at : (now : ℕ) (roster : List Definition) (us : List Update) (rows : Rows) → put_all now roster us rows ≡ put_each roster (at_moment now us) rows
put_at now roster [] rows = refl
put_at now roster (u ∷ us) rows = put_at now roster us (put now roster rows u)

below_at : (now : ℕ) (us : List Update) → now < 2 ^ 63 → AreBelow (at_moment now us)
below_at now [] below = tt
below_at now (u ∷ us) below = (below, below_at now us below)

all_below : (puts others : List (ℕ × Update)) → AreBelow puts → AreBelow others → AreBelow (puts ++ others)
all_below [] others all rest = rest
all_below (p ∷ ps) others (one, all) rest = (one, all_below ps others all rest)

-- more updates are put at one moment
pub more_rows : (now : ℕ) (roster : List Definition) (us vs : List Update) (rows after : Rows) → now < 2 ^ 63 → AreLeftBy roster us rows → after ≡ put_all now roster vs rows → AreLeftBy roster (us ++ vs) after
more_rows now roster us vs rows after below (puts, are, all_were, left) is =
    let both : us ++ vs ≡ map (λ p. p.1) (puts ++ at_moment now vs) =
    ap (λ (xs : List Update). xs ++ vs) are
    ∙ ap (λ (xs : List Update). map (λ p. p.1) puts ++ xs) (updates_at now vs)
    ∙ sym (map-append (λ p. p.1) puts (at_moment now vs)) in
    let all : after ≡ put_each roster (puts ++ at_moment now vs) (no_rows roster) =
    is
    ∙ put_at now roster vs rows
    ∙ ap (λ (r : Rows). put_each roster (at_moment now vs) r) left
    ∙ sym (fold-append (λ r p. put p.0 roster r p.1) (no_rows roster) puts (at_moment now vs)) in
    (puts ++ at_moment now vs, both, all_below puts (at_moment now vs) all_were (below_at now vs below), all)

-- ---- one row

put_size : (now : ℕ) (roster : List Definition) (rows : Rows) (u : Update) → length (put now roster rows u) ≡ length rows
put_size now [] rows u = refl
put_size now (x ∷ xs) [] u = refl
put_size now (x ∷ xs) (first ∷ others) u = elim (cases_eq x.id u.table) [
  | inl same ↦ rw (eq-eqb x.id u.table same) refl
  | inr other ↦ rw (ne_eqb x.id u.table other) (ap (λ (n : ℕ). suc n) (put_size now xs others u))
]

not_less : Equal ≡ Less → ⊥
not_less e = cc

not_greater : Equal ≡ Greater → ⊥
not_greater e = cc

same_or_other : (a b : Key) → (a ≡ b) ⊎ (a ≢ b)
same_or_other a b = at (key_cmp a b) refl
  where
    unlike : (o : Ordering) → key_cmp a b ≡ o → (Equal ≡ o → ⊥) → a ≢ b
    unlike o e apart same = apart (sym (key_cmp-same a) ∙ ap (key_cmp a) same ∙ e)

    at : (o : Ordering) → key_cmp a b ≡ o → (a ≡ b) ⊎ (a ≢ b)
    at Equal e = inl (exact_keys a b e)
    at Less e = inr (unlike Less e not_less)
    at Greater e = inr (unlike Greater e not_greater)

-- an update of another table or key leaves the row
row_stays : (now : ℕ) (roster : List Definition) (id : ℕ) (key : Key) (rows : Rows) (u : Update) → (u.table ≢ id) ⊎ (u.key ≢ key) → row_at key (rows_at roster id (put now roster rows u)) ≡ row_at key (rows_at roster id rows)
row_stays now roster id key rows u (inl apart) = ap (row_at key) (other_tables now roster rows u id (λ e. apart (sym e)))
row_stays now roster id key rows u (inr apart) = other_keys now roster rows u id key (λ e. apart (sym e))

-- the row of a table and a key after updates are put: that of the last of its updates, or, if there is none, the one
-- before them
abbrev IsLastOrOld : List Definition → Definition → Key → List (ℕ × Update) → Rows → Type 0
IsLastOrOld roster d key puts rows =
    (AreOfOthers d.id key (map (λ p. p.1) puts) × (row_at key (rows_at roster d.id (put_each roster puts rows)) ≡ row_at key (rows_at roster d.id rows)))
    ⊎ ((row : StoredRow) × (row_at key (rows_at roster d.id (put_each roster puts rows)) ≡ Some row) × IsOfLast d key (map (λ p. p.1) puts) row)

last_or_old : (roster : List Definition) (d : Definition) (key : Key) (puts : List (ℕ × Update)) (rows : Rows) → length rows ≡ length roster → table_at roster d.id ≡ Some d → AreBelow puts → IsLastOrOld roster d key puts rows
last_or_old roster d key [] rows size listed all = inl (tt, refl)
last_or_old roster d key (p ∷ ps) rows size listed (below, all) = at (last_or_old roster d key ps (put p.0 roster rows p.1) (put_size p.0 roster rows p.1 ∙ size) listed all)
  where
    own : p.1.table ≡ d.id → p.1.key ≡ key → row_at key (rows_at roster d.id (put p.0 roster rows p.1)) ≡ Some (row_of p.0 d.expire p.1)
    own table is =
        let there : table_at roster p.1.table ≡ Some d = ap (table_at roster) table ∙ listed in
        subst (λ (k : Key). row_at k (rows_at roster d.id (put p.0 roster rows p.1)) ≡ Some (row_of p.0 d.expire p.1)) is
        (subst (λ (n : ℕ). row_at p.1.key (rows_at roster n (put p.0 roster rows p.1)) ≡ Some (row_of p.0 d.expire p.1)) table
        (here p.0 roster rows p.1 d size there))

    other : (p.1.table ≢ d.id) ⊎ (p.1.key ≢ key) → AreOfOthers d.id key (map (λ q. q.1) ps) → row_at key (rows_at roster d.id (put_each roster ps (put p.0 roster rows p.1))) ≡ row_at key (rows_at roster d.id (put p.0 roster rows p.1)) → IsLastOrOld roster d key (p ∷ ps) rows
    other apart others same = inl ((apart, others), same ∙ row_stays p.0 roster d.id key rows p.1 apart)

    at : IsLastOrOld roster d key ps (put p.0 roster rows p.1) → IsLastOrOld roster d key (p ∷ ps) rows
    at (inr (row, found, (before, u, after, now, are, table, is, others, moment, taught))) =
        inr (row, found, (p.1 ∷ before, u, after, now, ap (λ (xs : List Update). p.1 ∷ xs) are, table, is, others, moment, taught))
    at (inl (others, same)) = elim (cases_eq p.1.table d.id) [
      | inl table ↦ elim (same_or_other p.1.key key) [
        | inl is ↦ inr (row_of p.0 d.expire p.1, same ∙ own table is, ([], p.1, map (λ q. q.1) ps, p.0, refl, table, is, others, below, refl))
        | inr apart ↦ other (inr apart) others same
      ]
      | inr apart ↦ other (inl apart) others same
    ]

-- ---- rows of a learner

none_size : (roster : List Definition) → length (no_rows roster) ≡ length roster
none_size [] = refl
none_size (d ∷ ds) = ap (λ (n : ℕ). suc n) (none_size ds)

none_row : (roster : List Definition) (id : ℕ) (key : Key) → row_at key (rows_at roster id (no_rows roster)) ≡ None
none_row [] id key = refl
none_row (d ∷ ds) id key = elim (cases_eq d.id id) [
  | inl same ↦ rw (eq-eqb d.id id same) refl
  | inr other ↦ rw (ne_eqb d.id id other) (none_row ds id key)
]

-- each row is what the last update of its table and key taught
pub each_row : (roster : List Definition) (us : List Update) (rows : Rows) (d : Definition) (key : Key) (row : StoredRow) → AreLeftBy roster us rows → table_at roster d.id ≡ Some d → row_at key (rows_at roster d.id rows) ≡ Some row → IsOfLast d key us row
each_row roster us rows d key row (puts, are, below, left) listed found = at (last_or_old roster d key puts (no_rows roster) (none_size roster) listed below)
  where
    there : row_at key (rows_at roster d.id (put_each roster puts (no_rows roster))) ≡ Some row
    there = ap (λ (r : Rows). row_at key (rows_at roster d.id r)) (sym left) ∙ found

    at : IsLastOrOld roster d key puts (no_rows roster) → IsOfLast d key us row
    at (inl (others, old)) =
        let bad : None ≡ Some row = sym (none_row roster d.id key) ∙ sym old ∙ there in
        absurd cc
    at (inr (other, is, last)) =
        let both : Some other ≡ Some row = sym is ∙ there in
        let same : other ≡ row = cc in
        subst (λ (r : StoredRow). IsOfLast d key us r) same (subst (λ (xs : List Update). IsOfLast d key xs other) (sym are) last)

heads : (x y : Update) (xs ys : List Update) → x ∷ xs ≡ y ∷ ys → (x ≡ y) × (xs ≡ ys)
heads x y xs ys e = (cc, cc)

-- the updates put and others after one of them
split_map : (puts : List (ℕ × Update)) (before after : List Update) (u : Update) → map (λ p. p.1) puts ≡ before ++ u ∷ after
    → (front : List (ℕ × Update)) × (now : ℕ) × (back : List (ℕ × Update)) × (puts ≡ front ++ (now, u) ∷ back) × (map (λ p. p.1) back ≡ after)
split_map [] [] after u is = let bad : [] ≡ u ∷ after = is in absurd cc
split_map [] (x ∷ xs) after u is = let bad : [] ≡ x ∷ (xs ++ u ∷ after) = is in absurd cc
split_map (p ∷ ps) [] after u is =
    let both = heads p.1 u (map (λ q. q.1) ps) after is in
    ([], p.0, ps, ap (λ (v : Update). (p.0, v) ∷ ps) both.0, both.1)
split_map (p ∷ ps) (x ∷ xs) after u is =
    let both = heads p.1 x (map (λ q. q.1) ps) (xs ++ u ∷ after) is in
    let later = split_map ps xs after u both.1 in
    (p ∷ later.0, later.1, later.2, ap (λ (qs : List (ℕ × Update)). p ∷ qs) later.3, later.4)

each_size : (roster : List Definition) (puts : List (ℕ × Update)) (rows : Rows) → length (put_each roster puts rows) ≡ length rows
each_size roster [] rows = refl
each_size roster (p ∷ ps) rows = each_size roster ps (put p.0 roster rows p.1) ∙ put_size p.0 roster rows p.1

others_leave : (roster : List Definition) (puts : List (ℕ × Update)) (id : ℕ) (key : Key) (rows : Rows) → AreOfOthers id key (map (λ p. p.1) puts) → row_at key (rows_at roster id (put_each roster puts rows)) ≡ row_at key (rows_at roster id rows)
others_leave roster [] id key rows others = refl
others_leave roster (p ∷ ps) id key rows others = others_leave roster ps id key (put p.0 roster rows p.1) others.1 ∙ row_stays p.0 roster id key rows p.1 others.0

-- an update that none of its table and key comes after stands, as it was put at some moment
pub last_row : (roster : List Definition) (us before after : List Update) (rows : Rows) (u : Update) (d : Definition) → AreLeftBy roster us rows → us ≡ before ++ u ∷ after → table_at roster u.table ≡ Some d → AreOfOthers u.table u.key after
    → (now : ℕ) × (now < 2 ^ 63) × (row_at u.key (rows_at roster u.table rows) ≡ Some (row_of now d.expire u))
last_row roster us before after rows u d (puts, are, below, left) is listed others =
    let cut = split_map puts before after u (sym are ∙ is) in
    let whole : rows ≡ put_each roster cut.2 (put cut.1 roster (put_each roster cut.0 (no_rows roster)) u) =
    left
    ∙ ap (λ (ps : List (ℕ × Update)). put_each roster ps (no_rows roster)) cut.3
    ∙ fold-append (λ r p. put p.0 roster r p.1) (no_rows roster) cut.0 ((cut.1, u) ∷ cut.2) in
    let size : length (put_each roster cut.0 (no_rows roster)) ≡ length roster = each_size roster cut.0 (no_rows roster) ∙ none_size roster in
    let apart : AreOfOthers u.table u.key (map (λ p. p.1) cut.2) = subst (λ (xs : List Update). AreOfOthers u.table u.key xs) (sym cut.4) others in
    let stays = others_leave roster cut.2 u.table u.key (put cut.1 roster (put_each roster cut.0 (no_rows roster)) u) apart in
    let put_here = here cut.1 roster (put_each roster cut.0 (no_rows roster)) u d size listed in
    (cut.1, one_below cut.1 cut.0 cut.2 (subst AreBelow cut.3 below), ap (λ (r : Rows). row_at u.key (rows_at roster u.table r)) whole ∙ stays ∙ put_here)
  where
    one_below : (now : ℕ) (front back : List (ℕ × Update)) → AreBelow (front ++ (now, u) ∷ back) → now < 2 ^ 63
    one_below now [] back (one, rest) = one
    one_below now (p ∷ ps) back (one, rest) = one_below now ps back rest
