-- What the calls of a stock do to its rows.
use Rattle.std.proofs.Common.{◌≡◌, ℕ, ◌+◌, ◌-◌, ◌<◌, ◌≤◌, Bool, true, false, not, ◌||◌, List, [], ◌∷◌, ◌++◌, length, Option, Some, None, refl, sym, ap, ◌∙◌, subst, arith, inl, inr}
use Rattle.std.specs.Prelude.{MatchBool, filter, is_some, leb, nat_lt}
use Rattle.std.specs.List.{AllByRecursion}
use Rattle.std.specs.Ordering.{is_eq}
use Rattle.std.proofs.lemmas.Bool.{cases_lt, cond-false, cond-true, le-leb, le-ltb, lt-leb, lt-ltb}
use Rattle.table_types.specs.declared.key.Key.{Key}
use Rattle.table_types.specs.Keys.{key_cmp}
use Rattle.table_types.specs.Rows.{StoredRow}
use Rattle.table_types.proofs.EqualKeysAreOne.{one_key}
use Rattle.table_rows.specs.Rows.{AreLive, IsFirstToEnd, is_live, row_at}
use Rattle.table_stock.specs.NumberedRows.{KeysDiffer, NumbersRise, without}
use Rattle.table_stock.specs.Stock.{LeftFor, Stocked, stocked}
use Rattle.table_stock.proofs.RowsLaws.{none_parts, rise_each, some_none}
use Rattle.table_stock.proofs.StockLaws.{all_found, found_in, rows-put, same_row}

pub without_absent : (key : Key) (es : List (Key × StoredRow)) → row_at key es ≡ None → without key es ≡ es
without_absent key [] none = refl
without_absent key (e ∷ es) none =
    let parts = none_parts key e es none in
    rw parts.0 (ap (λ (fs : List (Key × StoredRow)). e ∷ fs) (without_absent key es parts.1))

pub one_less : (key : Key) (row : StoredRow) (es : List (Key × StoredRow)) → KeysDiffer es → row_at key es ≡ Some row → length (without key es) + 1 ≡ length es
one_less key row [] differ at = absurd cc
one_less key row (e ∷ es) (none, differ) at = by (is_eq (key_cmp key e.0)) refl (λ there. one_less key row es differ there)
  where
    by : (b : Bool) → is_eq (key_cmp key e.0) ≡ b → (row_at key es ≡ Some row → length (without key es) + 1 ≡ length es) → length (without key (e ∷ es)) + 1 ≡ length (e ∷ es)
    by true here rest =
        let gone : row_at key es ≡ None = ap (λ (k : Key). row_at k es) (one_key key e.0 here) ∙ none in
        let same : length (without key es) ≡ length es = ap (λ (fs : List (Key × StoredRow)). length fs) (without_absent key es gone) in
        rw here (omega (arith, same))
    by false other rest =
        let less = rest (sym (rw other refl) ∙ at) in
        rw other (omega (arith, less))

gone_live : (now : ℕ) (key : Key) (es : List (Key × StoredRow)) → AllByRecursion (λ e. is_eq (key_cmp key e.0) ≡ true → is_live now e.1 ≡ false) es → filter (λ e. is_live now e.1) (without key es) ≡ filter (λ e. is_live now e.1) es
gone_live now key [] ended = refl
gone_live now key (e ∷ es) ended = by (is_eq (key_cmp key e.0)) refl (is_live now e.1) refl (gone_live now key es ended.1)
  where
    by : (a : Bool) → is_eq (key_cmp key e.0) ≡ a → (b : Bool) → is_live now e.1 ≡ b → filter (λ f. is_live now f.1) (without key es) ≡ filter (λ f. is_live now f.1) es
        → filter (λ f. is_live now f.1) (without key (e ∷ es)) ≡ filter (λ f. is_live now f.1) (e ∷ es)
    by true here b is rest = rw (here, ended.0 here) rest
    by false other true live rest = rw (other, live) (ap (λ (fs : List (Key × StoredRow)). e ∷ fs) rest)
    by false other false over rest = rw (other, over) rest

-- removing a row that has ended leaves the live rows, and one row less
pub ended_live : (now : ℕ) (key : Key) (row : StoredRow) (es : List (Key × StoredRow)) → KeysDiffer es → row_at key es ≡ Some row → is_live now row ≡ false → filter (λ e. is_live now e.1) (without key es) ≡ filter (λ e. is_live now e.1) es
ended_live now key row es differ there over = gone_live now key es (all_found es differ (λ e. is_eq (key_cmp key e.0) ≡ true → is_live now e.1 ≡ false) (λ k other found same.
    let one : row ≡ other = same_row row other (sym there ∙ ap (λ (q : Key). row_at q es) (one_key key k same) ∙ found) in
    ap (is_live now) (sym one) ∙ over))

pub filter_live : (now : ℕ) (es : List (Key × StoredRow)) → AreLive now es → filter (λ e. is_live now e.1) es ≡ es
filter_live now [] live = refl
filter_live now (e ∷ es) live = rw live.0 (ap (λ (fs : List (Key × StoredRow)). e ∷ fs) (filter_live now es live.1))

-- above a number or not
pub not_above : (number n : ℕ) → nat_lt number n ≡ not (leb n number)
not_above number n = elim (cases_lt number n) [
  | inl less ↦ lt-ltb number n less ∙ sym (ap not (lt-leb n number less))
  | inr more ↦ le-ltb number n more ∙ sym (ap not (le-leb n number more))
]

-- all numbers are above 0
pub all_above : (least next : ℕ) (es : List (Key × StoredRow)) → 1 ≤ least → NumbersRise least next es → filter (λ e. nat_lt 0 e.1.number) es ≡ es
all_above least next [] some rise = refl
all_above least next (e ∷ es) some (first, rest) =
    rw (lt-ltb 0 e.1.number (omega arith)) (ap (λ (fs : List (Key × StoredRow)). e ∷ fs) (all_above (e.1.number + 1) next es (omega arith) rest))

-- a row is appended, and the row of another key is removed
left_last : (rows : List (Key × StoredRow)) (key leaving : Key) (row : StoredRow) → (leaving ≡ key → ⊥) → without leaving (without key rows ++ (key, row) ∷ []) ≡ without key (without leaving rows) ++ (key, row) ∷ []
left_last [] key leaving row other = by (is_eq (key_cmp leaving key)) refl
  where
    by : (b : Bool) → is_eq (key_cmp leaving key) ≡ b → without leaving ((key, row) ∷ []) ≡ (key, row) ∷ []
    by true same = absurd (other (one_key leaving key same))
    by false apart = rw apart refl
left_last (e ∷ es) key leaving row other = by (is_eq (key_cmp key e.0)) refl (is_eq (key_cmp leaving e.0)) refl (left_last es key leaving row other)
  where
    by : (a : Bool) → is_eq (key_cmp key e.0) ≡ a → (b : Bool) → is_eq (key_cmp leaving e.0) ≡ b → without leaving (without key es ++ (key, row) ∷ []) ≡ without key (without leaving es) ++ (key, row) ∷ []
        → without leaving (without key (e ∷ es) ++ (key, row) ∷ []) ≡ without key (without leaving (e ∷ es)) ++ (key, row) ∷ []
    by true own true left rest = rw (own, left) rest
    by true own false stays rest = rw (own, stays, own) rest
    by false apart true left rest = rw (apart, left) rest
    by false apart false stays rest = rw (apart, stays, apart) (ap (λ (fs : List (Key × StoredRow)). e ∷ fs) rest)

fewer : (key : Key) (es : List (Key × StoredRow)) → length (without key es) ≤ length es
fewer key [] = omega arith
fewer key (e ∷ es) = by (is_eq (key_cmp key e.0)) refl (fewer key es)
  where
    by : (b : Bool) → is_eq (key_cmp key e.0) ≡ b → length (without key es) ≤ length es → length (without key (e ∷ es)) ≤ length (e ∷ es)
    by true here rest = rw here (omega (arith, rest))
    by false other rest = rw other (omega (arith, rest))

fewer_held : (key : Key) (row : StoredRow) (es : List (Key × StoredRow)) → row_at key es ≡ Some row → length (without key es) + 1 ≤ length es
fewer_held key row [] at = absurd cc
fewer_held key row (e ∷ es) at = by (is_eq (key_cmp key e.0)) refl (fewer key es) (λ there. fewer_held key row es there)
  where
    by : (b : Bool) → is_eq (key_cmp key e.0) ≡ b → length (without key es) ≤ length es → (row_at key es ≡ Some row → length (without key es) + 1 ≤ length es) → length (without key (e ∷ es)) + 1 ≤ length (e ∷ es)
    by true here most rest = rw here (omega (arith, most))
    by false other most rest =
        let less = rest (sym (rw other refl) ∙ at) in
        rw other (omega (arith, less))

one_more : (e : Key × StoredRow) (es : List (Key × StoredRow)) → length (es ++ e ∷ []) ≡ length es + 1
one_more e [] = omega arith
one_more e (f ∷ fs) = let rest = one_more e fs in omega (arith, rest)

-- ---- a row is stored, and another one makes room for it

module _ (s mid : Stocked) (key : Key) (row : StoredRow) (stored : mid ≡ stocked (s.next + 1) (without key s.rows ++ (key, row) ∷ [])) where
  length_stored : length mid.rows ≡ length (without key s.rows) + 1
  length_stored = ap (λ (m : Stocked). length m.rows) stored ∙ one_more (key, row) (without key s.rows)

  -- nothing has to go
  pub put_beside : (full : Bool) → (is_some (row_at key s.rows) || not full) ≡ true → LeftFor key full s.rows s.rows
  put_beside full room = rw room refl

  -- the key had a row
  pub was_held : length mid.rows ≤ length s.rows → is_some (row_at key s.rows) ≡ true
  was_held no_more = by (row_at key s.rows) refl
    where
      by : (before : Option StoredRow) → row_at key s.rows ≡ before → is_some (row_at key s.rows) ≡ true
      by (Some older) held = ap (λ (o : Option StoredRow). is_some o) held
      by None new =
          let all : length (without key s.rows) ≡ length s.rows = ap (λ (fs : List (Key × StoredRow)). length fs) (without_absent key s.rows new) in
          let longer = length_stored in
          absurd (omega (arith, all, longer, no_more))

  -- the key had none
  pub was_new : length s.rows < length mid.rows → row_at key s.rows ≡ None
  was_new more = by (row_at key s.rows) refl
    where
      by : (before : Option StoredRow) → row_at key s.rows ≡ before → row_at key s.rows ≡ None
      by None new = new
      by (Some older) held =
          let less = fewer_held key older s.rows held in
          let longer = length_stored in
          absurd (omega (arith, less, longer, more))

  -- the first to end went
  pub put_instead : (after : Stocked) (leaving : Key) → row_at key s.rows ≡ None → IsFirstToEnd s.rows leaving → after ≡ stocked mid.next (without leaving mid.rows) → after ≡ stocked (s.next + 1) (without key (without leaving s.rows) ++ (key, row) ∷ [])
  put_instead after leaving new (stood, at, least) taken =
      let other : leaving ≡ key → ⊥ = λ same. some_none stood (sym at ∙ ap (λ (k : Key). row_at k s.rows) same ∙ new) in
      taken
      ∙ ap (λ (m : Stocked). stocked m.next (without leaving m.rows)) stored
      ∙ ap (stocked (s.next + 1)) (left_last s.rows key leaving row other)

-- the row of another key stays
pub other_stays : (rows : List (Key × StoredRow)) (key : Key) (row : StoredRow) (k : Key) (other : StoredRow) → row_at key rows ≡ None → row_at k rows ≡ Some other → row_at k (without key rows ++ (key, row) ∷ []) ≡ Some other
other_stays rows key row k other new there = by (is_eq (key_cmp key k)) refl
  where
    by : (b : Bool) → is_eq (key_cmp key k) ≡ b → row_at k (without key rows ++ (key, row) ∷ []) ≡ Some other
    by true tied = absurd (some_none other (sym there ∙ ap (λ (q : Key). row_at q rows) (sym (one_key key k tied)) ∙ new))
    by false apart = rows-put rows key row k ∙ cond-false (is_eq (key_cmp key k)) (Some row) (row_at k rows) apart ∙ there

pub left_first : (key first : Key) (rows : List (Key × StoredRow)) → row_at key rows ≡ None → IsFirstToEnd rows first → LeftFor key true rows (without first rows)
left_first key first rows new is_first = rw new (first, is_first, refl)

-- ---- the row with a number

abbrev both : Key → StoredRow → Key × StoredRow
both key row = (key, row)

-- it is the first whose number isn't below its own
pub first_from : (least next : ℕ) (es : List (Key × StoredRow)) → NumbersRise least next es → (key : Key) (row : StoredRow) → 1 ≤ least → row_at key es ≡ Some row → (rest : List (Key × StoredRow)) × (filter (λ e. nat_lt (row.number - 1) e.1.number) es ≡ (key, row) ∷ rest)
first_from least next [] rise key row some at = absurd (some_none row (sym at))
first_from least next (e ∷ es) (first, rest) key row some at = by (is_eq (key_cmp key e.0)) refl (λ there. first_from (e.1.number + 1) next es rest key row (omega arith) there)
  where
    by : (b : Bool) → is_eq (key_cmp key e.0) ≡ b → (row_at key es ≡ Some row → (fs : List (Key × StoredRow)) × (filter (λ q. nat_lt (row.number - 1) q.1.number) es ≡ (key, row) ∷ fs))
        → (fs : List (Key × StoredRow)) × (filter (λ q. nat_lt (row.number - 1) q.1.number) (e ∷ es) ≡ (key, row) ∷ fs)
    by true same further =
        let stored : e.1 ≡ row = same_row e.1 row (sym (cond-true (is_eq (key_cmp key e.0)) (Some e.1) (row_at key es) same) ∙ at) in
        let number : e.1.number ≡ row.number = ap (λ (r : StoredRow). r.number) stored in
        let over : nat_lt (row.number - 1) e.1.number ≡ true = lt-ltb (row.number - 1) e.1.number (omega (arith, number, first, some)) in (
          filter (λ q. nat_lt (row.number - 1) q.1.number) es,
          cond-true (nat_lt (row.number - 1) e.1.number) (e ∷ filter (λ q. nat_lt (row.number - 1) q.1.number) es) (filter (λ q. nat_lt (row.number - 1) q.1.number) es) over
              ∙ ap (λ (k : Key). both k e.1 ∷ filter (λ q. nat_lt (row.number - 1) q.1.number) es) (sym (one_key key e.0 same))
              ∙ ap (λ (r : StoredRow). both key r ∷ filter (λ q. nat_lt (row.number - 1) q.1.number) es) stored,
        )
    by false apart further =
        let there : row_at key es ≡ Some row = sym (cond-false (is_eq (key_cmp key e.0)) (Some e.1) (row_at key es) apart) ∙ at in
        let (over, below) = found_in es (λ (f : Key × StoredRow). (e.1.number + 1 ≤ f.1.number) × (f.1.number < next)) (rise_each (e.1.number + 1) next es rest) key row there in
        let under : nat_lt (row.number - 1) e.1.number ≡ false = le-ltb (row.number - 1) e.1.number (omega (arith, over)) in
        let (fs, is) = further there in
        (fs, cond-false (nat_lt (row.number - 1) e.1.number) (e ∷ filter (λ q. nat_lt (row.number - 1) q.1.number) es) (filter (λ q. nat_lt (row.number - 1) q.1.number) es) under ∙ is)

pub same_head : (a b : Key × StoredRow) (xs ys : List (Key × StoredRow)) → a ∷ xs ≡ b ∷ ys → a ≡ b
same_head a b xs ys e = cc

-- what comes first there is its key
pub key_from : (next : ℕ) (rows : List (Key × StoredRow)) → NumbersRise 1 next rows → (key : Key) (row : StoredRow) → row_at key rows ≡ Some row → (n : ℕ) → n ≡ row.number - 1 → (e : Key × StoredRow) (others : List (Key × StoredRow)) → filter (λ q. nat_lt n q.1.number) rows ≡ e ∷ others → e ≡ (key, row)
key_from next rows rise key row there n is e others found =
    let (rest, first) = first_from 1 next rows rise key row (omega arith) there in
    same_head e (key, row) others rest (sym found ∙ ap (λ (m : ℕ). filter (λ q. nat_lt m q.1.number) rows) is ∙ first)

-- something does
pub some_from : (next : ℕ) (rows : List (Key × StoredRow)) → NumbersRise 1 next rows → (key : Key) (row : StoredRow) → row_at key rows ≡ Some row → (n : ℕ) → n ≡ row.number - 1 → filter (λ q. nat_lt n q.1.number) rows ≡ [] → ⊥
some_from next rows rise key row there n is none =
    let (rest, first) = first_from 1 next rows rise key row (omega arith) there in
    let both : (key, row) ∷ rest ≡ [] = sym first ∙ ap (λ (m : ℕ). filter (λ q. nat_lt m q.1.number) rows) (sym is) ∙ none in
    absurd cc
