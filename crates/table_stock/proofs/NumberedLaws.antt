-- Rows that get new numbers.
use Rattle.std.proofs.Common.{◌≡◌, ℕ, suc, ◌+◌, ◌≤◌, false, not, List, [], ◌∷◌, ◌++◌, length, None, refl, sym, ap, ◌∙◌, subst, arith, append_assoc}
use Rattle.std.specs.Ordering.{is_eq}
use Rattle.std.proofs.lemmas.Bool.{cond-true}
use Rattle.table_types.specs.declared.key.Key.{Key}
use Rattle.table_types.specs.Keys.{key_cmp}
use Rattle.table_types.specs.Rows.{StoredRow}
use Rattle.table_rows.specs.Rows.{row_at}
use Rattle.table_stock.specs.NumberedRows.{KeysDiffer, NumbersRise, numbered_from, without}
use Rattle.table_stock.specs.Stock.{Stocked}
use Rattle.table_stock.proofs.RowsLaws.{none_from, none_parts}
use Rattle.table_stock.proofs.StockLaws.{one_turned}

-- ---- rows under new numbers

pub as_many : (first : ℕ) (es : List (Key × StoredRow)) → length (numbered_from first es) ≡ length es
as_many first [] = refl
as_many first (e ∷ es) = ap suc (as_many (first + 1) es)

-- there are no more rows than numbers below the next
pub rise_count : (a next : ℕ) (es : List (Key × StoredRow)) → NumbersRise a next es → a + length es ≤ next
rise_count a next [] rise = omega arith
rise_count a next (e ∷ es) (first, rest) = let more = rise_count (e.1.number + 1) next es rest in omega arith

pub numbered_rise : (a first next : ℕ) (es : List (Key × StoredRow)) → a ≤ first → first + length es ≤ next → NumbersRise a next (numbered_from first es)
numbered_rise a first next [] least most = omega arith
numbered_rise a first next (e ∷ es) least most = (least, numbered_rise (first + 1) (first + 1) next es (omega arith) (omega arith))

none_numbered : (key : Key) (first : ℕ) (es : List (Key × StoredRow)) → row_at key es ≡ None → row_at key (numbered_from first es) ≡ None
none_numbered key first [] none = refl
none_numbered key first (e ∷ es) none =
    let parts = none_parts key e es none in
    none_from key (e.0, record e.1 { number = first }) (numbered_from (first + 1) es) parts.0 (none_numbered key (first + 1) es parts.1)

pub differ_numbered : (first : ℕ) (es : List (Key × StoredRow)) → KeysDiffer es → KeysDiffer (numbered_from first es)
differ_numbered first [] differ = differ
differ_numbered first (e ∷ es) (none, differ) = (none_numbered e.0 (first + 1) es none, differ_numbered (first + 1) es differ)

-- ---- rows that are stored one after another

none_behind : (key : Key) (xs ys : List (Key × StoredRow)) → row_at key (xs ++ ys) ≡ None → row_at key ys ≡ None
none_behind key [] ys none = none
none_behind key (x ∷ xs) ys none = none_behind key xs ys (none_parts key x (xs ++ ys) none).1

-- a row that comes later has another key
apart_front : (key : Key) (row : StoredRow) (xs ys : List (Key × StoredRow)) → KeysDiffer (xs ++ (key, row) ∷ ys) → without key xs ≡ xs
apart_front key row [] ys differ = refl
apart_front key row (x ∷ xs) ys (none, differ) =
    let apart = (none_parts x.0 (key, row) ys (none_behind x.0 xs ((key, row) ∷ ys) none)).0 in
    cond-true (not (is_eq (key_cmp key x.0))) (x ∷ without key xs) (without key xs) (ap not (one_turned key x.0 ∙ apart))
    ∙ ap (λ (l : List (Key × StoredRow)). x ∷ l) (apart_front key row xs ys differ)

pub one_stored : (done all iter rest : List (Key × StoredRow)) (next : ℕ) (e : Key × StoredRow) (after : Stocked) → KeysDiffer all → done ++ numbered_from next iter ≡ numbered_from 1 all → iter ≡ e ∷ rest
    → after ≡ record { rows = without e.0 done ++ (e.0, record e.1 { number = next }) ∷ []; next = next + 1 } → after.rows ++ numbered_from after.next rest ≡ numbered_from 1 all
one_stored done all iter rest next e after differ before iter_is after_is =
    ap (λ (s : Stocked). s.rows ++ numbered_from s.next rest) after_is
    ∙ ap (λ (l : List (Key × StoredRow)). (l ++ (e.0, row) ∷ []) ++ numbered_from (next + 1) rest) (apart_front e.0 row done (numbered_from (next + 1) rest) apart)
    ∙ append_assoc done ((e.0, row) ∷ []) (numbered_from (next + 1) rest)
    ∙ whole
  where
    row : StoredRow
    row = record e.1 { number = next }

    whole : done ++ (e.0, row) ∷ numbered_from (next + 1) rest ≡ numbered_from 1 all
    whole = ap (λ (l : List (Key × StoredRow)). done ++ numbered_from next l) (sym iter_is) ∙ before

    apart : KeysDiffer (done ++ (e.0, row) ∷ numbered_from (next + 1) rest)
    apart = subst KeysDiffer (sym whole) (differ_numbered 1 all differ)
