-- What the calls of a stock do to its keys, slots, log and ends together.
use Rattle.std.proofs.Common.{◌≡◌, ℕ, ◌+◌, ◌-◌, ◌<◌, ◌^◌, true, false, List, [], ◌∷◌, ◌++◌, Option, Some, None, IfSome, Result, Ok, Err, OnErr, refl, sym, ap, ◌∙◌, arith, inl}
use Rattle.std.specs.Prelude.{cond, filter, nat_lt}
use Rattle.std.specs.Ordering.{is_lt}
use Rattle.table_types.specs.declared.key.Key.{Key}
use Rattle.table_types.specs.Rows.{StoredRow}
use Rattle.table_rows.specs.declared.row_end.RowEnd.{RowEnd}
use Rattle.table_rows.specs.Endings.{are_same, ending_of, is_among, later_cmp}
use Rattle.table_rows.specs.Rows.{row_at}
use Rattle.table_stock.specs.NumberedRows.{without}
use Rattle.table_stock.specs.Shelves.{AreShelved, EndsFirst, IsSwept, PutsEnd, PutsRow, TakesRow, UpdatesSlot, is_among_without, row_alone, row_in, rows_in, slot_of}
use Rattle.table_stock.proofs.StockSteps.{first_from}
use Rattle.table_stock.proofs.EndLaws.{all_live_before, first_of_rows, first_row}
use Rattle.table_stock.proofs.ShelfLaws.{put_shelved, row_stands, rows_put, rows_taken, swept_shelved, taken_shelved}

pub on_err : {T E Q : Type 0} (r : Result T E) → Q → OnErr r Q
on_err (Ok x) holds = tt
on_err (Err error) holds = holds

module _ (keys : List (Key × ℕ)) (slots : List (Option (Key × StoredRow))) (log : List (ℕ × ℕ)) (next : ℕ) (ends : List RowEnd) (shelved : AreShelved keys (row_in slots) log next ends) where
  abbrev rows : List (Key × StoredRow)
  rows = rows_in (row_in slots) log

  -- a row was stored, and the log swept
  module _ (key : Key) (row : StoredRow) (is : row.number ≡ next) (slot : ℕ) (keys_after : List (Key × ℕ)) (slots_after : List (Option (Key × StoredRow))) (put : PutsRow key row slot keys keys_after slots slots_after) (log_after : List (ℕ × ℕ))
      (swept : IsSwept (row_in slots_after) (log ++ (next, slot) ∷ []) log_after) where
    pub stored_rows : rows_in (row_in slots_after) log_after ≡ without key rows ++ (key, row) ∷ []
    stored_rows = swept.rows ∙ rows_put keys (row_in slots) log next ends shelved key slot put.free (row_in slots_after) put.put.others row is put.put.changed

    pub stored_shelved : next < 2 ^ 32 → IfSome row.ends (λ end. end < 2 ^ 63) → (ends_after : List RowEnd) → PutsEnd (row_alone (row_in slots slot)) row ends ends_after → AreShelved keys_after (row_in slots_after) log_after (next + 1) ends_after
    stored_shelved left within ends_after end_put =
        swept_shelved keys_after (row_in slots_after) (log ++ (next, slot) ∷ []) (next + 1) ends_after
        (put_shelved keys (row_in slots) log next ends shelved key slot put.free (row_in slots_after) put.put.others row is put.put.changed left within keys_after put.named ends_after end_put)
        log_after swept

  -- the row of an end was taken out
  module _ (end : RowEnd) (key : Key) (row : StoredRow) (there : row_at key rows ≡ Some row) (is : end ≡ ending_of row) (keys_after : List (Key × ℕ)) (slots_after : List (Option (Key × StoredRow)))
      (takes : (e : Key × StoredRow) (rest : List (Key × StoredRow)) → filter (λ q. nat_lt (end.number - 1) q.1.number) rows ≡ e ∷ rest → TakesRow e.0 keys keys_after slots slots_after) where
    taken : TakesRow key keys keys_after slots slots_after
    taken =
        let (rest, from) = first_from 1 next rows shelved.sound.numbers key row (omega arith) there in
        takes (key, row) rest (ap (λ (e : RowEnd). filter (λ q. nat_lt (e.number - 1) q.1.number) rows) is ∙ from)

    at_slot : (slot : ℕ) × (row_in slots slot ≡ Some (key, row))
    at_slot = row_stands (row_in slots) log key row there

    named : slot_of key keys ≡ Some at_slot.0
    named = shelved.keyed at_slot.0 (key, row) at_slot.1

    emptied : UpdatesSlot slots slots_after at_slot.0 None
    emptied = taken.taken at_slot.0 named

    pub taken_rows : rows_in (row_in slots_after) log ≡ without key rows
    taken_rows = rows_taken keys (row_in slots) log next ends shelved key at_slot.0 (inl named) (row_in slots_after) emptied.others emptied.changed

    pub taken_all : (ends_after : List RowEnd) → ((q : RowEnd) → is_among ends_after q ≡ cond (are_same end q) false (is_among ends q)) → AreShelved keys_after (row_in slots_after) log next ends_after
    taken_all ends_after left = taken_shelved keys (row_in slots) log next ends shelved key at_slot.0 (inl named) (row_in slots_after) emptied.others emptied.changed keys_after taken.named ends_after (λ q.
        left q
        ∙ ap (λ (e : RowEnd). cond (are_same e q) false (is_among ends q)) is
        ∙ ap (λ (o : Option StoredRow). is_among_without o (is_among ends) q) (sym there))

  -- the first of the ends is that of the first row to end
  pub ends_first : (first : RowEnd) → is_among ends first ≡ true → ((end : RowEnd) → is_among ends end ≡ true → is_lt (later_cmp first end) ≡ false) → EndsFirst rows first
  ends_first first member greatest =
      let found = first_row rows next shelved.sound.numbers shelved.sound.keys ends shelved.ends first member in
      record {
        key = found.0;
        row = found.1;
        there = found.2;
        is = found.3;
        first = first_of_rows rows next shelved.sound.numbers shelved.sound.keys ends shelved.ends first member greatest;
        later = all_live_before rows next shelved.sound.numbers shelved.sound.keys ends shelved.ends first member greatest;
      }
