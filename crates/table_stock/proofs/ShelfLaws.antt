-- Rows in slots, with the slot of each key, a log and the ends: what is looked up there, put, taken out and swept.
use Rattle.std.proofs.Common.{◌≡◌, ◌⊎◌, ℕ, ◌+◌, ◌-◌, ◌<◌, ◌≤◌, ◌^◌, Bool, true, false, cond, not, List, [], ◌∷◌, ◌++◌, length, Option, Some, None, IfSome, Result, Ok, Err, IfOk, OnOk, refl, sym, ap, ◌∙◌, subst, arith, append-nil, inl, inr}
use Rattle.std.specs.Prelude.{filter, nat_lt}
use Rattle.std.specs.List.{AllByRecursion, cons_option}
use Rattle.std.specs.Ordering.{is_eq}
use Rattle.std.proofs.lemmas.Bool.{cases_Bool, cases_eq, cond-false, cond-true}
use Rattle.std.proofs.lemmas.Option.{none-some, same_Some}
use Rattle.table_types.specs.declared.key.Key.{Key}
use Rattle.table_types.specs.Keys.{key_cmp}
use Rattle.table_types.specs.Rows.{StoredRow}
use Rattle.table_types.proofs.EqualKeysAreOne.{one_key}
use Rattle.table_rows.specs.declared.row_end.RowEnd.{RowEnd}
use Rattle.table_rows.specs.Endings.{are_same, ending_of, is_among}
use Rattle.table_rows.specs.Rows.{row_at}
use Rattle.table_stock.specs.NumberedRows.{without}
use Rattle.table_stock.specs.Shelves.{AreEnds, AreShelved, IsSwept, LogRises, PutsEnd, PutsRow, UpdatesSlot, current, has_end, if_numbered, is_among_without, row_alone, row_in, rows_in, slot_of}
use Rattle.table_stock.specs.Stock.{IsStock, Stocked, stocked}
use Rattle.table_stock.proofs.LogLaws.{log_below, log_end, numbered_is, numbered_other, numbered_same, rows-append, rows_same}
use Rattle.table_stock.proofs.RowsLaws.{some_none}
use Rattle.table_stock.proofs.StockLaws.{apart_from, key-same, put_sound, rows-put, rows-without, same_row, taken_sound}
use Rattle.table_stock.proofs.EndLaws.{new_end, put_ends, taken_ends}

-- ---- what is looked up

abbrev both : Key → StoredRow → Key × StoredRow
both key row = (key, row)

same_entry : (e : Key × StoredRow) (key : Key) (row : StoredRow) → e.0 ≡ key → e.1 ≡ row → ◌≡◌ {A = Option (Key × StoredRow)} (Some e) (Some (key, row))
same_entry e key row one two = ap (λ (k : Key). Some (both k e.1)) one ∙ ap (λ (r : StoredRow). Some (both key r)) two

-- a row that is found in the log is in a slot
pub row_stands : (at : ℕ → Option (Key × StoredRow)) (log : List (ℕ × ℕ)) (key : Key) (row : StoredRow) → row_at key (rows_in at log) ≡ Some row → (slot : ℕ) × (at slot ≡ Some (key, row))
row_stands at [] key row there = absurd (some_none row (sym there))
row_stands at (entry ∷ log) key row there = by (current at entry) refl (λ further. row_stands at log key row further)
  where
    by : (o : Option (Key × StoredRow)) → current at entry ≡ o → (row_at key (rows_in at log) ≡ Some row → (slot : ℕ) × (at slot ≡ Some (key, row))) → (slot : ℕ) × (at slot ≡ Some (key, row))
    by None none further = further (ap (λ (o : Option (Key × StoredRow)). row_at key (cons_option o (rows_in at log))) (sym none) ∙ there)
    by (Some e) is further =
        let first : row_at key (e ∷ rows_in at log) ≡ Some row = ap (λ (o : Option (Key × StoredRow)). row_at key (cons_option o (rows_in at log))) (sym is) ∙ there in
        here (is_eq (key_cmp key e.0)) refl first
      where
        here : (b : Bool) → is_eq (key_cmp key e.0) ≡ b → row_at key (e ∷ rows_in at log) ≡ Some row → (slot : ℕ) × (at slot ≡ Some (key, row))
        here true tied first =
            let stored : e.1 ≡ row = same_row e.1 row (sym (cond-true (is_eq (key_cmp key e.0)) (Some e.1) (row_at key (rows_in at log)) tied) ∙ first) in
            (entry.1, (numbered_is entry.0 (at entry.1) e is).0 ∙ same_entry e key row (sym (one_key key e.0 tied)) stored)
        here false other first = further (sym (cond-false (is_eq (key_cmp key e.0)) (Some e.1) (row_at key (rows_in at log)) other) ∙ first)

module _ (keys : List (Key × ℕ)) (at : ℕ → Option (Key × StoredRow)) (log : List (ℕ × ℕ)) (next : ℕ) (ends : List RowEnd) (shelved : AreShelved keys at log next ends) where
  pub no_slot : (key : Key) → slot_of key keys ≡ None → row_at key (rows_in at log) ≡ None
  no_slot key none = by (row_at key (rows_in at log)) refl
    where
      by : (o : Option StoredRow) → row_at key (rows_in at log) ≡ o → row_at key (rows_in at log) ≡ None
      by None new = new
      by (Some row) held =
          let (slot, there) = row_stands at log key row held in
          absurd (none-some slot (sym none ∙ shelved.keyed slot (key, row) there))

  pub in_slot : (key : Key) (slot : ℕ) (o : Option (Key × StoredRow)) → slot_of key keys ≡ Some slot → at slot ≡ o → row_alone o ≡ row_at key (rows_in at log)
  in_slot key slot o is there =
      let (row, found) = shelved.found key slot is in
      ap row_alone (sym there ∙ found) ∙ sym (shelved.logged slot (key, row) found)

  pub has_row : (key : Key) (slot : ℕ) → slot_of key keys ≡ Some slot → (e : Key × StoredRow) × (at slot ≡ Some e)
  has_row key slot is = let (row, found) = shelved.found key slot is in ((key, row), found)

-- ---- the rows of a log after one slot has changed

goes : (key : Key) (o : Option (Key × StoredRow)) (rows : List (Key × StoredRow)) → ((e : Key × StoredRow) → o ≡ Some e → is_eq (key_cmp key e.0) ≡ true) → without key (cons_option o rows) ≡ without key rows
goes key None rows tied = refl
goes key (Some e) rows tied = cond-false (not (is_eq (key_cmp key e.0))) (e ∷ without key rows) (without key rows) (ap not (tied e refl))

stays : (key : Key) (o : Option (Key × StoredRow)) (rows : List (Key × StoredRow)) → ((e : Key × StoredRow) → o ≡ Some e → is_eq (key_cmp key e.0) ≡ false) → without key (cons_option o rows) ≡ cons_option o (without key rows)
stays key None rows apart = refl
stays key (Some e) rows apart = cond-true (not (is_eq (key_cmp key e.0))) (e ∷ without key rows) (without key rows) (ap not (apart e refl))

-- the rows of other slots stay, and no entry is of what the slot has now
rows_left : (at after : ℕ → Option (Key × StoredRow)) (slot : ℕ) (key : Key) → ((s : ℕ) → (s ≡ slot → ⊥) → after s ≡ at s) → ((e : Key × StoredRow) → at slot ≡ Some e → is_eq (key_cmp key e.0) ≡ true)
    → ((s : ℕ) (e : Key × StoredRow) → (s ≡ slot → ⊥) → at s ≡ Some e → is_eq (key_cmp key e.0) ≡ false) → (log : List (ℕ × ℕ)) → AllByRecursion (λ (entry : ℕ × ℕ). if_numbered entry.0 (after slot) ≡ None) log → rows_in after log ≡ without key (rows_in at log)
rows_left at after slot key others own apart [] stale = refl
rows_left at after slot key others own apart (entry ∷ log) (first, rest) =
    let more = rows_left at after slot key others own apart log rest in
    elim (cases_eq entry.1 slot) [
      | inl same ↦
          let gone : current after entry ≡ None = ap (λ (s : ℕ). if_numbered entry.0 (after s)) same ∙ first in
          let tied : (e : Key × StoredRow) → current at entry ≡ Some e → is_eq (key_cmp key e.0) ≡ true = λ e is. own e (ap at (sym same) ∙ (numbered_is entry.0 (at entry.1) e is).0) in
          ap (λ (o : Option (Key × StoredRow)). cons_option o (rows_in after log)) gone ∙ more ∙ sym (goes key (current at entry) (rows_in at log) tied)
      | inr other ↦
          let there : current after entry ≡ current at entry = ap (if_numbered entry.0) (others entry.1 other) in
          let loose : (e : Key × StoredRow) → current at entry ≡ Some e → is_eq (key_cmp key e.0) ≡ false = λ e is. apart entry.1 e other (numbered_is entry.0 (at entry.1) e is).0 in
          ap (λ (o : Option (Key × StoredRow)). cons_option o (rows_in after log)) there ∙ ap (cons_option (current at entry)) more ∙ sym (stays key (current at entry) (rows_in at log) loose)
    ]

all_stale : (next : ℕ) (e : Key × StoredRow) → e.1.number ≡ next → (log : List (ℕ × ℕ)) → AllByRecursion (λ (entry : ℕ × ℕ). entry.0 < next) log → AllByRecursion (λ (entry : ℕ × ℕ). if_numbered entry.0 (Some e) ≡ None) log
all_stale next e is [] below = tt
all_stale next e is (entry ∷ log) (first, rest) = (numbered_other entry.0 e (λ same. omega (arith, first, same, is)), all_stale next e is log rest)

none_stale : (log : List (ℕ × ℕ)) → AllByRecursion (λ (entry : ℕ × ℕ). if_numbered entry.0 None ≡ None) log
none_stale [] = tt
none_stale (entry ∷ log) = (refl, none_stale log)

-- ---- a stock without rows

pub new_shelved : (first : ℕ) (keys : List (Key × ℕ)) (at : ℕ → Option (Key × StoredRow)) (log : List (ℕ × ℕ)) (ends : List RowEnd) → 1 ≤ first → first ≤ 2 ^ 32 → keys ≡ [] → ((slot : ℕ) → at slot ≡ None) → log ≡ [] → ends ≡ [] → AreShelved keys at log first ends
new_shelved first keys at log ends least most no_key no_row no_entry no_end =
    rw (no_key, no_entry, no_end) (record {
      sound = record { numbers = least; keys = tt; most = most };
      rising = least;
      keyed = λ slot e there. absurd (none-some e (sym (no_row slot) ∙ there));
      found = λ key slot is. absurd (none-some slot is);
      logged = λ slot e there. absurd (none-some e (sym (no_row slot) ∙ there));
      ends = record { exactly = λ end. refl; within = tt };
    })

-- ---- calls that leave the rows

module _ (keys : List (Key × ℕ)) (at : ℕ → Option (Key × StoredRow)) (log : List (ℕ × ℕ)) (next : ℕ) (ends : List RowEnd) (shelved : AreShelved keys at log next ends) where
  abbrev rows : List (Key × StoredRow)
  rows = rows_in at log

  pub swept_shelved : (log_after : List (ℕ × ℕ)) → IsSwept at log log_after → AreShelved keys at log_after next ends
  swept_shelved log_after swept = record {
    sound = subst (λ (es : List (Key × StoredRow)). IsStock (stocked next es)) (sym swept.rows) shelved.sound;
    rising = swept.rising 1 next shelved.rising;
    keyed = shelved.keyed;
    found = shelved.found;
    logged = λ slot e there. ap (row_at e.0) swept.rows ∙ shelved.logged slot e there;
    ends = subst (λ (es : List (Key × StoredRow)). AreEnds es ends) (sym swept.rows) shelved.ends;
  }

  -- the same slots, keys, entries and ends again
  pub same_shelved : (keys_after : List (Key × ℕ)) (after : ℕ → Option (Key × StoredRow)) (log_after : List (ℕ × ℕ)) (ends_after : List RowEnd) → keys_after ≡ keys → ((slot : ℕ) → after slot ≡ at slot) → log_after ≡ log → ((end : RowEnd) → is_among ends_after end ≡ is_among ends end)
      → AreShelved keys_after after log_after next ends_after
  same_shelved keys_after after log_after ends_after same_keys same same_log same_ends =
      rw (same_keys, same_log) (record {
        sound = subst (λ (es : List (Key × StoredRow)). IsStock (stocked next es)) (sym again) shelved.sound;
        rising = shelved.rising;
        keyed = λ slot e there. shelved.keyed slot e (sym (same slot) ∙ there);
        found = λ key slot is. let (row, there) = shelved.found key slot is in (row, same slot ∙ there);
        logged = λ slot e there. ap (row_at e.0) again ∙ shelved.logged slot e (sym (same slot) ∙ there);
        ends = subst (λ (es : List (Key × StoredRow)). AreEnds es ends_after) (sym again) (record { exactly = λ end. same_ends end ∙ shelved.ends.exactly end; within = shelved.ends.within });
      })
    where
      again : rows_in after log ≡ rows
      again = rows_same at after same log

  pub unused_end : (row : StoredRow) → row.number ≡ next → is_among ends (ending_of row) ≡ false
  unused_end row is = new_end rows next shelved.sound.numbers shelved.sound.keys ends shelved.ends row is

  -- ---- one slot changes, and it is the key's or a vacant one

  module _ (key : Key) (slot : ℕ) (free : (slot_of key keys ≡ Some slot) ⊎ ((slot_of key keys ≡ None) × (at slot ≡ None))) where
    -- a row in that slot is the key's
    own : (e : Key × StoredRow) → at slot ≡ Some e → is_eq (key_cmp key e.0) ≡ true
    own e there = elim free [
      | inl held ↦
          let (row, found) = shelved.found key slot held in
          let one : (key, row) ≡ e = same_Some (key, row) e (sym found ∙ there) in
          ap (λ (q : Key × StoredRow). is_eq (key_cmp key q.0)) (sym one) ∙ key-same key
      | inr new ↦ absurd (none-some e (sym new.1 ∙ there))
    ]

    -- and no other row is
    apart : (s : ℕ) (e : Key × StoredRow) → (s ≡ slot → ⊥) → at s ≡ Some e → is_eq (key_cmp key e.0) ≡ false
    apart s e other there = by (is_eq (key_cmp key e.0)) refl
      where
        by : (b : Bool) → is_eq (key_cmp key e.0) ≡ b → is_eq (key_cmp key e.0) ≡ false
        by false loose = loose
        by true tied =
            let named : slot_of key keys ≡ Some s = ap (λ (k : Key). slot_of k keys) (one_key key e.0 tied) ∙ shelved.keyed s e there in
            elim free [
              | inl held ↦ absurd (other (same_Some s slot (sym named ∙ held)))
              | inr new ↦ absurd (none-some s (sym new.0 ∙ named))
            ]

    -- what is in that slot is the key's row
    pub stood : row_alone (at slot) ≡ row_at key rows
    stood = elim free [
      | inl held ↦ in_slot keys at log next ends shelved key slot (at slot) held refl
      | inr new ↦ ap row_alone new.1 ∙ sym (no_slot keys at log next ends shelved key new.0)
    ]

    module _ (after : ℕ → Option (Key × StoredRow)) (others : (s : ℕ) → (s ≡ slot → ⊥) → after s ≡ at s) where
      -- the key's row was put there
      module _ (row : StoredRow) (is : row.number ≡ next) (there : after slot ≡ Some (key, row)) where
        front : rows_in after log ≡ without key rows
        front = rows_left at after slot key others own apart log (subst (λ (o : Option (Key × StoredRow)). AllByRecursion (λ (entry : ℕ × ℕ). if_numbered entry.0 o ≡ None) log) (sym there) (all_stale next (key, row) is log (log_below 1 next log shelved.rising)))

        pub rows_put : rows_in after (log ++ (next, slot) ∷ []) ≡ without key rows ++ (key, row) ∷ []
        rows_put =
            rows-append after log ((next, slot) ∷ [])
            ∙ ap (λ (es : List (Key × StoredRow)). es ++ rows_in after ((next, slot) ∷ [])) front
            ∙ ap (λ (o : Option (Key × StoredRow)). without key rows ++ cons_option o []) (ap (if_numbered next) there ∙ numbered_same next (key, row) is)

        module _ (left : next < 2 ^ 32) (within : IfSome row.ends (λ end. end < 2 ^ 63)) (keys_after : List (Key × ℕ)) (named : (k : Key) → slot_of k keys_after ≡ cond (is_eq (key_cmp key k)) (Some slot) (slot_of k keys)) (ends_after : List RowEnd)
            (put : PutsEnd (row_alone (at slot)) row ends ends_after) where
          slot_named : slot_of key keys_after ≡ Some slot
          slot_named = named key ∙ cond-true (is_eq (key_cmp key key)) (Some slot) (slot_of key keys) (key-same key)

          keyed_put : (s : ℕ) (e : Key × StoredRow) → after s ≡ Some e → slot_of e.0 keys_after ≡ Some s
          keyed_put s e stands = elim (cases_eq s slot) [
            | inl same ↦
                let one : (key, row) ≡ e = same_Some (key, row) e (sym there ∙ ap after (sym same) ∙ stands) in
                ap (λ (q : Key × StoredRow). slot_of q.0 keys_after) (sym one) ∙ slot_named ∙ ap (λ (n : ℕ). Some n) (sym same)
            | inr other ↦
                let before : at s ≡ Some e = sym (others s other) ∙ stands in
                named e.0 ∙ cond-false (is_eq (key_cmp key e.0)) (Some slot) (slot_of e.0 keys) (apart s e other before) ∙ shelved.keyed s e before
          ]

          found_put : (k : Key) (s : ℕ) → slot_of k keys_after ≡ Some s → (r : StoredRow) × (after s ≡ Some (k, r))
          found_put k s is_named = by (is_eq (key_cmp key k)) refl
            where
              by : (b : Bool) → is_eq (key_cmp key k) ≡ b → (r : StoredRow) × (after s ≡ Some (k, r))
              by true tied =
                  let here : slot ≡ s = same_Some slot s (sym (cond-true (is_eq (key_cmp key k)) (Some slot) (slot_of k keys) tied) ∙ sym (named k) ∙ is_named) in
                  (row, ap after (sym here) ∙ there ∙ ap (λ (q : Key). Some (both q row)) (one_key key k tied))
              by false loose =
                  let before : slot_of k keys ≡ Some s = sym (cond-false (is_eq (key_cmp key k)) (Some slot) (slot_of k keys) loose) ∙ sym (named k) ∙ is_named in
                  let (r, stands) = shelved.found k s before in
                  let other : s ≡ slot → ⊥ = λ same. apart_from (is_eq (key_cmp key k)) (own (k, r) (ap at (sym same) ∙ stands)) loose in
                  (r, others s other ∙ stands)

          logged_put : (s : ℕ) (e : Key × StoredRow) → after s ≡ Some e → row_at e.0 (without key rows ++ (key, row) ∷ []) ≡ Some e.1
          logged_put s e stands = elim (cases_eq s slot) [
            | inl same ↦
                let one : (key, row) ≡ e = same_Some (key, row) e (sym there ∙ ap after (sym same) ∙ stands) in
                let own_row : row_at key (without key rows ++ (key, row) ∷ []) ≡ Some row = rows-put rows key row key ∙ cond-true (is_eq (key_cmp key key)) (Some row) (row_at key rows) (key-same key) in
                ap (λ (q : Key × StoredRow). row_at q.0 (without key rows ++ (key, row) ∷ [])) (sym one) ∙ own_row ∙ ap (λ (q : Key × StoredRow). Some q.1) one
            | inr other ↦
                let before : at s ≡ Some e = sym (others s other) ∙ stands in
                rows-put rows key row e.0 ∙ cond-false (is_eq (key_cmp key e.0)) (Some row) (row_at e.0 rows) (apart s e other before) ∙ shelved.logged s e before
          ]

          pub put_shelved : AreShelved keys_after after (log ++ (next, slot) ∷ []) (next + 1) ends_after
          put_shelved = record {
            sound = subst (λ (es : List (Key × StoredRow)). IsStock (stocked (next + 1) es)) (sym rows_put) (put_sound rows next key row is left shelved.sound);
            rising = log_end 1 next slot log shelved.rising;
            keyed = keyed_put;
            found = found_put;
            logged = λ s e stands. ap (row_at e.0) rows_put ∙ logged_put s e stands;
            ends = subst (λ (es : List (Key × StoredRow)). AreEnds es ends_after) (sym rows_put)
                (put_ends rows next shelved.sound.numbers shelved.sound.keys ends shelved.ends key row is within (row_alone (at slot)) stood ends_after put);
          }

      -- the key's row was taken out
      module _ (gone : after slot ≡ None) where
        pub rows_taken : rows_in after log ≡ without key rows
        rows_taken = rows_left at after slot key others own apart log (subst (λ (o : Option (Key × StoredRow)). AllByRecursion (λ (entry : ℕ × ℕ). if_numbered entry.0 o ≡ None) log) (sym gone) (none_stale log))

        module _ (keys_after : List (Key × ℕ)) (named : (k : Key) → slot_of k keys_after ≡ cond (is_eq (key_cmp key k)) None (slot_of k keys)) (ends_after : List RowEnd) (left : (end : RowEnd) → is_among ends_after end ≡ is_among_without (row_at key rows) (is_among ends) end) where
          keyed_taken : (s : ℕ) (e : Key × StoredRow) → after s ≡ Some e → slot_of e.0 keys_after ≡ Some s
          keyed_taken s e stands = elim (cases_eq s slot) [
            | inl same ↦ absurd (none-some e (sym gone ∙ ap after (sym same) ∙ stands))
            | inr other ↦
                let before : at s ≡ Some e = sym (others s other) ∙ stands in
                named e.0 ∙ cond-false (is_eq (key_cmp key e.0)) None (slot_of e.0 keys) (apart s e other before) ∙ shelved.keyed s e before
          ]

          found_taken : (k : Key) (s : ℕ) → slot_of k keys_after ≡ Some s → (r : StoredRow) × (after s ≡ Some (k, r))
          found_taken k s is_named = by (is_eq (key_cmp key k)) refl
            where
              by : (b : Bool) → is_eq (key_cmp key k) ≡ b → (r : StoredRow) × (after s ≡ Some (k, r))
              by true tied = absurd (none-some s (sym (cond-true (is_eq (key_cmp key k)) None (slot_of k keys) tied) ∙ sym (named k) ∙ is_named))
              by false loose =
                  let before : slot_of k keys ≡ Some s = sym (cond-false (is_eq (key_cmp key k)) None (slot_of k keys) loose) ∙ sym (named k) ∙ is_named in
                  let (r, stands) = shelved.found k s before in
                  let other : s ≡ slot → ⊥ = λ same. apart_from (is_eq (key_cmp key k)) (own (k, r) (ap at (sym same) ∙ stands)) loose in
                  (r, others s other ∙ stands)

          logged_taken : (s : ℕ) (e : Key × StoredRow) → after s ≡ Some e → row_at e.0 (without key rows) ≡ Some e.1
          logged_taken s e stands = elim (cases_eq s slot) [
            | inl same ↦ absurd (none-some e (sym gone ∙ ap after (sym same) ∙ stands))
            | inr other ↦
                let before : at s ≡ Some e = sym (others s other) ∙ stands in
                rows-without rows key e.0 ∙ cond-false (is_eq (key_cmp key e.0)) None (row_at e.0 rows) (apart s e other before) ∙ shelved.logged s e before
          ]

          pub taken_shelved : AreShelved keys_after after log next ends_after
          taken_shelved = record {
            sound = subst (λ (es : List (Key × StoredRow)). IsStock (stocked next es)) (sym rows_taken) (taken_sound rows next key shelved.sound);
            rising = shelved.rising;
            keyed = keyed_taken;
            found = found_taken;
            logged = λ s e stands. ap (row_at e.0) rows_taken ∙ logged_taken s e stands;
            ends = subst (λ (es : List (Key × StoredRow)). AreEnds es ends_after) (sym rows_taken)
                (taken_ends rows next shelved.sound.numbers shelved.sound.keys ends shelved.ends key (row_at key rows) refl ends_after left);
          }

-- ---- a row is put into the key's slot, or into a new one

pub held_named : (keys : List (Key × ℕ)) (key : Key) (slot : ℕ) → slot_of key keys ≡ Some slot → (k : Key) → slot_of k keys ≡ cond (is_eq (key_cmp key k)) (Some slot) (slot_of k keys)
held_named keys key slot held k = by (is_eq (key_cmp key k)) refl
  where
    by : (b : Bool) → is_eq (key_cmp key k) ≡ b → slot_of k keys ≡ cond (is_eq (key_cmp key k)) (Some slot) (slot_of k keys)
    by true tied = ap (λ (q : Key). slot_of q keys) (sym (one_key key k tied)) ∙ held ∙ sym (cond-true (is_eq (key_cmp key k)) (Some slot) (slot_of k keys) tied)
    by false loose = sym (cond-false (is_eq (key_cmp key k)) (Some slot) (slot_of k keys) loose)

pub put_in_new : {E : Type 0} (r : Result ℕ E) (key : Key) (row : StoredRow) (keys keys_after : List (Key × ℕ)) (slots slots_after : List (Option (Key × StoredRow))) → slot_of key keys ≡ None → IfOk r (λ slot. row_in slots slot ≡ None)
    → IfOk r (λ slot. (k : Key) → slot_of k keys_after ≡ cond (is_eq (key_cmp key k)) (Some slot) (slot_of k keys)) → IfOk r (λ slot. UpdatesSlot slots slots_after slot (Some (key, row))) → IfOk r (λ slot. PutsRow key row slot keys keys_after slots slots_after)
put_in_new (Ok slot) key row keys keys_after slots slots_after new vacant named put = record { named = named; free = inr (new, vacant); put = put }
put_in_new (Err error) key row keys keys_after slots slots_after new vacant named put = tt

pub put_ends_new : {E : Type 0} (r : Result ℕ E) (row : StoredRow) (slots : List (Option (Key × StoredRow))) (ends ends_after : List RowEnd) → IfOk r (λ slot. row_in slots slot ≡ None) → OnOk r (PutsEnd None row ends ends_after) → IfOk r (λ slot. PutsEnd (row_alone (row_in slots slot)) row ends ends_after)
put_ends_new (Ok slot) row slots ends ends_after vacant put = subst (λ (o : Option (Key × StoredRow)). PutsEnd (row_alone o) row ends ends_after) (sym vacant) put
put_ends_new (Err error) row slots ends ends_after vacant put = tt

-- ---- the end of a row is put in place of another one's

pub put_in_ends : (old mid new : List RowEnd) (row older : StoredRow) (end end_older : RowEnd) (o : Option (Key × StoredRow)) (e : Key × StoredRow) → end ≡ ending_of row → end_older ≡ ending_of older → o ≡ Some e → older ≡ e.1
    → ((q : RowEnd) → is_among mid q ≡ cond (are_same end q) true (is_among old q)) → ((q : RowEnd) → is_among new q ≡ cond (are_same end_older q) false (is_among mid q)) → PutsEnd (row_alone o) row old new
put_in_ends old mid new row older end end_older o e is is_older there same put removed = λ q.
    removed q
    ∙ ap (λ (x : RowEnd). cond (are_same x q) false (is_among mid q)) is_older
    ∙ ap (λ (b : Bool). cond (are_same (ending_of older) q) false b) (put q ∙ ap (λ (x : RowEnd). cond (are_same x q) true (is_among old q)) is)
    ∙ ap (λ (r : StoredRow). cond (are_same (ending_of r) q) false (cond (are_same (ending_of row) q) true (is_among old q))) same
    ∙ ap (λ (p : Option (Key × StoredRow)). is_among_without (row_alone p) (λ x. cond (are_same (ending_of row) x) true (is_among old x)) q) (sym there)

-- it is added
pub put_new_end : (old new : List RowEnd) (row : StoredRow) (end : RowEnd) → end ≡ ending_of row → ((q : RowEnd) → is_among new q ≡ cond (are_same end q) true (is_among old q)) → PutsEnd None row old new
put_new_end old new row end is put = λ q. put q ∙ ap (λ (x : RowEnd). cond (are_same x q) true (is_among old q)) is
