-- Rows in slots: what is looked up there, and a slot that changes.
use Rattle.std.proofs.Common.{◌≡◌, ◌≢◌, ℕ, zero, suc, ◌<◌, ◌^◌, ◌||◌, ◌&&◌, Bool, true, false, List, [], ◌∷◌, ◌++◌, length, set, Option, Some, None, refl, sym, ap, ◌∙◌, subst, arith, true≢false, Bor, option_copied}
use Rattle.std.specs.Prelude.{is_some, map, nat_lt, slice_get, slice_index_or}
use Rattle.std.proofs.lemmas.Bool.{cond-false, cond-true, lt-ltb, ltb-true}
use Rattle.std.proofs.lemmas.Option.{none-some, same_Some, slice_get_within}
use Rattle.table_types.specs.declared.key.Key.{Key}
use Rattle.table_types.specs.Rows.{StoredRow}
use Rattle.table_stock.specs.declared.slots.Slot.{Slot}
use Rattle.table_stock.specs.declared.slots.Slot.TheVariants.{Taken, Vacant}
use Rattle.table_stock.specs.Shelves.{UpdatesSlot, row_in}
use Rattle.table_stock.specs.Slots.{link_from, link_in, row_of, vacant_in}

pub empty_slots : (slots : List (Option (Key × StoredRow))) → slots ≡ [] → (slot : ℕ) → row_in slots slot ≡ None
empty_slots slots none slot = ap (λ (l : List (Option (Key × StoredRow))). slice_index_or l slot None) none

-- the row that is found in a slot
abbrev pub row_from : Option Slot → Option (Key × StoredRow)
row_from None = None
row_from (Some slot) = row_of slot

pub row_found : (slots : List Slot) (index : ℕ) → row_in (map row_of slots) index ≡ row_from (slice_get slots index)
row_found [] index = refl
row_found (s ∷ ss) zero = refl
row_found (s ∷ ss) (suc index) = row_found ss index

-- ---- which slots have rows

pub within_slot : (slots : List Slot) (slot : ℕ) (e : Key × StoredRow) → row_in (map row_of slots) slot ≡ Some e → slot < length slots
within_slot [] slot e is = absurd (none-some e is)
within_slot (s ∷ ss) zero e is = omega arith
within_slot (s ∷ ss) (suc n) e is = let less = within_slot ss n e is in omega (arith, less)

-- there is none in a new one
pub new_row : (slots : List Slot) → row_in (map row_of slots) (length slots) ≡ None
new_row [] = refl
new_row (s ∷ ss) = new_row ss

link_slot : (slots : List Slot) (slot link : ℕ) → Some link ≡ link_in slots slot → slice_get slots slot ≡ Some (Vacant link)
link_slot slots slot link is = by (slice_get slots slot) refl
  where
    by : (o : Option Slot) → slice_get slots slot ≡ o → slice_get slots slot ≡ Some (Vacant link)
    by None none = absurd (none-some link (sym (is ∙ ap link_from none)))
    by (Some (Taken e)) taken = absurd (none-some link (sym (is ∙ ap link_from taken)))
    by (Some (Vacant l)) there = there ∙ ap (λ (n : ℕ). Some (Vacant n)) (same_Some l link (sym (is ∙ ap link_from there)))

pub link_within : (slots : List Slot) (slot link : ℕ) → Some link ≡ link_in slots slot → slot < length slots
link_within slots slot link is = slice_get_within slots slot (Vacant link) (link_slot slots slot link is)

-- nor in a vacant one
pub vacated_row : (slots : List Slot) (slot : ℕ) → is_some (link_in slots slot) ≡ true → row_in (map row_of slots) slot ≡ None
vacated_row slots slot some = row_found slots slot ∙ by (slice_get slots slot) refl
  where
    by : (o : Option Slot) → slice_get slots slot ≡ o → row_from (slice_get slots slot) ≡ None
    by None none = ap row_from none
    by (Some (Vacant link)) there = ap row_from there
    by (Some (Taken e)) taken = absurd (true≢false (sym some ∙ ap (λ (o : Option Slot). is_some (link_from o)) taken))

-- a taken one has its row
pub taken_row : (slots : List Slot) (slot : ℕ) (e : Key × StoredRow) → row_in (map row_of slots) slot ≡ Some e → (s : Slot) → slice_get slots slot ≡ Some s → s ≡ Taken e
taken_row slots slot e is (Vacant link) there = absurd (none-some e (sym (row_found slots slot ∙ ap row_from there) ∙ is))
taken_row slots slot e is (Taken f) there = ap Taken (same_Some f e (sym (row_found slots slot ∙ ap row_from there) ∙ is))

pub same_taken : (e f : Key × StoredRow) → Taken e ≡ Taken f → e ≡ f
same_taken e f same = same_Some e f (ap row_of same)

pub not_vacant : (link : ℕ) (e : Key × StoredRow) → Vacant link ≡ Taken e → ⊥
not_vacant link e same = none-some e (ap row_of same)

-- whether a row was lent
pub none_lent : (o : Option (Bor (Key × StoredRow))) (q : Option (Key × StoredRow)) → is_some o ≡ false → option_copied o ≡ q → q ≡ None
none_lent None q none same = sym same
none_lent (Some e) q none same = absurd (true≢false none)

pub some_lent : (o : Option (Bor (Key × StoredRow))) (q : Option (Key × StoredRow)) → is_some o ≡ true → option_copied o ≡ q → (e : Key × StoredRow) × (q ≡ Some e)
some_lent None q some same = absurd (true≢false (sym some))
some_lent (Some e) q some same = (e.now, sym same)

-- ---- the slot of the next row

pub made_room : (linked room : Bool) (n : ℕ) → room ≡ true → n < 2 ^ 32 → (linked || (room && nat_lt n (2 ^ 32))) ≡ true
made_room true room n has less = refl
made_room false room n has less = ap (λ (b : Bool). b && nat_lt n (2 ^ 32)) has ∙ lt-ltb n (2 ^ 32) less

pub has_link : (linked other : Bool) → linked ≡ true → (linked || other) ≡ true
has_link true other is = refl
has_link false other is = absurd (true≢false (sym is))

-- without a vacant slot, there is room for a new one
pub room_for_new : (linked room : Bool) (n : ℕ) → linked ≡ false → (linked || (room && nat_lt n (2 ^ 32))) ≡ true → (room ≡ true) × (n < 2 ^ 32)
room_for_new true room n none has = absurd (true≢false none)
room_for_new false false n none has = absurd (true≢false (sym has))
room_for_new false true n none has = (refl, ltb-true n (2 ^ 32) has)

-- ---- a slot changes

-- a slot is set
set_slot : (slots : List Slot) (index : ℕ) (slot : Slot) → index < length slots → UpdatesSlot (map row_of slots) (map row_of (set slots index slot)) index (row_of slot)
set_slot slots index slot within = record { changed = changed slots index within; others = others slots index }
  where
    changed : (ss : List Slot) (i : ℕ) → i < length ss → row_in (map row_of (set ss i slot)) i ≡ row_of slot
    changed [] i within = absurd (omega (arith, within))
    changed (s ∷ ss) zero within = refl
    changed (s ∷ ss) (suc i) within = changed ss i (omega (arith, within))

    others : (ss : List Slot) (i other : ℕ) → other ≢ i → row_in (map row_of (set ss i slot)) other ≡ row_in (map row_of ss) other
    others [] i other apart = refl
    others (s ∷ ss) zero zero apart = absurd (apart refl)
    others (s ∷ ss) zero (suc other) apart = refl
    others (s ∷ ss) (suc i) zero apart = refl
    others (s ∷ ss) (suc i) (suc other) apart = others ss i other (λ same. apart (ap suc same))

-- a slot is added at the end
push_slot : (slots : List Slot) (slot : Slot) → UpdatesSlot (map row_of slots) (map row_of (slots ++ slot ∷ [])) (length slots) (row_of slot)
push_slot slots slot = record { changed = changed slots; others = others slots }
  where
    changed : (ss : List Slot) → row_in (map row_of (ss ++ slot ∷ [])) (length ss) ≡ row_of slot
    changed [] = refl
    changed (s ∷ ss) = changed ss

    others : (ss : List Slot) (other : ℕ) → other ≢ length ss → row_in (map row_of (ss ++ slot ∷ [])) other ≡ row_in (map row_of ss) other
    others [] zero apart = absurd (apart refl)
    others [] (suc other) apart = refl
    others (s ∷ ss) zero apart = refl
    others (s ∷ ss) (suc other) apart = others ss other (λ same. apart (ap suc same))

-- a row is put into the slot that was vacated last
pub put_vacated : (slots after : List Slot) (vacated link : ℕ) (e : Key × StoredRow) → Some link ≡ link_in slots vacated → after ≡ set slots vacated (Taken e) → UpdatesSlot (map row_of slots) (map row_of after) (vacant_in slots vacated) (Some e)
put_vacated slots after vacated link e is put =
    let here : vacant_in slots vacated ≡ vacated = cond-true (is_some (link_in slots vacated)) vacated (length slots) (sym (ap (λ (o : Option ℕ). is_some o) is)) in
    subst (λ (n : ℕ). UpdatesSlot (map row_of slots) (map row_of after) n (Some e)) (sym here)
    (subst (λ (l : List Slot). UpdatesSlot (map row_of slots) (map row_of l) vacated (Some e)) (sym put) (set_slot slots vacated (Taken e) (link_within slots vacated link is)))

-- or into a new one
pub put_new_slot : (slots after : List Slot) (vacated : ℕ) (e : Key × StoredRow) → None ≡ link_in slots vacated → after ≡ slots ++ Taken e ∷ [] → UpdatesSlot (map row_of slots) (map row_of after) (vacant_in slots vacated) (Some e)
put_new_slot slots after vacated e is put =
    let here : vacant_in slots vacated ≡ length slots = cond-false (is_some (link_in slots vacated)) vacated (length slots) (sym (ap (λ (o : Option ℕ). is_some o) is)) in
    subst (λ (n : ℕ). UpdatesSlot (map row_of slots) (map row_of after) n (Some e)) (sym here)
    (subst (λ (l : List Slot). UpdatesSlot (map row_of slots) (map row_of l) (length slots) (Some e)) (sym put) (push_slot slots (Taken e)))

-- a slot that has a row gets another one, or none
pub put_in_slot : (slots after : List Slot) (slot : ℕ) (e : Key × StoredRow) (s : Slot) → row_in (map row_of slots) slot ≡ Some e → after ≡ set slots slot s → UpdatesSlot (map row_of slots) (map row_of after) slot (row_of s)
put_in_slot slots after slot e s there put = subst (λ (l : List Slot). UpdatesSlot (map row_of slots) (map row_of l) slot (row_of s)) (sym put) (set_slot slots slot s (within_slot slots slot e there))

-- a slot without a row stays as it is
pub nothing_taken : (slots : List (Option (Key × StoredRow))) (slot : ℕ) → row_in slots slot ≡ None → UpdatesSlot slots slots slot None
nothing_taken slots slot none = record { changed = none; others = λ other apart. refl }
