-- What slots retain, in terms of the marks of the requests.
use Rattle.std.proofs.Common.{◌≡◌, ◌≢◌, cond, ℕ, zero, suc, ◌+◌, ◌-◌, ◌<◌, ◌≤◌, Bool, true, false, List, [], ◌∷◌, ◌++◌, length, Option, Some, None, refl, sym, ap, ◌∙◌, subst, arith, get_or}
use Rattle.std.specs.Prelude.{slice_set, is_some}
use Rattle.std.specs.Cmp.Lexicographic.{same_text}
use Rattle.std.proofs.lemmas.Bool.Decides.{nat_tests}
use Rattle.std.proofs.lemmas.List.{get_or-set_other, length-set}
use Rattle.table_types.specs.declared.update.Update.{Update}
use Rattle.table_types.specs.Tables.{Definition}
use Rattle.table_types.specs.Rosters.{is_same_name, table_at}
use Rattle.table_types.specs.SlotIds.{is_slot}
use Rattle.peers_msg.specs.declared.name_field.NameField.{NameField}
use Rattle.peers_msg.specs.declared.name_field.NameField.TheVariants as names
use Rattle.peers_msg.specs.declared.message.Message.{Message}
use Rattle.peers_msg.specs.declared.message.Message.TheVariants as messages
use Rattle.peers_msg.specs.Received.{selected_table}
use Rattle.known_state.specs.State.{State, Teaches, Named}
use Rattle.known_state.specs.Requests.{mark_of, reads_of}
use Rattle.known_state.proofs.RosterNamesDiffer.{name_itself}
use Rattle.teach_writer.specs.Naming.{is_that_name, lowest_from, starts_after, marks_after, keeps_next_update, IsRetainedOver, IsNamed}
use Rattle.teach_writer.specs.Retained.{retained_at, Retains}
use Rattle.teach_writer.specs.Sending.{is_table, selection, slot_of, is_stored, update_sent, IsSent, AreSent}

-- ---- slots and names

pub places_apart : (a b : ℕ) → is_slot a ≡ true → is_slot b ≡ true → (a ≡ b → ⊥) → a - 1 ≢ b - 1
places_apart a b is_a is_b apart = λ same. apart (both (least a is_a) (least b is_b) same)
  where
    least : (n : ℕ) → is_slot n ≡ true → 1 ≤ n
    least n is = grind (arith, nat_tests)

    both : 1 ≤ a → 1 ≤ b → a - 1 ≡ b - 1 → a ≡ b
    both la lb same = omega arith

pub in_range : (slots : List (Option (List ℕ))) (slot : ℕ) → length slots ≡ 128 → is_slot slot ≡ true → slot - 1 < length slots
in_range slots slot long is = rw long (grind (arith, nat_tests))

pub one_name : (a b : List ℕ) → is_same_name a b ≡ true → a ≡ b
one_name a b same = same_text a b (sym same)

other_start : {A : Type 0} → (one other : Option ℕ) (a b : ℕ) → one ≡ Some a → other ≡ Some b → (b ≡ a → ⊥) → one ≡ other → A
other_start one other a b is_a is_b apart same = let both : Some b ≡ Some a = sym is_b ∙ sym same ∙ is_a in let ids : b ≡ a = cc in absurd (apart ids)

-- names with different starts differ
pub start_apart : (starts : List ℕ → Option ℕ) (name n : List ℕ) (a b : ℕ) → starts name ≡ Some a → starts n ≡ Some b → (b ≡ a → ⊥) → is_same_name name n ≡ false
start_apart starts name n a b is_a is_b apart = at (is_same_name name n) refl
  where
    at : (t : Bool) → is_same_name name n ≡ t → is_same_name name n ≡ false
    at false e = e
    at true e = other_start (starts name) (starts n) a b is_a is_b apart (ap starts (one_name name n e))

-- ---- what is retained after one update

pub retains_same : (u : Update) (us : List Update) (mark : Bool) (marks : List Bool) (name n : List ℕ) → u.name ≡ Some name → is_same_name name n ≡ true → keeps_next_update n (u ∷ us) (mark ∷ marks) ≡ mark
retains_same u us mark marks name n is same = rw (is, same) refl

pub retains_other : (u : Update) (us : List Update) (mark : Bool) (marks : List Bool) (name n : List ℕ) → u.name ≡ Some name → is_same_name name n ≡ false → keeps_next_update n (u ∷ us) (mark ∷ marks) ≡ keeps_next_update n us marks
retains_other u us mark marks name n is other = rw (is, other) refl

pub retains_none : (u : Update) (us : List Update) (marks : List Bool) (n : List ℕ) → u.name ≡ None → keeps_next_update n (u ∷ us) marks ≡ keeps_next_update n us marks
retains_none u us marks n none = rw none refl

pub start_same : (starts : List ℕ → Option ℕ) (name n : List ℕ) (slot : ℕ) → is_same_name name n ≡ true → starts_after starts (Some name) (Some slot) n ≡ Some slot
start_same starts name n slot same = rw same refl

pub start_other : (starts : List ℕ → Option ℕ) (name n : List ℕ) (slot : ℕ) → is_same_name name n ≡ false → starts_after starts (Some name) (Some slot) n ≡ starts n
start_other starts name n slot other = rw other refl

-- ---- flags and marks

-- a slot retains its name if and only if a retained link passes over this place in it
abbrev pub AreMarked : List Bool → (List ℕ → Option ℕ) → List (Option (List ℕ)) → List Update → List Bool → Type 0
AreMarked retained starts slots us marks =
    ((slot : ℕ) → is_slot slot ≡ true → retained_at retained slot ≡ true → IsRetainedOver starts us marks slot)
    × ((name : List ℕ) (slot : ℕ) → is_slot slot ≡ true → starts name ≡ Some slot → keeps_next_update name us marks ≡ true → Retains retained slots slot name)

-- a slot other than the update's retains its name after the update if it did before
pub flag_stays : (retained next : List Bool) (retains : Bool) (slot other : ℕ) → next ≡ slice_set retained (slot - 1) retains → is_slot slot ≡ true → is_slot other ≡ true → (other ≡ slot → ⊥) → retained_at next other ≡ retained_at retained other
flag_stays retained next retains slot other set is is_other apart = ap (λ (ks : List Bool). retained_at ks other) set ∙ get_or-set_other retained (slot - 1) (other - 1) retains false (places_apart other slot is_other is apart)

-- ---- one update

-- selecting a table leaves the slots unchanged
pub selection_slots : (s mid : State) (d : Definition) → Teaches s (selection s.received d) [] mid → mid.slots ≡ s.slots
selection_slots s mid d taught = by (is_table (selected_table s.received) d.id) (is_some (table_at s.received.tables d.id)) taught
  where
    by : (a b : Bool) → Teaches s (cond a [] (cond b (messages.Switch d.id ∷ []) (messages.Define d ∷ []))) [] mid → mid.slots ≡ s.slots
    by true b (none, same) = ap (λ (x : State). x.slots) same
    by false true (one, rest, after, is, (fit, none, moved), (nothing, same)) = ap (λ (x : State). x.slots) (same ∙ moved)
    by false false (one, rest, after, is, (fit, none, moved), (nothing, same)) = ap (λ (x : State). x.slots) (same ∙ moved)

-- the slots after an update that is sent
pub sent_slots : (roster : List Definition) (s e : State) (u : Update) (field : NameField) (ms : List Message) → IsSent roster s u field ms e → (name : Option (List ℕ)) × Named s.slots field name e.slots
sent_slots roster s e u field ms (d, mid, listed, chosen, (fit, table, on, number, numbered, name, named, carried, received, last_numbers), is) =
    (name, subst (λ (ss : List (Option (List ℕ))). Named ss field name e.slots) (selection_slots s mid d chosen) named)

pub slots_long : (slots after : List (Option (List ℕ))) (field : NameField) (name : Option (List ℕ)) → length slots ≡ 128 → Named slots field name after → length after ≡ 128
slots_long slots after names.NotStored name long (none, stay) = rw stay long
slots_long slots after names.NoName name long (none, stay) = rw stay long
slots_long slots after (names.Written slot bytes) name long (is, put) = rw (put, length-set slots (slot - 1) (Some bytes)) long
slots_long slots after (names.Held slot) name long (bytes, held, is, stay) = rw stay long

-- ---- at the start

-- the lowest slot that holds a name
pub lowest_found : (slots : List (Option (List ℕ))) (from i : ℕ) (name : List ℕ) → i < length slots → get_or slots i None ≡ Some name → ((j : ℕ) → j < i → get_or slots j None ≡ Some name → ⊥) → lowest_from from slots name ≡ Some (from + i)
lowest_found [] from i name lt held none = absurd (omega arith)
lowest_found (x ∷ xs) from zero name lt held none = rw (held, name_itself name) (ap (λ (n : ℕ). Some n) (omega arith))
lowest_found (x ∷ xs) from (suc i) name lt held none =
    let later = lowest_found xs (from + 1) i name (omega arith) held (λ j lt. none (suc j) (omega arith)) in
    rw (passed x (none zero (omega arith))) (later ∙ ap (λ (n : ℕ). Some n) (omega arith))
  where
    passed : (o : Option (List ℕ)) → (o ≡ Some name → ⊥) → is_that_name name o ≡ false
    passed None other = refl
    passed (Some held) other = at (is_same_name held name) refl
      where
        at : (b : Bool) → is_same_name held name ≡ b → is_same_name held name ≡ false
        at false e = e
        at true e = absurd (other (ap (λ (n : List ℕ). Some n) (one_name held name e)))

-- ---- marks and reads

mark_first : (starts : List ℕ → Option ℕ) (us : List Update) (marks : List Bool) (stored : Bool) (asked : Option (List ℕ)) (field : NameField) → IsNamed starts us marks stored asked field → mark_of field ++ marks_after asked marks ≡ marks
mark_first starts us marks true None field named = rw named refl
mark_first starts us marks false None field named = rw named refl
mark_first starts us [] stored (Some name) names.NotStored named = absurd named
mark_first starts us [] stored (Some name) names.NoName named = absurd named
mark_first starts us [] stored (Some name) (names.Held slot) named = absurd named
mark_first starts us [] stored (Some name) (names.Written slot written) named = absurd named
mark_first starts us (true ∷ marks) stored (Some name) names.NotStored named = absurd named
mark_first starts us (true ∷ marks) stored (Some name) names.NoName named = absurd named
mark_first starts us (true ∷ marks) stored (Some name) (names.Held slot) named = refl
mark_first starts us (true ∷ marks) stored (Some name) (names.Written slot written) named = absurd named
mark_first starts us (false ∷ marks) stored (Some name) names.NotStored named = absurd named
mark_first starts us (false ∷ marks) stored (Some name) names.NoName named = absurd named
mark_first starts us (false ∷ marks) stored (Some name) (names.Held slot) named = absurd named
mark_first starts us (false ∷ marks) stored (Some name) (names.Written slot written) named = refl

sent_reads : (roster : List Definition) (s e : State) (u : Update) (field : NameField) (ms rest : List Message) → IsSent roster s u field ms e → reads_of (ms ++ rest) ≡ mark_of field ++ reads_of rest
sent_reads roster s e u field ms rest (d, mid, listed, chosen, step, is) =
    ap (λ (l : List Message). reads_of (l ++ rest)) is ∙ by (is_table (selected_table s.received) d.id) (is_some (table_at s.received.tables d.id))
  where
    by : (a b : Bool) → reads_of ((cond a [] (cond b (messages.Switch d.id ∷ []) (messages.Define d ∷ [])) ++ update_sent mid field u ∷ []) ++ rest) ≡ mark_of field ++ reads_of rest
    by true b = refl
    by false true = refl
    by false false = refl

-- the requests that are read are those that are marked
pub marks_read : (roster : List Definition) (s e : State) (starts : List ℕ → Option ℕ) (us : List Update) (marks : List Bool) (ms : List Message) → AreSent roster s starts us marks ms e → reads_of ms ≡ marks
marks_read roster s e starts [] marks ms (none, empty, same) = rw (none, empty) refl
marks_read roster s e starts (u ∷ us) marks ms (field, first, mid, rest, sent, named, more, is) =
    let later = marks_read roster mid e (starts_after starts u.name (slot_of field)) us (marks_after u.name marks) rest more in
    ap reads_of is ∙ sent_reads roster s mid u field first rest sent ∙ ap (λ (l : List Bool). mark_of field ++ l) later ∙ mark_first starts (u ∷ us) marks (is_stored roster u) u.name field named
