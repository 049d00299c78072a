-- Messages that make their steps serve their requests one after another, so their reads need slots.
use Rattle.std.proofs.Common.{◌≡◌, ℕ, zero, suc, ◌-◌, ◌<◌, ◌≤◌, Bool, true, false, ◌&&◌, List, [], ◌∷◌, ◌++◌, length, Option, Some, None, refl, sym, ap, ◌∙◌, subst, arith}
use Rattle.std.specs.Prelude.{slice_index_or}
use Rattle.std.proofs.lemmas.Bool.Decides.{nat_tests}
use Rattle.table_types.specs.SlotIds.{is_slot}
use Rattle.table_types.specs.Names.{is_name}
use Rattle.table_types.specs.Rosters.{is_same_name}
use Rattle.table_types.specs.Updates.{stores_name}
use Rattle.table_types.specs.declared.update.Update.{Update}
use Rattle.table_types.specs.Tables.{Definition}
use Rattle.peers_msg.specs.declared.name_field.NameField.{NameField}
use Rattle.peers_msg.specs.declared.name_field.NameField.TheVariants as names
use Rattle.peers_msg.specs.declared.message.Message.{Message}
use Rattle.peers_msg.specs.declared.message.Message.TheVariants as messages
use Rattle.peers_msg.specs.Fitting.{name_fits}
use Rattle.known_state.specs.State.{State, Step, Teaches, Named, resolved}
use Rattle.known_state.specs.Cost.{Knowledge}
use Rattle.known_state.specs.Requests.{Asked, asked, requests_of, mark_of, reads_of}
use Rattle.known_state.proofs.CostsAddUp.{knowledge_after_all}
use Rattle.known_state.specs.Plans.{AreLinked, at_start, kept_over, links, name_held, names_in}
use Rattle.known_state.proofs.RefusedIsNoStep.{selection}
use Rattle.known_state.proofs.RosterNamesDiffer.{name_itself}
use Rattle.known_state.proofs.ReadsPay.{requests-append}
use Rattle.known_state.proofs.StepPays.{name_fitting}
use Rattle.known_state.proofs.SlotsNeeded.{AreMet, is_among, or_first, or_second, length-slots, linked_from_start, room_from_start}

and-left : (a b : Bool) → (a && b) ≡ true → a ≡ true
and-left true b h = refl
and-left false b h = h

and-right : (a b : Bool) → (a && b) ≡ true → b ≡ true
and-right true b h = h
and-right false b h = cc

-- a written name fits a slot
pub slot_written : (d : Definition) (slot : ℕ) (name : List ℕ) → name_fits d (names.Written slot name) ≡ true → is_slot slot ≡ true
slot_written d slot name fit = and-right (stores_name d) (is_slot slot) (and-left (stores_name d && is_slot slot) (is_name name) fit)

below : (slot n : ℕ) → is_slot slot ≡ true → n ≡ 128 → slot - 1 < n
below slot n is many = grind (arith, nat_tests)

-- a name found at a place is in the slots
pub found_among : (slots : List (Option (List ℕ))) (place : ℕ) (name : List ℕ) → slice_index_or slots place None ≡ Some name → is_among name (names_in slots) ≡ true
found_among [] place name at = cc
found_among (s ∷ slots) zero name at = rw at (or_first (is_same_name name name) (is_among name (names_in slots)) (name_itself name))
found_among (s ∷ slots) (suc place) name at = by s (found_among slots place name at)
  where
    by : (s : Option (List ℕ)) → is_among name (names_in slots) ≡ true → is_among name (name_held s ++ names_in slots) ≡ true
    by None later = later
    by (Some other) later = or_second (is_same_name name other) (is_among name (names_in slots)) later

-- ---- steps

-- the number of slots doesn't change
pub slots_stay : (s mid : State) (m : Message) (one : List Update) → Step s m one mid → length mid.slots ≡ length s.slots
slots_stay s mid (messages.Update m) one (fit, table, on, number, numbered, name, named, carried, received, last_numbers) = by m.name named
  where
    by : (field : NameField) → Named s.slots field name mid.slots → length mid.slots ≡ length s.slots
    by names.NotStored (none, stay) = ap length stay
    by names.NoName (none, stay) = ap length stay
    by (names.Written slot bytes) (is, put) = ap length put ∙ length-slots s.slots (slot - 1) (Some bytes)
    by (names.Held slot) (bytes, held, is, stay) = ap length stay
slots_stay s mid (messages.Define d) one (fit, none, is) = ap (λ (x : State). length x.slots) is
slots_stay s mid (messages.Switch id) one (fit, none, is) = ap (λ (x : State). length x.slots) is
slots_stay s mid (messages.Control c) one (fit, none, is) = ap (λ (x : State). length x.slots) is
slots_stay s mid (messages.Error e) one (fit, none, is) = ap (λ (x : State). length x.slots) is
slots_stay s mid (messages.Ack table number) one (fit, none, is) = ap (λ (x : State). length x.slots) is
slots_stay s mid (messages.Other o) one (fit, none, is) = ap (λ (x : State). length x.slots) is

pub slots_stay_all : (s e : State) (ms : List Message) (us : List Update) → Teaches s ms us e → length e.slots ≡ length s.slots
slots_stay_all s e [] us (none, same) = ap (λ (x : State). length x.slots) same
slots_stay_all s e (m ∷ ms) us (one, rest, mid, is, step, later) = slots_stay_all mid e ms rest later ∙ slots_stay s mid m one step

-- a message that carries nothing requests nothing, and leaves the slots unchanged
nothing_met : (roster : List Definition) (k : Knowledge) (slots after : List (Option (List ℕ))) (one : List Update) (rs : List Asked) (marks : List Bool) → one ≡ [] → after ≡ slots → AreMet after rs marks → AreMet slots (requests_of roster k one ++ rs) marks
nothing_met roster k slots after one rs marks none same met =
    subst (λ (l : List Update). AreMet slots (requests_of roster k l ++ rs) marks) (sym none)
    (subst (λ (x : List (Option (List ℕ))). AreMet x rs marks) same met)

-- the request of a name field is served
field_met : (roster : List Definition) (k : Knowledge) (u : Update) (d : Definition) (slots after : List (Option (List ℕ))) (field : NameField) (name : Option (List ℕ)) (rs : List Asked) (marks : List Bool) → length slots ≡ 128 → name_fits d field ≡ true → Named slots field name after → AreMet after rs marks → AreMet slots ((asked roster k u name ++ []) ++ rs) (mark_of field ++ marks)
field_met roster k u d slots after names.NotStored name rs marks many fit (none, stay) met = rw (none, ← stay) met
field_met roster k u d slots after names.NoName name rs marks many fit (none, stay) met = rw (none, ← stay) met
field_met roster k u d slots after (names.Written slot bytes) name rs marks many fit (is, put) met =
    rw is (slot - 1, below slot (length slots) (slot_written d slot bytes fit) many, subst (λ (x : List (Option (List ℕ))). AreMet x rs marks) put met)
field_met roster k u d slots after (names.Held slot) name rs marks many fit (bytes, held, is, stay) met =
    rw is (found_among slots (slot - 1) bytes held, subst (λ (x : List (Option (List ℕ))). AreMet x rs marks) stay met)

-- so are those of a message
message_met : (roster : List Definition) (k : Knowledge) (s mid : State) (m : Message) (one : List Update) (rs : List Asked) (ms : List Message) → length s.slots ≡ 128 → Step s m one mid → AreMet mid.slots rs (reads_of ms) → AreMet s.slots (requests_of roster k one ++ rs) (reads_of (m ∷ ms))
message_met roster k s mid (messages.Update m) one rs ms many (fit, table, on, number, numbered, name, named, carried, received, last_numbers) met =
    let sel = selection s.received m fit in
    subst (λ (l : List Update). AreMet s.slots (requests_of roster k l ++ rs) (mark_of m.name ++ reads_of ms)) (sym carried)
    (field_met roster k (resolved m table number name) sel.0 s.slots mid.slots m.name name rs (reads_of ms) many (name_fitting s.received m sel.0 fit sel.1) named met)
message_met roster k s mid (messages.Define d) one rs ms many (fit, none, is) met = nothing_met roster k s.slots mid.slots one rs (reads_of ms) none (ap (λ (x : State). x.slots) is) met
message_met roster k s mid (messages.Switch id) one rs ms many (fit, none, is) met = nothing_met roster k s.slots mid.slots one rs (reads_of ms) none (ap (λ (x : State). x.slots) is) met
message_met roster k s mid (messages.Control c) one rs ms many (fit, none, is) met = nothing_met roster k s.slots mid.slots one rs (reads_of ms) none (ap (λ (x : State). x.slots) is) met
message_met roster k s mid (messages.Error e) one rs ms many (fit, none, is) met = nothing_met roster k s.slots mid.slots one rs (reads_of ms) none (ap (λ (x : State). x.slots) is) met
message_met roster k s mid (messages.Ack table number) one rs ms many (fit, none, is) met = nothing_met roster k s.slots mid.slots one rs (reads_of ms) none (ap (λ (x : State). x.slots) is) met
message_met roster k s mid (messages.Other o) one rs ms many (fit, none, is) met = nothing_met roster k s.slots mid.slots one rs (reads_of ms) none (ap (λ (x : State). x.slots) is) met

-- and so are those of a list of messages
pub messages_met : (roster : List Definition) (k : Knowledge) (s e : State) (ms : List Message) (us : List Update) → length s.slots ≡ 128 → Teaches s ms us e → AreMet s.slots (requests_of roster k us) (reads_of ms)
messages_met roster k s e [] us many (none, same) = subst (λ (l : List Update). AreMet s.slots (requests_of roster k l) []) (sym none) tt
messages_met roster k s e (m ∷ ms) us many (one, rest, mid, is, step, later) =
    let others = messages_met roster (knowledge_after_all k one) mid e ms rest (slots_stay s mid m one step ∙ many) later in
    let here = message_met roster k s mid m one (requests_of roster (knowledge_after_all k one) rest) ms many step others in
    let joined : requests_of roster k one ++ requests_of roster (knowledge_after_all k one) rest ≡ requests_of roster k us = sym (requests-append roster k one rest) ∙ ap (requests_of roster k) (sym is) in
    subst (λ (rs : List Asked). AreMet s.slots rs (reads_of (m ∷ ms))) joined here

-- each read has a link
pub reads_linked : (roster : List Definition) (k : Knowledge) (s e : State) (ms : List Message) (us : List Update) → length s.slots ≡ 128 → Teaches s ms us e → AreLinked (at_start (names_in s.slots)) (requests_of roster k us) (reads_of ms)
reads_linked roster k s e ms us many taught = linked_from_start s.slots (requests_of roster k us) (reads_of ms) (messages_met roster k s e ms us many taught)

-- and no place is inside more than 127 of the links that are read
pub reads_room : (roster : List Definition) (k : Knowledge) (s e : State) (ms : List Message) (us : List Update) (place : ℕ) → length s.slots ≡ 128 → Teaches s ms us e → kept_over (links (names_in s.slots) (requests_of roster k us) (reads_of ms)) place ≤ 127
reads_room roster k s e ms us place many taught = room_from_start 127 place s.slots (requests_of roster k us) (reads_of ms) (omega arith) (messages_met roster k s e ms us many taught)
