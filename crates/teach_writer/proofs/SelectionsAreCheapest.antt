-- A table is selected in the cheapest way, and selecting it loses nothing that is known.
use Rattle.std.proofs.Common.{◌≡◌, ℕ, ◌==◌, ◌≤◌, Bool, true, false, ◌||◌, cond, eqb, List, [], ◌∷◌, Option, Some, None, refl, sym, ap, ◌∙◌, subst, inl, inr, ◌⊎◌, arith}
use Rattle.std.specs.Prelude.{is_some, option_map, filter}
use Rattle.std.proofs.lemmas.Bool.{cases_eq, ne_eqb}
use Rattle.std.proofs.lemmas.List.Sums.{sum_by-cons}
use Rattle.table_types.specs.declared.update.Update.{Update}
use Rattle.table_types.specs.Tables.{Definition}
use Rattle.table_types.specs.Rosters.{table_at, is_same_name, repeats_name, roster_fault}
use Rattle.peers_msg.specs.declared.message.Message.{Message}
use Rattle.peers_msg.specs.declared.message.Message.TheVariants as messages
use Rattle.peers_msg.specs.Received.{Received, received_after, defined, selected_table}
use Rattle.peers_msg.specs.Spelling.{size_of, size_of_all}
use Rattle.known_state.specs.State.{State, Step}
use Rattle.known_state.specs.LastNumbers.{keeps_last, last_of}
use Rattle.known_state.specs.Known.{KnownState, AreOwn}
use Rattle.known_state.specs.Cost.{knowledge_of, is_selected, selection_cost}
use Rattle.known_state.proofs.LesserKnowledge.{KnowsLess, with_selected}
use Rattle.known_state.proofs.ReceivedIsOwn.{table_at-id, table_at-passes, define_selects}
use Rattle.known_state.proofs.RosterNamesDiffer.{roster_names, still_received, two_names}
use Rattle.known_state.proofs.FitsOrIsRefused.{selected-found}
use Rattle.known_state.proofs.KnowingMoreCostsLess.{last-kept}
use Rattle.teach_writer.specs.Sending.{is_table, selection}
use Rattle.teach_writer.proofs.UpdateStepsAreLegal.{found_is_own}

-- the selection of a table is the cheapest one
pub selection_size : (roster : List Definition) (s : State) (d : Definition) → table_at roster d.id ≡ Some d → size_of_all (selection s.received d) ≤ selection_cost roster (knowledge_of s) d.id
selection_size roster s d listed = at (selected_table s.received) refl (is_some (table_at s.received.tables d.id)) refl
  where
    one : (m : Message) → size_of_all (m ∷ []) ≤ size_of m
    one m = omega (arith, sum_by-cons size_of m [])

    chosen : (a b : Bool) → size_of_all (cond a [] (cond b (messages.Switch d.id ∷ []) (messages.Define d ∷ []))) ≤ cond a 0 (cond b (size_of (messages.Switch d.id)) (size_of (messages.Define d)))
    chosen true b = omega arith
    chosen false true = one (messages.Switch d.id)
    chosen false false = one (messages.Define d)

    alike : (o : Option Definition) → is_table o d.id ≡ is_selected (option_map (λ t. t.id) o) d.id
    alike None = refl
    alike (Some t) = refl

    at : (o : Option Definition) → selected_table s.received ≡ o → (b : Bool) → is_some (table_at s.received.tables d.id) ≡ b → size_of_all (selection s.received d) ≤ selection_cost roster (knowledge_of s) d.id
    at o e b f =
        let same : is_table (selected_table s.received) d.id ≡ is_selected (option_map (λ (t : Definition). t.id) (selected_table s.received)) d.id = alike (selected_table s.received) in
        let least = chosen (is_selected (option_map (λ (t : Definition). t.id) (selected_table s.received)) d.id) (is_some (table_at s.received.tables d.id)) in
        rw (same, listed) least

or-cases : (a b c : Bool) → (a ≡ true → c ≡ true) → (b ≡ true → c ≡ true) → (a || b) ≡ true → c ≡ true
or-cases true b c first second h = first refl
or-cases false b c first second h = second h

-- a table that is selected is received
pub selected_received : (h : Received) (d : Definition) → selected_table h ≡ Some d → table_at h.tables d.id ≡ Some d
selected_received h d sel =
    let found = selected-found h d sel in
    subst (λ (n : ℕ). table_at h.tables n ≡ Some d) (sym (table_at-id h.tables found.0 d found.1)) found.1

received_by_id : (ds : List Definition) (d : Definition) (id : ℕ) → table_at ds d.id ≡ Some d → eqb id d.id ≡ true → is_some (table_at ds id) ≡ true
received_by_id ds d id found same = elim (cases_eq id d.id) [
  | inl is ↦ subst (λ (n : ℕ). is_some (table_at ds n) ≡ true) (sym is) (rw found refl)
  | inr other ↦ let bad : false ≡ true = sym (ne_eqb id d.id other) ∙ same in cc
]

-- nothing is lost if the table is selected already
pub knows_retained : (s : State) (d : Definition) → selected_table s.received ≡ Some d → KnowsLess (with_selected (knowledge_of s) d.id) (knowledge_of s)
knows_retained s d sel = record {
  defined = λ id h. or-cases (eqb id d.id) (is_some (table_at s.received.tables id)) (is_some (table_at s.received.tables id)) (received_by_id s.received.tables d id (selected_received s.received d sel)) (λ is. is) h;
  selected = sym (ap (option_map (λ (t : Definition). t.id)) sel);
  last = λ id. inl refl;
}

-- nor by a switch
pub knows_switched : (s : State) (d : Definition) → table_at s.received.tables d.id ≡ Some d → KnowsLess (with_selected (knowledge_of s) d.id) (knowledge_of (record { received = received_after s.received (messages.Switch d.id); last_numbers = s.last_numbers; slots = s.slots }))
knows_switched s d found = record {
  defined = λ id h. or-cases (eqb id d.id) (is_some (table_at s.received.tables id)) (is_some (table_at s.received.tables id)) (received_by_id s.received.tables d id found) (λ is. is) h;
  selected = sym (ap (option_map (λ (t : Definition). t.id)) found);
  last = λ id. inl refl;
}

-- nor by the definition of a table that isn't received
pub knows_defined : (roster : List Definition) (s : State) (d : Definition) → repeats_name roster ≡ false → table_at roster d.id ≡ Some d → AreOwn roster s.received.tables → is_some (table_at s.received.tables d.id) ≡ false
    → KnowsLess (with_selected (knowledge_of s) d.id) (knowledge_of (record { received = received_after s.received (messages.Define d); last_numbers = filter (λ l. keeps_last d (table_at s.received.tables l.0) l.0) s.last_numbers; slots = s.slots }))
knows_defined roster s d distinct listed own new = record {
  defined = λ id h. received_then id h;
  selected = sym (ap (option_map (λ (t : Definition). t.id)) (define_selects s.received d));
  last = λ id. retained_or_none id (table_at s.received.tables id) refl;
}
  where
    ts : List Definition
    ts = s.received.tables

    retains : ℕ → Bool
    retains id = keeps_last d (table_at s.received.tables id) id

    apart : (id : ℕ) → is_some (table_at s.received.tables id) ≡ true → id ≡ d.id → ⊥
    apart id h e = let bad : true ≡ false = sym h ∙ ap (λ (n : ℕ). is_some (table_at s.received.tables n)) e ∙ new in cc

    received_then : (id : ℕ) → (id == d.id || is_some (table_at s.received.tables id)) ≡ true → is_some (table_at (defined d s.received.tables) id) ≡ true
    received_then id h = or-cases (eqb id d.id) (is_some (table_at s.received.tables id)) (is_some (table_at (defined d s.received.tables) id)) (received_by_id (defined d s.received.tables) d id (define_selects s.received d)) (λ is. still_received roster d s.received.tables id distinct listed own (apart id is) is) h

    retained_or_none : (id : ℕ) (o : Option Definition) → table_at s.received.tables id ≡ o → (cond (is_some (table_at s.received.tables id)) (last_of s.last_numbers id) None ≡ cond (is_some (table_at (defined d s.received.tables) id)) (last_of (filter (λ l. keeps_last d (table_at s.received.tables l.0) l.0) s.last_numbers) id) None) ⊎ (cond (is_some (table_at s.received.tables id)) (last_of s.last_numbers id) None ≡ None)
    retained_or_none id None e = inr (rw e refl)
    retained_or_none id (Some t) e =
        let found : is_some (table_at s.received.tables id) ≡ true = rw e refl in
        let still : is_some (table_at (defined d s.received.tables) id) ≡ true = still_received roster d s.received.tables id distinct listed own (apart id found) found in
        let id_is : t.id ≡ id = table_at-id s.received.tables id t e in
        let own_t : table_at roster t.id ≡ Some t = table_at-passes (λ (x : Definition). table_at roster x.id ≡ Some x) s.received.tables id t own e in
        let unlike : is_same_name t.name d.name ≡ false = two_names roster t d distinct own_t listed (λ f. apart id found (sym id_is ∙ f)) in
        let retain : retains id ≡ true = rw (e, ne_eqb id d.id (apart id found), unlike) refl in
        inl (rw (found, still) (sym (last-kept retains s.last_numbers id retain)))

-- selecting a table loses nothing
pub selection_knows : (k : KnownState) (d : Definition) (m : Message) (us : List Update) (e : State) → roster_fault k.roster ≡ None → AreOwn k.roster k.state.received.tables → table_at k.roster d.id ≡ Some d → m ∷ [] ≡ selection k.state.received d → Step k.state m us e → KnowsLess (with_selected (knowledge_of k.state) d.id) (knowledge_of e)
selection_knows k d m us e sound own listed is step = at (is_table (selected_table k.state.received) d.id) refl (table_at k.state.received.tables d.id) refl
  where
    switched : (t : Definition) → table_at k.state.received.tables d.id ≡ Some t → Step k.state (messages.Switch d.id) us e → KnowsLess (with_selected (knowledge_of k.state) d.id) (knowledge_of e)
    switched t f (fit, none, after) =
        let same : t ≡ d = found_is_own k.roster k.state.received.tables d.id t d own f listed in
        let found : table_at k.state.received.tables d.id ≡ Some d = f ∙ ap (λ (x : Definition). Some x) same in
        subst (λ (s : State). KnowsLess (with_selected (knowledge_of k.state) d.id) (knowledge_of s)) (sym after) (knows_switched k.state d found)

    defined_so : is_some (table_at k.state.received.tables d.id) ≡ false → Step k.state (messages.Define d) us e → KnowsLess (with_selected (knowledge_of k.state) d.id) (knowledge_of e)
    defined_so new (fit, none, after) = subst (λ (s : State). KnowsLess (with_selected (knowledge_of k.state) d.id) (knowledge_of s)) (sym after) (knows_defined k.roster k.state d (roster_names k.roster sound) listed own new)

    at : (a : Bool) → is_table (selected_table k.state.received) d.id ≡ a → (o : Option Definition) → table_at k.state.received.tables d.id ≡ o → KnowsLess (with_selected (knowledge_of k.state) d.id) (knowledge_of e)
    at true h o f = let bad : m ∷ [] ≡ [] = is ∙ rw h refl in absurd (cc)
    at false h (Some t) f = let same : m ∷ [] ≡ messages.Switch d.id ∷ [] = is ∙ rw (h, f) refl in let one : m ≡ messages.Switch d.id = cc in switched t f (subst (λ (x : Message). Step k.state x us e) one step)
    at false h None f = let same : m ∷ [] ≡ messages.Define d ∷ [] = is ∙ rw (h, f) refl in let one : m ≡ messages.Define d = cc in defined_so (rw f refl) (subst (λ (x : Message). Step k.state x us e) one step)
