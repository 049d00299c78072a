-- The lesson with every name written is a lesson.
use Rattle.std.proofs.Common.{◌≡◌, ℕ, ◌^◌, ◌<◌, ◌≤◌, Bool, true, false, ◌&&◌, ◌||◌, ◌==◌, List, [], ◌∷◌, length, Option, Some, None, refl, sym, ap, ◌∙◌, subst, inl, inr, ◌⊎◌, arith}
use Rattle.std.specs.Prelude.{is_some, option_map}
use Rattle.std.specs.List.{AllByRecursion}
use Rattle.std.proofs.lemmas.Bool.Decides.{nat_tests}
use Rattle.table_types.specs.declared.update.Update.{Update}
use Rattle.table_types.specs.Tables.{Definition, is_definition}
use Rattle.table_types.specs.Names.{is_name}
use Rattle.table_types.specs.Updates.{fits, is_optional_word, stores_name, may_be_named}
use Rattle.table_types.specs.Rosters.{table_at, roster_fault}
use Rattle.table_types.specs.Batches.{IsUpdateFor, IsBatchFor}
use Rattle.peers_msg.specs.declared.name_field.NameField.{NameField}
use Rattle.peers_msg.specs.declared.message.Message.{Message}
use Rattle.peers_msg.specs.declared.message.Message.TheVariants as messages
use Rattle.peers_msg.specs.Fitting.{name_fits}
use Rattle.peers_msg.specs.Received.{received_after, selected_table}
use Rattle.peers_msg.specs.Spelling.{stream_of, size_of_all}
use Rattle.known_state.specs.State.{State, Step, Teaches, Named, IsOwn, Legal, last_numbers_after, resolved_number, slots_after}
use Rattle.known_state.specs.LastNumbers.{last_of, set_last}
use Rattle.known_state.specs.Known.{KnownState, AreOwn}
use Rattle.known_state.specs.Cost.{Knowledge, knowledge_of, knowledge_after, number_sent, sent_as, written_field, is_named_table, written, is_selected, selecting, written_lesson, full}
use Rattle.known_state.specs.Lessons.{IsLessonFor}
use Rattle.known_state.specs.Shortest.{Shortest}
use Rattle.known_state.proofs.LesserKnowledge.{KnowsLess, with_selected}
use Rattle.known_state.proofs.ReceivedIsOwn.{table_at-id, table_at-passes}
use Rattle.known_state.proofs.FitsOrIsRefused.{define_fits, switch_fits, update_fits_received, selected-id}
use Rattle.known_state.proofs.KnowingMoreCostsLess.{found_before}
use Rattle.known_state.proofs.BatchIsOfRoster.{name_of_fits}
use Rattle.known_state.proofs.ShortestByBytes.{size_of_stream}
use Rattle.teach_writer.specs.Sending.{is_table, selection}
use Rattle.teach_writer.proofs.UpdateStepsAreLegal.{listed_by_id, own_selection, legal-append, sent_fits, sent_resolved}
use Rattle.teach_writer.proofs.SelectionsAreCheapest.{selected_received}
use Rattle.teach_writer.proofs.SentUpdatesCost.{selected_so, knows_more, with_selected_knows, sent_knows}

-- what is known of a state is so, and all tables that it has received are known
record Agrees (k : Knowledge) (s : State) : Type 0 where
  knows : KnowsLess k (knowledge_of s)
  defined : (id : ℕ) → is_some (table_at s.received.tables id) ≡ true → k.is_defined id ≡ true

agrees_itself : (s : State) → Agrees (knowledge_of s) s
agrees_itself s = record {
  knows = record { defined = λ id h. h; selected = refl; last = λ id. inl refl };
  defined = λ id h. h;
}

-- ---- selecting a table

both_ways : (a b : Bool) → (a ≡ true → b ≡ true) → (b ≡ true → a ≡ true) → a ≡ b
both_ways true b there back = sym (there refl)
both_ways false true there back = back refl
both_ways false false there back = refl

-- a table is selected as the known state says
selecting_is : (roster : List Definition) (k : Knowledge) (s : State) (d : Definition) → Agrees k s → table_at roster d.id ≡ Some d → selecting roster k d.id ≡ selection s.received d
selecting_is roster k s d agrees listed = rw (selected, defined, listed) refl
  where
    alike : (o : Option Definition) → is_selected (option_map (λ t. t.id) o) d.id ≡ is_table o d.id
    alike None = refl
    alike (Some t) = refl

    selected : is_selected k.selected d.id ≡ is_table (selected_table s.received) d.id
    selected = ap (λ (o : Option ℕ). is_selected o d.id) agrees.knows.selected ∙ alike (selected_table s.received)

    defined : k.is_defined d.id ≡ is_some (table_at s.received.tables d.id)
    defined = both_ways (k.is_defined d.id) (is_some (table_at s.received.tables d.id)) (agrees.knows.defined d.id) (agrees.defined d.id)

-- it can be selected, and no other table is then received for the first time
abbrev CanSelect : State → Definition → Type 0
CanSelect s d =
    (mid : State) × Teaches s (selection s.received d) [] mid
    × ((id : ℕ) → is_some (table_at mid.received.tables id) ≡ true → (id == d.id || is_some (table_at s.received.tables id)) ≡ true)

can_select : (s : State) (d : Definition) → is_definition d ≡ true → CanSelect s d
can_select s d is = at (is_table (selected_table s.received) d.id) refl (is_some (table_at s.received.tables d.id)) refl
  where
    after : Message → State
    after m = record { received = received_after s.received m; last_numbers = last_numbers_after s m; slots = s.slots }

    or_second : (a b : Bool) → b ≡ true → (a || b) ≡ true
    or_second true b h = refl
    or_second false b h = h

    small : d.id < 2 ^ 64
    small = grind (arith, nat_tests)

    one : (m : Message) → Step s m [] (after m) → Teaches s (m ∷ []) [] (after m)
    one m step = ([], [], after m, refl, step, (refl, refl))

    at : (a : Bool) → is_table (selected_table s.received) d.id ≡ a → (b : Bool) → is_some (table_at s.received.tables d.id) ≡ b → CanSelect s d
    at true e b f = (s, rw e (refl, refl), λ id h. or_second (id == d.id) (is_some (table_at s.received.tables id)) h)
    at false e true f = (after (messages.Switch d.id), rw (e, f) (one (messages.Switch d.id) (switch_fits s.received d.id small f, refl, refl)), λ id h. or_second (id == d.id) (is_some (table_at s.received.tables id)) h)
    at false e false f = (after (messages.Define d), rw (e, f) (one (messages.Define d) (define_fits s.received d is, refl, refl)), λ id h. found_before d s.received.tables id h)

-- ---- sending an update with its name written

and-left : (a b : Bool) → (a && b) ≡ true → a ≡ true
and-left true b h = refl
and-left false b h = h

and-right : (a b : Bool) → (a && b) ≡ true → b ≡ true
and-right true b h = h
and-right false b h = cc

-- the field with the name written fits the table, and gives the name
written_fits : (d : Definition) (name : Option (List ℕ)) → may_be_named d name ≡ true → name_fits d (written_field (stores_name d) name) ≡ true
written_fits d name may = at (stores_name d) refl name may
  where
    at : (b : Bool) → stores_name d ≡ b → (name : Option (List ℕ)) → may_be_named d name ≡ true → name_fits d (written_field b name) ≡ true
    at false e name may = rw e refl
    at true e None may = e
    at true e (Some n) may = rw (e, and-right (stores_name d) (is_name n) may) refl

written_names : (slots : List (Option (List ℕ))) (stored : Bool) (name : Option (List ℕ)) → (stored ≡ false → name ≡ None) → Named slots (written_field stored name) name (slots_after slots (written_field stored name))
written_names slots false name none = (none refl, refl)
written_names slots true None none = (refl, refl)
written_names slots true (Some n) none = (refl, refl)

unnamed : (d : Definition) (name : Option (List ℕ)) → may_be_named d name ≡ true → stores_name d ≡ false → name ≡ None
unnamed d None may stored = refl
unnamed d (Some n) may stored = let bad : true ≡ false = sym (and-left (stores_name d) (is_name n) may) ∙ stored in cc

-- its number is resolved, whether or not the last number is known
number_known : (known last : Option ℕ) (number : ℕ) → (known ≡ last) ⊎ (known ≡ None) → resolved_number (number_sent known number) last ≡ Some number
number_known known last number (inl same) = rw same (sent_resolved last number)
number_known known last number (inr none) = rw none refl

pub word_sent : (last : Option ℕ) (number : ℕ) → number < 2 ^ 32 → is_optional_word (number_sent last number) ≡ true
word_sent last number small = at (number_sent last number) refl
  where
    at : (o : Option ℕ) → number_sent last number ≡ o → is_optional_word o ≡ true
    at None e = refl
    at (Some n) e = grind (arith, nat_tests)

abbrev sent : State → NameField → Update → State
sent s field u = record { received = s.received; last_numbers = set_last u.table u.number s.last_numbers; slots = slots_after s.slots field }

-- an update with its name written makes a step from a state in which its table is selected, and carries itself
written_step : (s : State) (d : Definition) (u : Update) (last : Option ℕ) → is_definition d ≡ true → selected_table s.received ≡ Some d → d.id ≡ u.table → fits d u ≡ true → u.number < 2 ^ 32 → (last ≡ last_of s.last_numbers u.table) ⊎ (last ≡ None)
    → Step s (messages.Update (sent_as last (written_field (stores_name d) u.name) u)) (u ∷ []) (sent s (written_field (stores_name d) u.name) u)
written_step s d u last is sel id fit small less =
    let field : NameField = written_field (stores_name d) u.name in
    let may = name_of_fits d u fit in
    let fits_here = update_fits_received s.received (sent_as last field u) d sel (sent_fits last field d u is (written_fits d u.name may) fit (word_sent last u.number small)) is in
    (fits_here, u.table, selected-id s.received d sel ∙ ap (λ (n : ℕ). Some n) id, u.number, number_known last (last_of s.last_numbers u.table) u.number less, u.name, written_names s.slots (stores_name d) u.name (unnamed d u.name may), refl, refl, refl)

-- ---- the whole lesson

-- one update: what selects its table, and the update with its name written
abbrev WritesOne : List Definition → Knowledge → State → Update → Type 0
WritesOne roster k s u =
    (mid : State) × (e : State)
    × AllByRecursion (IsOwn roster) (selecting roster k u.table)
    × Teaches s (selecting roster k u.table) [] mid
    × Step mid (written roster k u) (u ∷ []) e
    × AreOwn roster e.received.tables
    × Agrees (knowledge_after k u) e

writes_one : (roster : List Definition) (k : Knowledge) (s : State) (u : Update) → roster_fault roster ≡ None → AllByRecursion (λ d. is_definition d ≡ true) roster → AreOwn roster s.received.tables → Agrees k s → IsUpdateFor roster u → u.number < 2 ^ 32 → WritesOne roster k s u
writes_one roster k s u sound formed own agrees (d, listed, fit) small =
    let id : d.id ≡ u.table = table_at-id roster u.table d listed in
    let by_id : table_at roster d.id ≡ Some d = listed_by_id roster u.table d listed in
    let is : is_definition d ≡ true = table_at-passes (λ (x : Definition). is_definition x ≡ true) roster u.table d formed listed in
    let can = can_select s d is in
    let mid = can.0 in
    let selected = selected_so roster s mid d sound own by_id can.1 in
    let chosen : selecting roster k u.table ≡ selection s.received d = subst (λ (n : ℕ). selecting roster k n ≡ selection s.received d) id (selecting_is roster k s d agrees by_id) in
    let lost : KnowsLess (with_selected (knowledge_of s) u.table) (knowledge_of mid) = subst (λ (n : ℕ). KnowsLess (with_selected (knowledge_of s) n) (knowledge_of mid)) id selected.2 in
    let knows : KnowsLess (with_selected k u.table) (knowledge_of mid) = knows_more (with_selected k u.table) (with_selected (knowledge_of s) u.table) (knowledge_of mid) (with_selected_knows k (knowledge_of s) u.table agrees.knows) lost in
    let here : table_at mid.received.tables u.table ≡ Some d = subst (λ (n : ℕ). table_at mid.received.tables n ≡ Some d) id (selected_received mid.received d selected.0) in
    let last : (knowledge_of mid).last u.table ≡ last_of mid.last_numbers u.table = rw here refl in
    let less : (k.last u.table ≡ last_of mid.last_numbers u.table) ⊎ (k.last u.table ≡ None) = elim (knows.last u.table) [ inl same ↦ inl (same ∙ last) | inr none ↦ inr none ] in
    let field : NameField = written_field (stores_name d) u.name in
    let e : State = sent mid field u in
    let step : Step mid (messages.Update (sent_as (k.last u.table) field u)) (u ∷ []) e = written_step mid d u (k.last u.table) is selected.0 id fit small less in
    let stored : stores_name d ≡ is_named_table (table_at roster u.table) = sym (ap is_named_table listed) in (
      mid,
      e,
      subst (λ (ms : List Message). AllByRecursion (IsOwn roster) ms) (sym chosen) (own_selection roster s.received d by_id),
      subst (λ (ms : List Message). Teaches s ms [] mid) (sym chosen) can.1,
      subst (λ (b : Bool). Step mid (messages.Update (sent_as (k.last u.table) (written_field b u.name) u)) (u ∷ []) e) stored step,
      selected.1,
      record {
        knows = sent_knows mid e d u (k.last u.table) field k knows here step;
        defined = λ other h. known other (subst (λ (n : ℕ). (other == n || is_some (table_at s.received.tables other)) ≡ true) id (can.2 other h));
      },
    )
  where
    or-implied : (a b c : Bool) → (b ≡ true → c ≡ true) → (a || b) ≡ true → (a || c) ≡ true
    or-implied true b c implied h = refl
    or-implied false b c implied h = implied h

    known : (other : ℕ) → (other == u.table || is_some (table_at s.received.tables other)) ≡ true → (other == u.table || k.is_defined other) ≡ true
    known other h = or-implied (other == u.table) (is_some (table_at s.received.tables other)) (k.is_defined other) (agrees.defined other) h

-- all updates
written_legal : (roster : List Definition) (k : Knowledge) (s : State) (us : List Update) → roster_fault roster ≡ None → AllByRecursion (λ d. is_definition d ≡ true) roster → AreOwn roster s.received.tables → Agrees k s → AllByRecursion (IsUpdateFor roster) us → AllByRecursion (λ u. u.number < 2 ^ 32) us
    → (e : State) × Legal roster s (written_lesson roster k us) us e
written_legal roster k s [] sound formed own agrees all small = (s, (tt, (refl, refl)))
written_legal roster k s (u ∷ us) sound formed own agrees all small =
    let one = writes_one roster k s u sound formed own agrees all.0 small.0 in
    let rest = written_legal roster (knowledge_after k u) one.1 us sound formed one.5 one.6 all.1 small.1 in
    let later : Legal roster one.0 (written roster k u ∷ written_lesson roster (knowledge_after k u) us) (u ∷ us) rest.0 = ((tt, rest.1.0), (u ∷ [], us, one.1, refl, one.4, rest.1.1)) in
    (rest.0, legal-append roster (selecting roster k u.table) (written roster k u ∷ written_lesson roster (knowledge_after k u) us) s one.0 rest.0 [] (u ∷ us) (one.2, one.3) later)

pub written_teaches : (k : KnownState) (us : List Update) → roster_fault k.roster ≡ None → AllByRecursion (λ d. is_definition d ≡ true) k.roster → AreOwn k.roster k.state.received.tables → IsBatchFor k.roster us → AllByRecursion (λ u. u.number < 2 ^ 32) us
    → (after : KnownState) × IsLessonFor k us (stream_of (written_lesson k.roster (knowledge_of k.state) us)) after
written_teaches k us sound formed own batch small =
    let all = written_legal k.roster (knowledge_of k.state) k.state us sound formed own (agrees_itself k.state) batch.1 small in
    (record { roster = k.roster; state = all.0 }, (written_lesson k.roster (knowledge_of k.state) us, refl, all.1, refl))

pub written_size : (roster : List Definition) (s : State) (us : List Update) → length (stream_of (written_lesson roster (knowledge_of s) us)) ≡ full roster s us
written_size roster s us = sym (size_of_stream (written_lesson roster (knowledge_of s) us))

-- so no shortest list is longer
pub written_most : (k : KnownState) (us : List Update) (ms : List Message) → roster_fault k.roster ≡ None → AllByRecursion (λ d. is_definition d ≡ true) k.roster → AreOwn k.roster k.state.received.tables → IsBatchFor k.roster us → AllByRecursion (λ u. u.number < 2 ^ 32) us
    → Shortest k us ms → size_of_all ms ≤ full k.roster k.state us
written_most k us ms sound formed own batch small shortest =
    let all = written_legal k.roster (knowledge_of k.state) k.state us sound formed own (agrees_itself k.state) batch.1 small in
    shortest.2 (written_lesson k.roster (knowledge_of k.state) us) all.0 all.1
