-- Updates that are sent one after another are legal, and cost no more than with every name written, less what is read.
use Rattle.std.proofs.Common.{◌≡◌, ℕ, ◌+◌, ◌≤◌, Bool, true, false, ◌&&◌, ◌||◌, cond, eqb, List, [], ◌∷◌, ◌++◌, length, Option, Some, None, refl, sym, ap, ◌∙◌, subst, inl, inr, ◌⊎◌, arith, length-append}
use Rattle.std.specs.Prelude.{is_some, option_map, flat_map}
use Rattle.std.specs.List.{AllByRecursion}
use Rattle.std.proofs.lemmas.List.Sums.{sum_by-cons, sum_by-append}
use Rattle.table_types.specs.declared.update.Update.{Update}
use Rattle.table_types.specs.declared.update.Value.{Value}
use Rattle.table_types.specs.declared.key.Key.{Key}
use Rattle.table_types.specs.Tables.{Definition}
use Rattle.table_types.specs.Updates.{fits, stores_name, may_be_named}
use Rattle.table_types.specs.Names.{is_name}
use Rattle.table_types.specs.Rosters.{table_at, roster_fault}
use Rattle.table_types.specs.SlotIds.{is_slot}
use Rattle.table_types.specs.Batches.{IsUpdateFor, IsBatchFor}
use Rattle.peers_msg.specs.declared.name_field.NameField.{NameField}
use Rattle.peers_msg.specs.declared.name_field.NameField.TheVariants as names
use Rattle.peers_msg.specs.declared.message.Message.{Message}
use Rattle.peers_msg.specs.declared.message.Message.TheVariants as messages
use Rattle.peers_msg.specs.Messages.{UpdateFields}
use Rattle.peers_msg.specs.Fitting.{name_fits}
use Rattle.peers_msg.specs.Received.{Received, selected_table}
use Rattle.peers_msg.specs.Spelling.{spelled, stream_of, size_of, size_of_all, update_text, update_type, optional_word, key_text, value_text, name_text}
use Rattle.known_state.specs.State.{State, Step, Teaches, IsOwn, Legal, resolved}
use Rattle.known_state.specs.LastNumbers.{last_of, set_last}
use Rattle.known_state.specs.Known.{KnownState, AreOwn}
use Rattle.known_state.specs.Cost.{Knowledge, knowledge_of, knowledge_after, number_sent, sent_as, written_field, is_named_table, written_cost, selection_cost, cost, cost_from, full}
use Rattle.known_state.proofs.LesserKnowledge.{KnowsLess, with_selected}
use Rattle.known_state.specs.Requests.{Asked, asked, requests_of, read_savings}
use Rattle.known_state.specs.Plans.{Plan, Accepts, all_links, bound, kept_savings, links, names_in}
use Rattle.known_state.specs.Shortest.{Shortest}
use Rattle.known_state.proofs.BatchIsOfRoster.{name_of_fits}
use Rattle.known_state.proofs.FullIsCost.{full_is_cost}
use Rattle.known_state.proofs.SavingsAreBounded.{reads_save}
use Rattle.known_state.proofs.AcceptedIsShortest.{accepted_shortest}
use Rattle.known_state.proofs.ShortestByBytes.{size_of_stream}
use Rattle.known_state.proofs.KnowingMoreCostsLess.{framed_longer, sent_shorter, selection_falls, last-put, name_alike, read_alike, read_shorter}
use Rattle.known_state.proofs.ReceivedIsOwn.{table_at-id}
use Rattle.known_state.proofs.StepPays.{name_fitting, moved_last, is_there, own_stays}
use Rattle.price_checker.specs.Verdicts.{Says}
use Rattle.price_checker.specs.declared.verdict.Verdict.TheVariants as verdicts
use Rattle.price_checker.proofs.ShortestIsSaid.{accepted_said}
use Rattle.teach_writer.specs.Naming.{IsNamed, starts_at_first, starts_after, marks_after}
use Rattle.teach_writer.specs.Sending.{is_table, selection, slot_of, is_stored, update_sent, IsSent, AreSent}
use Rattle.teach_writer.proofs.UpdateStepsAreLegal.{selection_selects, selection_none, listed_by_id, legal-append, own_selection, sent_legal}
use Rattle.teach_writer.proofs.SelectionsAreCheapest.{selection_size, selected_received, knows_retained, selection_knows}

-- ---- sizes by the name field

-- a message is longer if its name field is
names_longer : (number life : Option ℕ) (key : Key) (values : List Value) (short long : NameField) → length (name_text short) ≤ length (name_text long) → size_of (messages.Update (record { number = number; life = life; key = key; values = values; name = short })) ≤ size_of (messages.Update (record { number = number; life = life; key = key; values = values; name = long }))
unfolding size_of spelled
names_longer number life key values short long le =
    let one : UpdateFields = record { number = number; life = life; key = key; values = values; name = short } in
    let two : UpdateFields = record { number = number; life = life; key = key; values = values; name = long } in
    framed_longer 10 (update_type one) 10 (update_type two) (update_text one) (update_text two)
    (rows_longer (optional_word number) (optional_word life) (key_text key) (flat_map value_text values) (name_text short) (name_text long) le)
  where
    rows_longer : (a b c d x y : List ℕ) → length x ≤ length y → length (a ++ (b ++ (c ++ (d ++ x)))) ≤ length (a ++ (b ++ (c ++ (d ++ y))))
    rows_longer a b c d x y le =
        omega (arith, length-append a (b ++ (c ++ (d ++ x))), length-append b (c ++ (d ++ x)), length-append c (d ++ x), length-append d x, length-append a (b ++ (c ++ (d ++ y))), length-append b (c ++ (d ++ y)), length-append c (d ++ y), length-append d y)

-- ---- what is known

pub knows_more : (a b c : Knowledge) → KnowsLess a b → KnowsLess b c → KnowsLess a c
knows_more a b c first second = record {
  defined = λ id h. second.defined id (first.defined id h);
  selected = first.selected ∙ second.selected;
  last = λ id. joined id (first.last id) (second.last id);
}
  where
    joined : (id : ℕ) → (a.last id ≡ b.last id) ⊎ (a.last id ≡ None) → (b.last id ≡ c.last id) ⊎ (b.last id ≡ None) → (a.last id ≡ c.last id) ⊎ (a.last id ≡ None)
    joined id (inl same) (inl other) = inl (same ∙ other)
    joined id (inl same) (inr none) = inr (same ∙ none)
    joined id (inr none) later = inr none

pub with_selected_knows : (less more : Knowledge) (t : ℕ) → KnowsLess less more → KnowsLess (with_selected less t) (with_selected more t)
with_selected_knows less more t knows = record {
  defined = λ id h. or-implied (eqb id t) (less.is_defined id) (more.is_defined id) (knows.defined id) h;
  selected = refl;
  last = knows.last;
}
  where
    or-implied : (a b c : Bool) → (b ≡ true → c ≡ true) → (a || b) ≡ true → (a || c) ≡ true
    or-implied true b c implied h = refl
    or-implied false b c implied h = implied h

one_at_most : (h : Received) (d : Definition) → length (selection h d) ≤ 1
one_at_most h d = by (is_table (selected_table h) d.id) (is_some (table_at h.tables d.id))
  where
    by : (a b : Bool) → length (cond a [] (cond b (messages.Switch d.id ∷ []) (messages.Define d ∷ []))) ≤ 1
    by true b = omega arith
    by false true = omega arith
    by false false = omega arith

-- after a table is selected, it is the selected one, what is received is the roster's own, and nothing is lost
abbrev pub IsSelected : List Definition → State → Definition → State → Type 0
IsSelected roster s d mid = (selected_table mid.received ≡ Some d) × AreOwn roster mid.received.tables × KnowsLess (with_selected (knowledge_of s) d.id) (knowledge_of mid)

pub selected_so : (roster : List Definition) (s mid : State) (d : Definition) → roster_fault roster ≡ None → AreOwn roster s.received.tables → table_at roster d.id ≡ Some d → Teaches s (selection s.received d) [] mid → IsSelected roster s d mid
selected_so roster s mid d sound own listed taught = by (selection s.received d) refl taught
  where
    k : KnownState
    k = record { roster = roster; state = s }

    by : (ms : List Message) → ms ≡ selection s.received d → Teaches s ms [] mid → IsSelected roster s d mid
    by [] is (none, same) =
        let sel = selection_none k d own listed is in
        subst (λ (x : State). IsSelected roster s d x) (sym same) (sel, own, knows_retained s d sel)
    by (m ∷ []) is (one, rest, after, us, step, (nothing, same)) =
        let owns : AllByRecursion (IsOwn roster) (m ∷ []) = subst (λ (l : List Message). AllByRecursion (IsOwn roster) l) (sym is) (own_selection roster s.received d listed) in
        subst (λ (x : State). IsSelected roster s d x) (sym same) ((selection_selects k d m one after own listed is step).1, own_stays roster s after m one own owns.0 step, selection_knows k d m one after sound own listed is step)
    by (m ∷ (n ∷ ms)) is t = let short : length (m ∷ (n ∷ ms)) ≤ 1 = subst (λ (l : List Message). length l ≤ 1) (sym is) (one_at_most s.received d) in absurd (omega arith)

-- an update sets its number, and nothing else is lost
pub sent_knows : (mid e : State) (d : Definition) (u : Update) (last : Option ℕ) (field : NameField) (k : Knowledge) → KnowsLess (with_selected k u.table) (knowledge_of mid) → table_at mid.received.tables u.table ≡ Some d → Step mid (messages.Update (sent_as last field u)) (u ∷ []) e → KnowsLess (knowledge_after k u) (knowledge_of e)
sent_knows mid e d u last field k knows here (fit, table, on, number, numbered, name, named, carried, received, last_numbers) =
    let same_update : u ≡ resolved (sent_as last field u) table number name = cc in
    let table_is : table ≡ u.table = sym (ap (λ (x : Update). x.table) same_update) in
    let number_is : number ≡ u.number = sym (ap (λ (x : Update). x.number) same_update) in
    let put : e.last_numbers ≡ set_last u.table u.number mid.last_numbers = last_numbers ∙ ap (λ (t : ℕ). set_last t number mid.last_numbers) table_is ∙ ap (λ (n : ℕ). set_last u.table n mid.last_numbers) number_is in
    record {
      defined = λ other h. subst (λ (x : Received). is_some (table_at x.tables other) ≡ true) (sym received) (knows.defined other h);
      selected = knows.selected ∙ ap (λ (x : Received). option_map (λ (t : Definition). t.id) (selected_table x)) (sym received);
      last = λ other. joined (eqb other u.table) (k.last other) ((knowledge_of mid).last other) ((knowledge_of e).last other) (knows.last other)
          (ap (λ (x : Received). cond (is_some (table_at x.tables other)) (last_of e.last_numbers other) None) received
          ∙ ap (λ (ls : List (ℕ × ℕ)). cond (is_some (table_at mid.received.tables other)) (last_of ls other) None) put
          ∙ ap (λ (l : Option ℕ). cond (is_some (table_at mid.received.tables other)) l None) (last-put u.table u.number mid.last_numbers other)
          ∙ moved_last (is_some (table_at mid.received.tables other)) (eqb other u.table) (last_of mid.last_numbers other) u.number (is_there mid.received.tables u.table other d here));
    }
  where
    joined : (c : Bool) (less more after : Option ℕ) → (less ≡ more) ⊎ (less ≡ None) → after ≡ cond c (Some u.number) more → (cond c (Some u.number) less ≡ after) ⊎ (cond c (Some u.number) less ≡ None)
    joined true less more after h is = inl (sym is)
    joined false less more after (inl same) is = inl (same ∙ sym is)
    joined false less more after (inr none) is = inr none

-- ---- what one update costs

-- with knowledge that may be less, an update costs no more than with its name written, less what is read
field_within : (roster : List Definition) (k : Knowledge) (d : Definition) (u : Update) (starts : List ℕ → Option ℕ) (us : List Update) (marks : List Bool) (last : Option ℕ) (field : NameField) (name : Option (List ℕ)) (rs : List Asked) → u.name ≡ name → table_at roster u.table ≡ Some d → fits d u ≡ true → name_fits d field ≡ true → (k.last u.table ≡ last) ⊎ (k.last u.table ≡ None) → IsNamed starts us marks (is_stored roster u) name field
    → size_of (messages.Update (sent_as last field u)) + read_savings (asked roster k u name ++ rs) marks ≤ written_cost roster k u + read_savings rs (marks_after name marks)
field_within roster k d u starts us marks last field name rs is listed fit field_fits less named = by name is marks field field_fits (sent field less) named
  where
    sent : (field : NameField) → (k.last u.table ≡ last) ⊎ (k.last u.table ≡ None) → size_of (messages.Update (sent_as last field u)) ≤ size_of (messages.Update (sent_as (k.last u.table) field u))
    sent field (inl same) = rw same (omega arith)
    sent field (inr none) = rw none (sent_shorter last field u)

    and-left : (a b : Bool) → (a && b) ≡ true → a ≡ true
    and-left true b h = refl
    and-left false b h = h

    and-right : (a b : Bool) → (a && b) ≡ true → b ≡ true
    and-right true b h = h
    and-right false b h = cc

    stores : (n : List ℕ) → u.name ≡ Some n → stores_name d ≡ true
    stores n e = and-left (stores_name d) (is_name n) (ap (may_be_named d) (sym e) ∙ name_of_fits d u fit)

    whole : (n : List ℕ) → u.name ≡ Some n → written_cost roster k u ≡ size_of (messages.Update (sent_as (k.last u.table) (names.Written 1 n) u))
    whole n e =
        ap (λ (o : Option Definition). size_of (messages.Update (sent_as (k.last u.table) (written_field (is_named_table o) u.name) u))) listed
        ∙ ap (λ (b : Bool). size_of (messages.Update (sent_as (k.last u.table) (written_field b u.name) u))) (stores n e)
        ∙ ap (λ (o : Option (List ℕ)). size_of (messages.Update (sent_as (k.last u.table) (written_field true o) u))) e

    longer : (short long : NameField) → length (name_text short) ≤ length (name_text long) → size_of (messages.Update (sent_as (k.last u.table) short u)) ≤ size_of (messages.Update (sent_as (k.last u.table) long u))
    longer short long le = names_longer (number_sent (k.last u.table) u.number) u.life u.key u.values short long le

    by : (name : Option (List ℕ)) → u.name ≡ name → (marks : List Bool) (field : NameField) → name_fits d field ≡ true → size_of (messages.Update (sent_as last field u)) ≤ size_of (messages.Update (sent_as (k.last u.table) field u)) → IsNamed starts us marks (is_stored roster u) name field
        → size_of (messages.Update (sent_as last field u)) + read_savings (asked roster k u name ++ rs) marks ≤ written_cost roster k u + read_savings rs (marks_after name marks)
    by None e marks field f le named =
        let same : size_of (messages.Update (sent_as (k.last u.table) field u)) ≡ written_cost roster k u =
        ap (λ (x : NameField). size_of (messages.Update (sent_as (k.last u.table) x u))) named
        ∙ ap (λ (o : Option (List ℕ)). size_of (messages.Update (sent_as (k.last u.table) (written_field (is_named_table (table_at roster u.table)) o) u))) (sym e) in
        omega arith
    by (Some n) e (true ∷ marks) (names.Held slot) f le named =
        let slotted : is_slot slot ≡ true = and-right (stores_name d) (is_slot slot) f in
        let alike = longer (names.Held slot) (names.Held 1) (omega (arith, read_alike slot slotted)) in
        let below = longer (names.Held 1) (names.Written 1 n) (read_shorter n) in
        let full = whole n e in
        omega arith
    by (Some n) e (false ∷ marks) (names.Written slot written) f le named =
        let slotted : is_slot slot ≡ true = and-right (stores_name d) (is_slot slot) (and-left (stores_name d && is_slot slot) (is_name written) f) in
        let alike = longer (names.Written slot written) (names.Written 1 written) (omega (arith, name_alike slot written slotted)) in
        let full = whole written (e ∙ ap (λ (x : List ℕ). Some x) (sym named.0)) in
        omega arith
    by (Some n) e [] names.NotStored f le named = absurd named
    by (Some n) e [] names.NoName f le named = absurd named
    by (Some n) e [] (names.Held slot) f le named = absurd named
    by (Some n) e [] (names.Written slot written) f le named = absurd named
    by (Some n) e (true ∷ marks) names.NotStored f le named = absurd named
    by (Some n) e (true ∷ marks) names.NoName f le named = absurd named
    by (Some n) e (true ∷ marks) (names.Written slot written) f le named = absurd named
    by (Some n) e (false ∷ marks) names.NotStored f le named = absurd named
    by (Some n) e (false ∷ marks) names.NoName f le named = absurd named
    by (Some n) e (false ∷ marks) (names.Held slot) f le named = absurd named

-- one update that is sent: it is legal, and its cost; what is received stays the roster's own, and nothing is lost
abbrev IsWithin : List Definition → State → Knowledge → Update → NameField → List Message → State → Type 0
IsWithin roster s k u field ms e =
    Legal roster s ms (u ∷ []) e
    × AreOwn roster e.received.tables
    × KnowsLess (knowledge_after k u) (knowledge_of e)
    × ((starts : List ℕ → Option ℕ) (us : List Update) (marks : List Bool) (rs : List Asked) → IsNamed starts us marks (is_stored roster u) u.name field
    → size_of_all ms + read_savings (asked roster k u u.name ++ rs) marks ≤ selection_cost roster k u.table + written_cost roster k u + read_savings rs (marks_after u.name marks))

one_within : (roster : List Definition) (s e : State) (k : Knowledge) (u : Update) (field : NameField) (ms : List Message) → roster_fault roster ≡ None → AreOwn roster s.received.tables → KnowsLess k (knowledge_of s) → IsUpdateFor roster u → IsSent roster s u field ms e → IsWithin roster s k u field ms e
one_within roster s e k u field ms sound own knows for (d, mid, listed, chosen, step, is) =
    let m : Message = update_sent mid field u in
    let id : d.id ≡ u.table = table_at-id roster u.table d listed in
    let by_id : table_at roster d.id ≡ Some d = listed_by_id roster u.table d listed in
    let selected = selected_so roster s mid d sound own by_id chosen in
    let lost : KnowsLess (with_selected (knowledge_of s) u.table) (knowledge_of mid) = subst (λ (n : ℕ). KnowsLess (with_selected (knowledge_of s) n) (knowledge_of mid)) id selected.2 in
    let here : table_at mid.received.tables u.table ≡ Some d = subst (λ (n : ℕ). table_at mid.received.tables n ≡ Some d) id (selected_received mid.received d selected.0) in
    let all : KnowsLess (with_selected k u.table) (knowledge_of mid) = knows_more (with_selected k u.table) (with_selected (knowledge_of s) u.table) (knowledge_of mid) (with_selected_knows k (knowledge_of s) u.table knows) lost in
    let last : (knowledge_of mid).last u.table ≡ last_of mid.last_numbers u.table = rw here refl in
    let less : (k.last u.table ≡ last_of mid.last_numbers u.table) ⊎ (k.last u.table ≡ None) = elim (all.last u.table) [ inl same ↦ inl (same ∙ last) | inr none ↦ inr none ] in
    let both : Some for.0 ≡ Some d = sym for.1 ∙ listed in
    let same : for.0 ≡ d = cc in
    let fit : fits d u ≡ true = subst (λ (x : Definition). fits x u ≡ true) same for.2 in
    let field_fits : name_fits d field ≡ true = name_fitting mid.received (sent_as (last_of mid.last_numbers u.table) field u) d step.0 selected.0 in
    let first = selection_size roster s d by_id in
    let second : selection_cost roster (knowledge_of s) u.table ≤ selection_cost roster k u.table = selection_falls roster k (knowledge_of s) u knows (d, listed) in
    let at_table : size_of_all (selection s.received d) ≤ selection_cost roster (knowledge_of s) u.table = subst (λ (n : ℕ). size_of_all (selection s.received d) ≤ selection_cost roster (knowledge_of s) n) id first in
    let sum : size_of_all (selection s.received d ++ m ∷ []) ≡ size_of_all (selection s.received d) + size_of_all (m ∷ []) = sum_by-append size_of (selection s.received d) (m ∷ []) in
    let one : size_of_all (m ∷ []) ≡ size_of m + size_of_all [] = sum_by-cons size_of m [] in
    let whole : size_of_all ms ≡ size_of_all (selection s.received d) + size_of m = ap size_of_all is ∙ omega arith in (
      sent_legal roster s e u field ms (d, mid, listed, chosen, step, is),
      own_stays roster mid e m (u ∷ []) selected.1 tt step,
      sent_knows mid e d u (last_of mid.last_numbers u.table) field k all here step,
      λ starts us marks rs named. (let within = field_within roster k d u starts us marks (last_of mid.last_numbers u.table) field u.name rs refl listed fit field_fits less named in omega arith),
    )

-- all updates
pub sent_within : (roster : List Definition) (s e : State) (k : Knowledge) (starts : List ℕ → Option ℕ) (us : List Update) (marks : List Bool) (ms : List Message) → roster_fault roster ≡ None → AreOwn roster s.received.tables → KnowsLess k (knowledge_of s) → AllByRecursion (IsUpdateFor roster) us → AreSent roster s starts us marks ms e
    → Legal roster s ms us e × (size_of_all ms + read_savings (requests_of roster k us) marks ≤ cost_from roster k us)
sent_within roster s e k starts [] marks ms sound own knows all (none, empty, same) =
    (subst (λ (x : State). Legal roster s ms [] x) (sym same) (subst (λ (l : List Message). Legal roster s l [] s) (sym empty) (tt, (refl, refl))), rw empty (omega arith))
sent_within roster s e k starts (u ∷ us) marks ms sound own knows all (field, first, mid, rest, sent, named, more, is) =
    let one = one_within roster s mid k u field first sound own knows all.0 sent in
    let others = sent_within roster mid e (knowledge_after k u) (starts_after starts u.name (slot_of field)) us (marks_after u.name marks) rest sound one.1 one.2 all.1 more in
    let here = one.3 starts (u ∷ us) marks (requests_of roster (knowledge_after k u) us) named in
    let sum : size_of_all ms ≡ size_of_all first + size_of_all rest = ap size_of_all is ∙ sum_by-append size_of first rest in
    (subst (λ (l : List Message). Legal roster s l (u ∷ us) e) (sym is) (legal-append roster first rest s mid e (u ∷ []) us one.0 others.0), omega arith)

-- a lesson that is sent as an accepted plan keeps requests is a shortest one, and the plan's prices prove it
pub planned_shortest : (k : KnownState) (us : List Update) (plan : Plan) (ms : List Message) (e : State) → roster_fault k.roster ≡ None → AreOwn k.roster k.state.received.tables → length k.state.slots ≡ 128 → IsBatchFor k.roster us → Accepts 128 (names_in k.state.slots) (requests_of k.roster (knowledge_of k.state) us) plan → AreSent k.roster k.state (starts_at_first k.state.slots) us plan.keep ms e
    → Legal k.roster k.state ms us e × (length (stream_of ms) + bound 128 (all_links (names_in k.state.slots) (requests_of k.roster (knowledge_of k.state) us)) plan.prices ≡ full k.roster k.state us) × Shortest k us ms
    × Says k us (stream_of ms) plan.prices (verdicts.Shortest (length (stream_of ms)))
planned_shortest k us plan ms e sound own many batch accepts sent =
    let rs = requests_of k.roster (knowledge_of k.state) us in
    let held = names_in k.state.slots in
    let within = sent_within k.roster k.state e (knowledge_of k.state) (starts_at_first k.state.slots) us plan.keep ms sound own (knows_itself (knowledge_of k.state)) batch.1 sent in
    let saved : read_savings rs plan.keep ≡ kept_savings (links held rs plan.keep) = reads_save held rs plan.keep accepts.linked in
    let whole : full k.roster k.state us ≡ cost k.roster k.state us = full_is_cost k.roster k.state us in
    let short : size_of_all ms + kept_savings (links held rs plan.keep) ≤ full k.roster k.state us = omega (arith, within.1) in
    let tight = accepted_shortest k e ms us plan sound own many accepts within.0 short in
    (within.0, ap (λ (n : ℕ). n + bound 128 (all_links held rs) plan.prices) (sym (size_of_stream ms)) ∙ tight.0, tight.1, accepted_said k e ms us plan sound own many accepts within.0 short)
  where
    knows_itself : (x : Knowledge) → KnowsLess x x
    knows_itself x = record {
      defined = λ id h. h;
      selected = refl;
      last = λ id. inl refl;
    }
