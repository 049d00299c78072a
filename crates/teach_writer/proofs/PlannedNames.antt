-- Updates whose names are planned, one after another.
use Rattle.std.proofs.Common.{◌≡◌, ℕ, ◌^◌, ◌<◌, Bool, true, false, List, [], ◌∷◌, ◌++◌, Option, Some, None, refl, sym, ap, ◌∙◌, subst, arith, append_assoc}
use Rattle.std.specs.Prelude.{is_some}
use Rattle.std.proofs.lemmas.Bool.Decides.{nat_tests}
use Rattle.std.proofs.lemmas.List.{append-nil}
use Rattle.table_types.specs.declared.update.Update.{Update}
use Rattle.table_types.specs.Tables.{Definition, is_definition}
use Rattle.table_types.specs.Updates.{fits}
use Rattle.table_types.specs.Rosters.{table_at, roster_fault}
use Rattle.peers_msg.specs.declared.name_field.NameField.{NameField}
use Rattle.peers_msg.specs.declared.message.Message.{Message}
use Rattle.peers_msg.specs.declared.message.Message.TheVariants as messages
use Rattle.peers_msg.specs.Fitting.{name_fits}
use Rattle.peers_msg.specs.Received.{selected_table}
use Rattle.peers_msg.specs.Spelling.{stream_of}
use Rattle.known_state.specs.State.{State, Step, Teaches, Named, name_of, reads_empty, slots_after}
use Rattle.known_state.specs.LastNumbers.{last_of}
use Rattle.known_state.specs.Known.{AreOwn}
use Rattle.known_state.proofs.ReceivedIsOwn.{table_at-id}
use Rattle.known_state.proofs.FitsOrIsRefused.{define_fits, switch_fits, selected-id}
use Rattle.known_state.proofs.NamedAsResolved.{named_by}
use Rattle.teach_writer.specs.declared.planned_name.PlannedName.{PlannedName}
use Rattle.teach_writer.specs.Pieces.{planned_field, selection_of, state_selected, state_ready, state_updated, messages_of, state_after, messages_left, state_left, IsSendable, AreSendable}
use Rattle.teach_writer.specs.Sending.{is_table, selection, update_sent, IsSent}
use Rattle.teach_writer.proofs.MarksAreReads.{selection_slots}
use Rattle.teach_writer.proofs.SentUpdatesCost.{selected_so}
use Rattle.teach_writer.proofs.UpdateStepsAreLegal.{listed_by_id, sent_resolved, sent_fits_received, stream-append, SpellsLegal, legal_start, legal_more}
use Rattle.teach_writer.proofs.WrittenLesson.{word_sent}

-- ---- one update after others

-- selecting a table is legal
selects : (s : State) (d : Definition) → is_definition d ≡ true → Teaches s (selection s.received d) [] (state_selected s (selection s.received d))
selects s d is = at (is_table (selected_table s.received) d.id) refl (is_some (table_at s.received.tables d.id)) refl
  where
    small : d.id < 2 ^ 64
    small = grind (arith, nat_tests)

    one : (m : Message) → Step s m [] (state_selected s (m ∷ [])) → Teaches s (m ∷ []) [] (state_selected s (m ∷ []))
    one m step = ([], [], state_selected s (m ∷ []), refl, step, (refl, refl))

    at : (a : Bool) → is_table (selected_table s.received) d.id ≡ a → (b : Bool) → is_some (table_at s.received.tables d.id) ≡ b → Teaches s (selection s.received d) [] (state_selected s (selection s.received d))
    at true e b f = rw e (refl, refl)
    at false e true f = rw (e, f) (one (messages.Switch d.id) (switch_fits s.received d.id small f, refl, refl))
    at false e false f = rw (e, f) (one (messages.Define d) (define_fits s.received d is, refl, refl))

-- the messages of an update send it
sends : (roster : List Definition) (s : State) (u : Update) (d : Definition) (name : PlannedName) → roster_fault roster ≡ None → AreOwn roster s.received.tables → table_at roster u.table ≡ Some d → is_definition d ≡ true → fits d u ≡ true → u.number < 2 ^ 32
    → name_fits d (planned_field u.name name) ≡ true → reads_empty s.slots (planned_field u.name name) ≡ false → name_of s.slots (planned_field u.name name) ≡ u.name
    → IsSent roster s u (planned_field u.name name) (messages_of roster s u name) (state_after roster s u name) × AreOwn roster (state_after roster s u name).received.tables × ((state_after roster s u name).slots ≡ slots_after s.slots (planned_field u.name name))
sends roster s u d name sound own listed is fit small field_fits reads named =
    let field : NameField = planned_field u.name name in
    let id : d.id ≡ u.table = table_at-id roster u.table d listed in
    let chosen : selection_of (table_at roster u.table) s.received ≡ selection s.received d = ap (λ (o : Option Definition). selection_of o s.received) listed in
    let mid : State = state_ready roster s u in
    let taught : Teaches s (selection s.received d) [] mid = subst (λ (ms : List Message). Teaches s (selection s.received d) [] (state_selected s ms)) (sym chosen) (selects s d is) in
    let selected = selected_so roster s mid d sound own (listed_by_id roster u.table d listed) taught in
    let slots : mid.slots ≡ s.slots = selection_slots s mid d taught in
    let last : Option ℕ = last_of mid.last_numbers u.table in
    let fits_here = sent_fits_received mid.received d u last field selected.0 is field_fits fit (word_sent last u.number small) in
    let reads_here : reads_empty mid.slots field ≡ false = ap (λ (ss : List (Option (List ℕ))). reads_empty ss field) slots ∙ reads in
    let name_is : name_of mid.slots field ≡ u.name = ap (λ (ss : List (Option (List ℕ))). name_of ss field) slots ∙ named in
    let names : Named mid.slots field u.name (slots_after mid.slots field) = subst (λ (n : Option (List ℕ)). Named mid.slots field n (slots_after mid.slots field)) name_is (named_by mid.slots field reads_here) in
    let step : Step mid (update_sent mid field u) (u ∷ []) (state_updated mid field u) = (fits_here, u.table, selected-id mid.received d selected.0 ∙ ap (λ (n : ℕ). Some n) id, u.number, sent_resolved last u.number, u.name, names, refl, refl, refl) in (
      (d, mid, listed, taught, step, ap (λ (ms : List Message). ms ++ update_sent mid field u ∷ []) chosen),
      selected.1,
      ap (λ (ss : List (Option (List ℕ))). slots_after ss field) slots,
    )

-- one more update
more_left : (roster : List Definition) (s : State) (us : List Update) (ns : List PlannedName) (u : Update) (n : PlannedName) → AreSendable roster s us ns → IsSendable roster (state_left roster s us ns) u n
    → (messages_left roster s (us ++ u ∷ []) (ns ++ n ∷ []) ≡ messages_left roster s us ns ++ messages_of roster (state_left roster s us ns) u n) × (state_left roster s (us ++ u ∷ []) (ns ++ n ∷ []) ≡ state_after roster (state_left roster s us ns) u n) × AreSendable roster s (us ++ u ∷ []) (ns ++ n ∷ [])
more_left roster s [] [] u n are one = (append-nil (messages_of roster s u n), refl, (one, tt))
more_left roster s [] (m ∷ ns) u n are one = absurd are
more_left roster s (v ∷ us) [] u n are one = absurd are
more_left roster s (v ∷ us) (m ∷ ns) u n are one =
    let mid : State = state_after roster s v m in
    let rest = more_left roster mid us ns u n are.1 one in (
      ap (λ (ms : List Message). messages_of roster s v m ++ ms) rest.0 ∙ sym (append_assoc (messages_of roster s v m) (messages_left roster mid us ns) (messages_of roster (state_left roster mid us ns) u n)),
      rest.1,
      (are.0, rest.2),
    )

-- The updates can be sent with these names, their messages are a lesson, and the slots hold these names after them.
abbrev pub ArePlanned : List Definition → State → List Update → List PlannedName → List (Option (List ℕ)) → Type 0
ArePlanned roster s us ns slots =
    AreSendable roster s us ns
    × ((state_left roster s us ns).slots ≡ slots)
    × AreOwn roster (state_left roster s us ns).received.tables
    × SpellsLegal roster s (stream_of (messages_left roster s us ns)) us (state_left roster s us ns)

pub planned_start : (roster : List Definition) (s : State) → AreOwn roster s.received.tables → ArePlanned roster s [] [] s.slots
planned_start roster s own = (tt, refl, own, legal_start roster s)

-- what one more update adds
abbrev pub IsPlannedMore : List Definition → State → List Update → List PlannedName → Update → PlannedName → List (Option (List ℕ)) → Type 0
IsPlannedMore roster s us ns u n slots =
    ArePlanned roster s (us ++ u ∷ []) (ns ++ n ∷ []) (slots_after slots (planned_field u.name n))
    × IsSent roster (state_left roster s us ns) u (planned_field u.name n) (messages_of roster (state_left roster s us ns) u n) (state_left roster s (us ++ u ∷ []) (ns ++ n ∷ []))
    × (stream_of (messages_left roster s (us ++ u ∷ []) (ns ++ n ∷ [])) ≡ stream_of (messages_left roster s us ns) ++ stream_of (messages_of roster (state_left roster s us ns) u n))

pub planned_more : (roster : List Definition) (s : State) (us : List Update) (ns : List PlannedName) (u : Update) (d : Definition) (n : PlannedName) (slots : List (Option (List ℕ))) → roster_fault roster ≡ None → ArePlanned roster s us ns slots → table_at roster u.table ≡ Some d → is_definition d ≡ true → fits d u ≡ true → u.number < 2 ^ 32
    → name_fits d (planned_field u.name n) ≡ true → reads_empty slots (planned_field u.name n) ≡ false → name_of slots (planned_field u.name n) ≡ u.name → IsPlannedMore roster s us ns u n slots
planned_more roster s us ns u d n slots sound (are, slots_are, own, legal) listed is fit small field_fits reads named =
    let mid : State = state_left roster s us ns in
    let field : NameField = planned_field u.name n in
    let reads_here : reads_empty mid.slots field ≡ false = ap (λ (ss : List (Option (List ℕ))). reads_empty ss field) slots_are ∙ reads in
    let name_is : name_of mid.slots field ≡ u.name = ap (λ (ss : List (Option (List ℕ))). name_of ss field) slots_are ∙ named in
    let sent = sends roster mid u d n sound own listed is fit small field_fits reads_here name_is in
    let more = more_left roster s us ns u n are (d, listed, fit, field_fits, reads_here, is) in
    let e : State = state_left roster s (us ++ u ∷ []) (ns ++ n ∷ []) in
    let before : List ℕ = stream_of (messages_left roster s us ns) in
    let bytes : List ℕ = stream_of (messages_left roster s (us ++ u ∷ []) (ns ++ n ∷ [])) in
    let is_sent : IsSent roster mid u field (messages_of roster mid u n) e = subst (λ (x : State). IsSent roster mid u field (messages_of roster mid u n) x) (sym more.1) sent.0 in
    let grown : bytes ≡ before ++ stream_of (messages_of roster mid u n) = ap (λ (ms : List Message). stream_of ms) more.0 ∙ stream-append (messages_left roster s us ns) (messages_of roster mid u n) in (
      (
        more.2,
        ap (λ (x : State). x.slots) more.1 ∙ sent.2 ∙ ap (λ (ss : List (Option (List ℕ))). slots_after ss field) slots_are,
        subst (λ (x : State). AreOwn roster x.received.tables) (sym more.1) sent.1,
        legal_more roster s mid e before bytes us u field (messages_of roster mid u n) legal is_sent grown,
      ),
      is_sent,
      grown,
    )
