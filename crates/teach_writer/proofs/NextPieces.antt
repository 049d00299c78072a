-- The next message of those that send updates with planned names.
use Rattle.std.proofs.Common.{◌≡◌, ℕ, Bool, true, false, List, [], ◌∷◌, ◌++◌, ◌+◌, ◌<◌, length, get_or, drop, Option, Some, None, refl, sym, ap, ◌∙◌, subst}
use Rattle.std.specs.Prelude.{is_some, option_map}
use Rattle.std.proofs.lemmas.List.{drop_more}
use Rattle.table_types.specs.declared.update.Update.{Update}
use Rattle.table_types.specs.Tables.{Definition}
use Rattle.table_types.specs.Rosters.{table_at}
use Rattle.peers_msg.specs.declared.name_field.NameField.{NameField}
use Rattle.peers_msg.specs.declared.message.Message.{Message}
use Rattle.peers_msg.specs.declared.message.Message.TheVariants as messages
use Rattle.peers_msg.specs.Received.{Received, selected_table}
use Rattle.peers_msg.specs.Spelling.{spelled}
use Rattle.known_state.specs.State.{State, Step, resolved_number, reads_empty}
use Rattle.known_state.specs.LastNumbers.{last_of, set_last}
use Rattle.known_state.specs.Known.{AreOwn, KnownState}
use Rattle.known_state.specs.Plans.{Plan}
use Rattle.known_state.specs.Cost.{is_selected, number_sent}
use Rattle.known_state.proofs.ReceivedIsOwn.{table_at-id}
use Rattle.known_state.proofs.FitsOrIsRefused.{selected-id}
use Rattle.known_state.proofs.NamedAsResolved.{named_so}
use Rattle.teach_writer.specs.declared.planned_name.PlannedName.{PlannedName}
use Rattle.teach_writer.specs.Pieces.{planned_field, selection_of, state_selected, state_ready, state_updated, state_after, messages_left, state_left, AreSendable, IsPart, IsFirst, IsNext, left_of, selected_id}
use Rattle.teach_writer.specs.Sending.{is_table, selection, update_sent}
use Rattle.teach_writer.proofs.UpdateStepsAreLegal.{listed_by_id, retained_selected, sent_resolved}

-- ---- the state after a message

one_state : (a b : State) → a.received ≡ b.received → a.last_numbers ≡ b.last_numbers → a.slots ≡ b.slots → a ≡ b
one_state a b p q r =
    ap (λ (h : Received). record { received = h; last_numbers = a.last_numbers; slots = a.slots }) p
    ∙ ap (λ (l : List (ℕ × ℕ)). record { received = b.received; last_numbers = l; slots = a.slots }) q
    ∙ ap (λ (n : List (Option (List ℕ))). record { received = b.received; last_numbers = b.last_numbers; slots = n }) r

-- an update leads to the state that its name field and its number say
pub updated_so : (s e : State) (d : Definition) (u : Update) (field : NameField) (us : List Update) → selected_table s.received ≡ Some d → d.id ≡ u.table → Step s (update_sent s field u) us e → e ≡ state_updated s field u
updated_so s e d u field us sel id (fit, table, on_table, number, is_number, name, named, carried, received, last_numbers) =
    let last : Option ℕ = last_of s.last_numbers u.table in
    let same_table : Some d.id ≡ Some table = sym (selected-id s.received d sel) ∙ on_table in
    let by_id : d.id ≡ table = cc in
    let table_is : table ≡ u.table = sym by_id ∙ id in
    let numbers : Some u.number ≡ Some number = sym (sent_resolved last u.number) ∙ ap (λ (t : ℕ). resolved_number (number_sent last u.number) (last_of s.last_numbers t)) (sym table_is) ∙ is_number in
    let number_is : u.number ≡ number = cc in
    one_state e (state_updated s field u) received
    (last_numbers ∙ ap (λ (t : ℕ). set_last t number s.last_numbers) table_is ∙ ap (λ (n : ℕ). set_last u.table n s.last_numbers) (sym number_is))
    (named_so s.slots field name e.slots named).2

-- so does what selects a table
pub selected_by : (s e : State) (d : Definition) (m : Message) (us : List Update) → m ∷ [] ≡ selection s.received d → Step s m us e → e ≡ state_selected s (m ∷ [])
selected_by s e d m us is step = at (is_table (selected_table s.received) d.id) refl (is_some (table_at s.received.tables d.id)) refl
  where
    switched : Step s (messages.Switch d.id) us e → e ≡ state_selected s (messages.Switch d.id ∷ [])
    switched (fit, none, after) = after

    defined_so : Step s (messages.Define d) us e → e ≡ state_selected s (messages.Define d ∷ [])
    defined_so (fit, none, after) = after

    at : (a : Bool) → is_table (selected_table s.received) d.id ≡ a → (b : Bool) → is_some (table_at s.received.tables d.id) ≡ b → e ≡ state_selected s (m ∷ [])
    at true h b f = let bad : m ∷ [] ≡ [] = is ∙ rw h refl in absurd (cc)
    at false h true f =
        let same : m ∷ [] ≡ messages.Switch d.id ∷ [] = is ∙ rw (h, f) refl in
        let one : m ≡ messages.Switch d.id = cc in
        subst (λ (x : Message). e ≡ state_selected s (x ∷ [])) (sym one) (switched (subst (λ (x : Message). Step s x us e) one step))
    at false h false f =
        let same : m ∷ [] ≡ messages.Define d ∷ [] = is ∙ rw (h, f) refl in
        let one : m ≡ messages.Define d = cc in
        subst (λ (x : Message). e ≡ state_selected s (x ∷ [])) (sym one) (defined_so (subst (λ (x : Message). Step s x us e) one step))

-- ---- the selected table, by its id

-- whether a table is the selected one goes by its id
by_id : (o : Option Definition) (id : ℕ) → is_table o id ≡ is_selected (option_map (λ d. d.id) o) id
by_id None id = refl
by_id (Some d) id = refl

pub selected_by_id : (k : KnownState) (id : ℕ) (d : Definition) (selected : Option ℕ) → AreOwn k.roster k.state.received.tables → table_at k.roster id ≡ Some d → selected ≡ selected_id k.state.received → is_selected selected id ≡ true → selected_table k.state.received ≡ Some d
selected_by_id k id d selected own listed is same =
    let here : is_table (selected_table k.state.received) id ≡ true = by_id (selected_table k.state.received) id ∙ ap (λ (o : Option ℕ). is_selected o id) (sym is) ∙ same in
    retained_selected k d own (listed_by_id k.roster id d listed) (subst (λ (n : ℕ). is_table (selected_table k.state.received) n ≡ true) (sym (table_at-id k.roster id d listed)) here)

pub other_by_id : (h : Received) (id : ℕ) (selected : Option ℕ) → selected ≡ selected_id h → is_selected selected id ≡ false → is_table (selected_table h) id ≡ false
other_by_id h id selected is other = by_id (selected_table h) id ∙ ap (λ (o : Option ℕ). is_selected o id) (sym is) ∙ other

-- an update leaves its table selected
pub still_selected : (s e : State) (u : Update) (field : NameField) (d : Definition) → selected_table s.received ≡ Some d → d.id ≡ u.table → e ≡ state_updated s field u → selected_id e.received ≡ Some u.table
still_selected s e u field d sel id is = ap (λ (x : State). selected_id x.received) is ∙ ap (λ (o : Option Definition). option_map (λ t. t.id) o) sel ∙ ap (λ (n : ℕ). Some n) id

-- ---- the first message of those left

-- what selects the first update's table
pub part_first : (roster : List Definition) (s e : State) (u : Update) (us : List Update) (n : PlannedName) (ns : List PlannedName) (m : Message) → AreSendable roster s (u ∷ us) (n ∷ ns) → IsPart roster s u n false m e → IsFirst roster s (u ∷ us) (n ∷ ns) m e (u ∷ us) (n ∷ ns)
part_first roster s e u us n ns m are (chosen, is, none) =
    let field : NameField = planned_field u.name n in
    let ready : state_ready roster s u ≡ e = ap (λ (ms : List Message). state_selected s ms) chosen ∙ sym is in
    let ready_there : state_ready roster e u ≡ e = ap (λ (ms : List Message). state_selected e ms) none in
    let same : state_after roster s u n ≡ state_after roster e u n = ap (λ (x : State). state_updated x field u) (ready ∙ sym ready_there) in
    let here : messages_left roster s (u ∷ us) (n ∷ ns) ≡ m ∷ (update_sent e field u ∷ messages_left roster (state_updated e field u) us ns) =
    ap (λ (ms : List Message). (ms ++ update_sent (state_ready roster s u) field u ∷ []) ++ messages_left roster (state_after roster s u n) us ns) chosen
    ∙ ap (λ (x : State). m ∷ (update_sent x field u ∷ messages_left roster (state_updated x field u) us ns)) ready in
    let there : m ∷ messages_left roster e (u ∷ us) (n ∷ ns) ≡ m ∷ (update_sent e field u ∷ messages_left roster (state_updated e field u) us ns) =
    ap (λ (ms : List Message). m ∷ ((ms ++ update_sent (state_ready roster e u) field u ∷ []) ++ messages_left roster (state_after roster e u n) us ns)) none
    ∙ ap (λ (x : State). m ∷ (update_sent x field u ∷ messages_left roster (state_updated x field u) us ns)) ready_there in
    let reads : reads_empty e.slots field ≡ false = ap (λ (x : State). reads_empty x.slots field) is ∙ are.0.4 in (
      here ∙ sym there,
      ap (λ (x : State). state_left roster x us ns) (sym same),
      ((are.0.0, are.0.1, are.0.2, are.0.3, reads, are.0.5), subst (λ (x : State). AreSendable roster x us ns) same are.1),
    )

-- the first update, if its table is selected
pub part_whole : (roster : List Definition) (s e : State) (u : Update) (us : List Update) (n : PlannedName) (ns : List PlannedName) (m : Message) → AreSendable roster s (u ∷ us) (n ∷ ns) → IsPart roster s u n true m e → IsFirst roster s (u ∷ us) (n ∷ ns) m e us ns
part_whole roster s e u us n ns m are (none, m_is, e_is) =
    let field : NameField = planned_field u.name n in
    let ready : state_ready roster s u ≡ s = ap (λ (ms : List Message). state_selected s ms) none in
    let after : state_after roster s u n ≡ e = ap (λ (x : State). state_updated x field u) ready ∙ sym e_is in
    let left : List Message = messages_left roster (state_after roster s u n) us ns in (
      ap (λ (ms : List Message). (ms ++ update_sent (state_ready roster s u) field u ∷ []) ++ left) none
          ∙ ap (λ (x : State). update_sent x field u ∷ left) ready
          ∙ ap (λ (k : Message). k ∷ left) (sym m_is)
          ∙ ap (λ (x : State). m ∷ messages_left roster x us ns) after,
      ap (λ (x : State). state_left roster x us ns) (sym after),
      subst (λ (x : State). AreSendable roster x us ns) after are.1,
    )

-- updates without planned names are none
pub none_sendable : (roster : List Definition) (s : State) (us : List Update) → AreSendable roster s us [] → us ≡ []
none_sendable roster s [] are = refl
none_sendable roster s (u ∷ us) are = absurd are

-- ---- what is left of a lesson

-- after its first message, the others are left, and the lesson is the same
pub next_left : (k after : KnownState) (us rest : List Update) (ns others : List PlannedName) (ended : Bool) (plan : Plan) (m : Message) (piece : List ℕ) → piece ≡ spelled m → after.roster ≡ k.roster → IsFirst k.roster k.state us ns m after.state rest others
    → IsNext (left_of k us ns ended plan) (Some piece) (left_of after rest others ended plan)
next_left k after us rest ns others ended plan m piece is same (messages_are, state_is, are) = (
  m,
  is,
  messages_are ∙ ap (λ (roster : List Definition). m ∷ messages_left roster after.state rest others) (sym same),
  refl,
  refl,
  refl,
  ap (λ (roster : List Definition). record { roster = roster; state = state_left roster after.state rest others }) same ∙ ap (λ (s : State). record { roster = k.roster; state = s }) state_is,
)

-- nothing is left of no updates
pub left_none : (k : KnownState) (us : List Update) (ns : List PlannedName) → us ≡ [] → messages_left k.roster k.state us ns ≡ []
left_none k us ns none = ap (λ (l : List Update). messages_left k.roster k.state l ns) none

-- and if no message is left, no update is
pub none_left : (k : KnownState) (us : List Update) (ns : List PlannedName) → AreSendable k.roster k.state us ns → messages_left k.roster k.state us ns ≡ [] → us ≡ []
none_left k [] ns are none = refl
none_left k (u ∷ us) [] are none = absurd are
none_left k (u ∷ us) (n ∷ ns) are none = absurd (apart (selection_of (table_at k.roster u.table) k.state.received) none)
  where
    last : Message
    last = update_sent (state_ready k.roster k.state u) (planned_field u.name n) u

    rest : List Message
    rest = messages_left k.roster (state_after k.roster k.state u n) us ns

    apart : (ms : List Message) → (ms ++ last ∷ []) ++ rest ≡ [] → ⊥
    apart [] e = cc
    apart (m ∷ ms) e = cc

-- ---- the update at an index

here : {X : Type 0} (xs : List X) (i : ℕ) (x : X) → i < length xs → x ≡ get_or xs i x → drop i xs ≡ x ∷ drop (i + 1) xs
here xs i x lt is = drop_more xs i x lt ∙ ap (λ y. y ∷ drop (i + 1) xs) (sym is)

pub sendable_here : (roster : List Definition) (s : State) (us : List Update) (ns : List PlannedName) (i : ℕ) (u : Update) (none : PlannedName) → i < length us → i < length ns → u ≡ get_or us i u → AreSendable roster s (drop i us) (drop i ns) → AreSendable roster s (u ∷ drop (i + 1) us) (get_or ns i none ∷ drop (i + 1) ns)
sendable_here roster s us ns i u none lt less is are =
    subst (λ (l : List Update). AreSendable roster s l (get_or ns i none ∷ drop (i + 1) ns)) (here us i u lt is)
    (subst (λ (l : List PlannedName). AreSendable roster s (drop i us) l) (drop_more ns i none less) are)

-- the next message of this update is the first of those left
pub part_here : (roster : List Definition) (s e : State) (us : List Update) (ns : List PlannedName) (i : ℕ) (u : Update) (none : PlannedName) (m : Message) → i < length us → i < length ns → u ≡ get_or us i u → AreSendable roster s (drop i us) (drop i ns) → IsPart roster s u (get_or ns i none) false m e
    → IsFirst roster s (drop i us) (drop i ns) m e (drop i us) (drop i ns)
part_here roster s e us ns i u none m lt less is are part =
    subst (λ (l : List Update). IsFirst roster s l (drop i ns) m e l (drop i ns)) (sym (here us i u lt is))
    (subst (λ (l : List PlannedName). IsFirst roster s (u ∷ drop (i + 1) us) l m e (u ∷ drop (i + 1) us) l) (sym (drop_more ns i none less))
    (part_first roster s e u (drop (i + 1) us) (get_or ns i none) (drop (i + 1) ns) m (sendable_here roster s us ns i u none lt less is are) part))

pub whole_here : (roster : List Definition) (s e : State) (us : List Update) (ns : List PlannedName) (i : ℕ) (u : Update) (none : PlannedName) (m : Message) → i < length us → i < length ns → u ≡ get_or us i u → AreSendable roster s (drop i us) (drop i ns) → IsPart roster s u (get_or ns i none) true m e
    → IsFirst roster s (drop i us) (drop i ns) m e (drop (i + 1) us) (drop (i + 1) ns)
whole_here roster s e us ns i u none m lt less is are part =
    subst (λ (l : List Update). IsFirst roster s l (drop i ns) m e (drop (i + 1) us) (drop (i + 1) ns)) (sym (here us i u lt is))
    (subst (λ (l : List PlannedName). IsFirst roster s (u ∷ drop (i + 1) us) l m e (drop (i + 1) us) (drop (i + 1) ns)) (sym (drop_more ns i none less))
    (part_whole roster s e u (drop (i + 1) us) (get_or ns i none) (drop (i + 1) ns) m (sendable_here roster s us ns i u none lt less is are) part))
