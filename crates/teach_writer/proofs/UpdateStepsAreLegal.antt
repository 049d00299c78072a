-- What is selected for an update, that the update is sent unchanged, and that both are legal.
use Rattle.std.proofs.Common.{◌≡◌, ℕ, ◌+◌, ◌%◌, ◌^◌, ◌<◌, Bool, true, false, cond, eqb, List, [], ◌∷◌, ◌++◌, Option, Some, None, refl, sym, ap, ◌∙◌, subst, inl, inr, arith, append_assoc}
use Rattle.std.specs.Prelude.{is_some, is_none}
use Rattle.std.specs.List.{AllByRecursion}
use Rattle.std.proofs.lemmas.Bool.{cases_eq, eq-eqb, ne_eqb}
use Rattle.std.proofs.lemmas.Bool.Decides.{nat_tests}
use Rattle.std.proofs.lemmas.Grind.{flat_map-append}
use Rattle.table_types.specs.declared.update.Update.{Update}
use Rattle.table_types.specs.Tables.{Definition, is_definition}
use Rattle.table_types.specs.Updates.{fits, is_optional_word, life_fits}
use Rattle.table_types.specs.Rosters.{table_at}
use Rattle.peers_msg.specs.declared.name_field.NameField.{NameField}
use Rattle.peers_msg.specs.declared.message.Message.{Message}
use Rattle.peers_msg.specs.declared.message.Message.TheVariants as messages
use Rattle.peers_msg.specs.Received.{Received, selected_table, received_after}
use Rattle.peers_msg.specs.Spelling.{spelled, stream_of}
use Rattle.peers_msg.specs.Fitting.{update_fits, name_fits, fits as message_fits}
use Rattle.known_state.specs.State.{State, Step, Teaches, IsOwn, Legal, resolved_number, name_of, reads_empty}
use Rattle.known_state.specs.Effects.{refusal_of}
use Rattle.known_state.specs.LastNumbers.{last_of}
use Rattle.known_state.specs.Known.{KnownState, AreOwn, switch_refusal, IsTakenBy}
use Rattle.known_state.proofs.ReceivedIsOwn.{table_at-id, table_at-passes, define_selects}
use Rattle.known_state.proofs.FitsOrIsRefused.{has_id-table_at, selected-id, selected-found, update_fits_received}
use Rattle.known_state.proofs.NamedAsResolved.{named_so}
use Rattle.known_state.specs.Cost.{number_sent, sent_as}
use Rattle.known_state.proofs.BatchIsOfRoster.{row_of_fits, life_of_fits}
use Rattle.teach_writer.specs.Sending.{is_table, selection, update_sent, IsSent}

-- a received table is the roster's table of its id
pub found_is_own : (roster ds : List Definition) (id : ℕ) (t d : Definition) → AreOwn roster ds → table_at ds id ≡ Some t → table_at roster id ≡ Some d → t ≡ d
found_is_own roster ds id t d own found listed =
    let own_t : table_at roster t.id ≡ Some t = table_at-passes (λ (x : Definition). table_at roster x.id ≡ Some x) ds id t own found in
    let here : table_at roster id ≡ Some t = subst (λ (n : ℕ). table_at roster n ≡ Some t) (table_at-id ds id t found) own_t in
    let same : Some t ≡ Some d = sym here ∙ listed in
    cc

-- the selected table is the roster's table of its id
pub selected_is_own : (k : KnownState) (t d : Definition) → AreOwn k.roster k.state.received.tables → selected_table k.state.received ≡ Some t → table_at k.roster t.id ≡ Some d → t ≡ d
selected_is_own k t d own sel listed =
    let found = selected-found k.state.received t sel in
    let own_t : table_at k.roster t.id ≡ Some t = table_at-passes (λ (x : Definition). table_at k.roster x.id ≡ Some x) k.state.received.tables found.0 t own found.1 in
    let same : Some t ≡ Some d = sym own_t ∙ listed in
    cc

-- if the table of an id is selected, it is the roster's
pub retained_selected : (k : KnownState) (d : Definition) → AreOwn k.roster k.state.received.tables → table_at k.roster d.id ≡ Some d → is_table (selected_table k.state.received) d.id ≡ true → selected_table k.state.received ≡ Some d
retained_selected k d own listed is = at (selected_table k.state.received) refl
  where
    at : (o : Option Definition) → selected_table k.state.received ≡ o → selected_table k.state.received ≡ Some d
    at None e = let bad : false ≡ true = sym (rw e refl) ∙ is in cc
    at (Some t) e =
        let same_id : eqb t.id d.id ≡ true = sym (rw e refl) ∙ is in
        let ids : t.id ≡ d.id = grind (arith, nat_tests) in
        let listed_t : table_at k.roster t.id ≡ Some d = subst (λ (n : ℕ). table_at k.roster n ≡ Some d) (sym ids) listed in
        e ∙ ap (λ (x : Definition). Some x) (selected_is_own k t d own e listed_t)

-- so the selected table is the one of an id that it has
pub selected_listed : (k : KnownState) (id : ℕ) (t d : Definition) → AreOwn k.roster k.state.received.tables → selected_table k.state.received ≡ Some t → t.id ≡ id → table_at k.roster id ≡ Some d → t ≡ d
selected_listed k id t d own sel is listed = selected_is_own k t d own sel (subst (λ (n : ℕ). table_at k.roster n ≡ Some d) (sym is) listed)

-- nothing selects a table that is selected
pub selected_selection : (h : Received) (d : Definition) → selected_table h ≡ Some d → [] ≡ selection h d
selected_selection h d sel = rw (sel, eq-eqb d.id d.id refl) refl

-- a switch to a received table of the roster is a step
pub switch_taken : (k : KnownState) (d : Definition) → table_at k.roster d.id ≡ Some d → is_some (table_at k.state.received.tables d.id) ≡ true → IsTakenBy k (messages.Switch d.id)
switch_taken k d listed found = λ e refuses.
    let none : switch_refusal k d.id ≡ None = rw (has_id-table_at k.roster d.id, listed, some-not-none (table_at k.state.received.tables d.id) found) refl in
    let bad : None ≡ Some e = sym none ∙ refuses in
    cc
  where
    some-not-none : (o : Option Definition) → is_some o ≡ true → is_none o ≡ false
    some-not-none None h = cc
    some-not-none (Some x) h = refl

-- after it, that table is selected
pub switch_selects : (roster : List Definition) (h : Received) (d : Definition) → AreOwn roster h.tables → table_at roster d.id ≡ Some d → is_some (table_at h.tables d.id) ≡ true → selected_table (received_after h (messages.Switch d.id)) ≡ Some d
switch_selects roster h d own listed found = at (table_at h.tables d.id) refl
  where
    at : (o : Option Definition) → table_at h.tables d.id ≡ o → table_at h.tables d.id ≡ Some d
    at None e = let bad : false ≡ true = sym (rw e refl) ∙ found in cc
    at (Some t) e = e ∙ ap (λ (x : Definition). Some x) (found_is_own roster h.tables d.id t d own e listed)

-- the roster's own definition is a step
pub define_taken : (k : KnownState) (d : Definition) → table_at k.roster d.id ≡ Some d → IsTakenBy k (messages.Define d)
define_taken k d listed = λ e refuses. refuses.0 listed

-- the number sent resolves to the update's number
pub sent_resolved : (last : Option ℕ) (number : ℕ) → resolved_number (number_sent last number) last ≡ Some number
sent_resolved None number = refl
sent_resolved (Some last) number = elim (cases_eq ((last + 1) % 2 ^ 32) number) [
  | inl same ↦ rw (eq-eqb ((last + 1) % 2 ^ 32) number same) (ap (λ (n : ℕ). Some n) same)
  | inr other ↦ rw (ne_eqb ((last + 1) % 2 ^ 32) number other) refl
]

-- a life that fits a table is below 2^32
life_word : (d : Definition) (life : Option ℕ) → d.expire < 2 ^ 32 → life_fits d life ≡ true → is_optional_word life ≡ true
life_word d None small fit = refl
life_word d (Some n) small fit = grind (arith, nat_tests)

expire_small : (d : Definition) → is_definition d ≡ true → d.expire < 2 ^ 32
expire_small d is = grind (arith, nat_tests)

-- an update fits as it is sent if its name field does
pub sent_fits : (last : Option ℕ) (field : NameField) (d : Definition) (u : Update) → is_definition d ≡ true → name_fits d field ≡ true → fits d u ≡ true → is_optional_word (number_sent last u.number) ≡ true → update_fits d (sent_as last field u) ≡ true
sent_fits last field d u is field_fits fit word = rw (word, life_word d u.life (expire_small d is) (life_of_fits d u fit), row_of_fits d u fit, field_fits) refl

-- and then it fits if its table is selected
pub sent_fits_received : (h : Received) (d : Definition) (u : Update) (last : Option ℕ) (field : NameField) → selected_table h ≡ Some d → is_definition d ≡ true → name_fits d field ≡ true → fits d u ≡ true → is_optional_word (number_sent last u.number) ≡ true → message_fits h (messages.Update (sent_as last field u)) ≡ true
sent_fits_received h d u last field sel is field_fits fit word = update_fits_received h (sent_as last field u) d sel (sent_fits last field d u is field_fits fit word) is

-- it isn't refused if it reads no empty slot
pub sent_unrefused : (s : State) (d : Definition) (u : Update) (last : Option ℕ) (field : NameField) → last ≡ last_of s.last_numbers d.id → selected_table s.received ≡ Some d → reads_empty s.slots field ≡ false → refusal_of s (number_sent last u.number) field ≡ None
sent_unrefused s d u last field is_last sel reads =
    let resolved_here : resolved_number (number_sent last u.number) (last_of s.last_numbers d.id) ≡ Some u.number = subst (λ (l : Option ℕ). resolved_number (number_sent last u.number) l ≡ Some u.number) is_last (sent_resolved last u.number) in
    rw (selected-id s.received d sel, resolved_here, reads) refl

-- and carries exactly the update
pub sent_carries : (s : State) (d : Definition) (u : Update) (last : Option ℕ) (field : NameField) (us : List Update) (e : State) → last ≡ last_of s.last_numbers d.id → selected_table s.received ≡ Some d → u.table ≡ d.id → name_of s.slots field ≡ u.name → Step s (messages.Update (sent_as last field u)) us e → us ≡ u ∷ []
sent_carries s d u last field us e is_last sel table_of is_name (fit, table, on_table, number, is_number, name, named, carried, received, last_numbers) =
    let same_table : Some d.id ≡ Some table = sym (selected-id s.received d sel) ∙ on_table in
    let id_is : d.id ≡ table = cc in
    let last_is : last_of s.last_numbers table ≡ last = sym (subst (λ (n : ℕ). last ≡ last_of s.last_numbers n) id_is is_last) in
    let numbers : Some u.number ≡ Some number = sym (sent_resolved last u.number) ∙ ap (λ (l : Option ℕ). resolved_number (number_sent last u.number) l) (sym last_is) ∙ is_number in
    let number_is : u.number ≡ number = cc in
    let table_is : table ≡ u.table = sym id_is ∙ sym table_of in
    let name_is : name ≡ u.name = (named_so s.slots field name e.slots named).1 ∙ is_name in
    carried ∙ rw (table_is, ← number_is, name_is) refl

-- legal messages one after another are legal, and carry what each part carries
teaches-append : (a b : List Message) (s m e : State) (us vs : List Update) → Teaches s a us m → Teaches m b vs e → Teaches s (a ++ b) (us ++ vs) e
teaches-append [] b s m e us vs (none, same) second =
    let moved : Teaches s b vs e = subst (λ (x : State). Teaches x b vs e) same second in
    subst (λ (x : List Update). Teaches s b (x ++ vs) e) (sym none) moved
teaches-append (x ∷ xs) b s m e us vs (one, rest, mid, is, step, later) second =
    (one, rest ++ vs, mid, ap (λ (l : List Update). l ++ vs) is ∙ append_assoc one rest vs, step, teaches-append xs b mid m e rest vs later second)

own-append : (roster : List Definition) (a b : List Message) → AllByRecursion (IsOwn roster) a → AllByRecursion (IsOwn roster) b → AllByRecursion (IsOwn roster) (a ++ b)
own-append roster [] b first second = second
own-append roster (x ∷ xs) b first second = (first.0, own-append roster xs b first.1 second)

pub legal-append : (roster : List Definition) (a b : List Message) (s m e : State) (us vs : List Update) → Legal roster s a us m → Legal roster m b vs e → Legal roster s (a ++ b) (us ++ vs) e
legal-append roster a b s m e us vs first second = (own-append roster a b first.0 second.0, teaches-append a b s m e us vs first.1 second.1)

-- one message
pub legal-one : (roster : List Definition) (m : Message) (s e : State) (us : List Update) → IsOwn roster m → Step s m us e → Legal roster s (m ∷ []) us e
legal-one roster m s e us own step = ((own, tt), (us, [], e, sym (append-none us), step, (refl, refl)))
  where
    append-none : (xs : List Update) → xs ++ [] ≡ xs
    append-none [] = refl
    append-none (x ∷ xs) = ap (λ (l : List Update). x ∷ l) (append-none xs)

-- what selects a table of the roster is the roster's own
pub own_selection : (roster : List Definition) (h : Received) (d : Definition) → table_at roster d.id ≡ Some d → AllByRecursion (IsOwn roster) (selection h d)
own_selection roster h d listed = by (is_table (selected_table h) d.id) (is_some (table_at h.tables d.id))
  where
    by : (a b : Bool) → AllByRecursion (IsOwn roster) (cond a [] (cond b (messages.Switch d.id ∷ []) (messages.Define d ∷ [])))
    by true b = tt
    by false true = (tt, tt)
    by false false = (listed, tt)

-- selecting a table of the roster is legal
pub selection_taken : (k : KnownState) (d : Definition) (m : Message) → AreOwn k.roster k.state.received.tables → table_at k.roster d.id ≡ Some d → m ∷ [] ≡ selection k.state.received d → IsTakenBy k m
selection_taken k d m own listed is = at (is_table (selected_table k.state.received) d.id) refl (is_some (table_at k.state.received.tables d.id)) refl
  where
    at : (a : Bool) → is_table (selected_table k.state.received) d.id ≡ a → (b : Bool) → is_some (table_at k.state.received.tables d.id) ≡ b → IsTakenBy k m
    at true e b f = let bad : m ∷ [] ≡ [] = is ∙ rw e refl in cc
    at false e true f = let same : m ∷ [] ≡ messages.Switch d.id ∷ [] = is ∙ rw (e, f) refl in let one : messages.Switch d.id ≡ m = cc in subst (λ (x : Message). IsTakenBy k x) one (switch_taken k d listed f)
    at false e false f = let same : m ∷ [] ≡ messages.Define d ∷ [] = is ∙ rw (e, f) refl in let one : messages.Define d ≡ m = cc in subst (λ (x : Message). IsTakenBy k x) one (define_taken k d listed)

-- it carries nothing, and afterwards the table is selected
pub selection_selects : (k : KnownState) (d : Definition) (m : Message) (us : List Update) (e : State) → AreOwn k.roster k.state.received.tables → table_at k.roster d.id ≡ Some d → m ∷ [] ≡ selection k.state.received d → Step k.state m us e → (us ≡ []) × (selected_table e.received ≡ Some d)
selection_selects k d m us e own listed is step = at (is_table (selected_table k.state.received) d.id) refl (is_some (table_at k.state.received.tables d.id)) refl
  where
    switched : is_some (table_at k.state.received.tables d.id) ≡ true → Step k.state (messages.Switch d.id) us e → (us ≡ []) × (selected_table e.received ≡ Some d)
    switched f (fit, none, after) = (none, subst (λ (s : State). selected_table s.received ≡ Some d) (sym after) (switch_selects k.roster k.state.received d own listed f))

    defined_so : Step k.state (messages.Define d) us e → (us ≡ []) × (selected_table e.received ≡ Some d)
    defined_so (fit, none, after) = (none, subst (λ (s : State). selected_table s.received ≡ Some d) (sym after) (define_selects k.state.received d))

    at : (a : Bool) → is_table (selected_table k.state.received) d.id ≡ a → (b : Bool) → is_some (table_at k.state.received.tables d.id) ≡ b → (us ≡ []) × (selected_table e.received ≡ Some d)
    at true h b f = let bad : m ∷ [] ≡ [] = is ∙ rw h refl in absurd (cc)
    at false h true f = let same : m ∷ [] ≡ messages.Switch d.id ∷ [] = is ∙ rw (h, f) refl in let one : m ≡ messages.Switch d.id = cc in switched f (subst (λ (x : Message). Step k.state x us e) one step)
    at false h false f = let same : m ∷ [] ≡ messages.Define d ∷ [] = is ∙ rw (h, f) refl in let one : m ≡ messages.Define d = cc in defined_so (subst (λ (x : Message). Step k.state x us e) one step)

-- if nothing needs to select it, it is selected already
pub selection_none : (k : KnownState) (d : Definition) → AreOwn k.roster k.state.received.tables → table_at k.roster d.id ≡ Some d → [] ≡ selection k.state.received d → selected_table k.state.received ≡ Some d
selection_none k d own listed is = at (is_table (selected_table k.state.received) d.id) refl (is_some (table_at k.state.received.tables d.id)) refl
  where
    at : (a : Bool) → is_table (selected_table k.state.received) d.id ≡ a → (b : Bool) → is_some (table_at k.state.received.tables d.id) ≡ b → selected_table k.state.received ≡ Some d
    at true e b f = retained_selected k d own listed e
    at false e true f = let bad : [] ≡ messages.Switch d.id ∷ [] = is ∙ rw (e, f) refl in cc
    at false e false f = let bad : [] ≡ messages.Define d ∷ [] = is ∙ rw (e, f) refl in cc

-- the bytes of one message
pub stream-one : (m : Message) → stream_of (m ∷ []) ≡ spelled m
stream-one m = append-nothing (spelled m)
  where
    append-nothing : (xs : List ℕ) → xs ++ [] ≡ xs
    append-nothing [] = refl
    append-nothing (x ∷ xs) = ap (λ (l : List ℕ). x ∷ l) (append-nothing xs)

-- a table of the roster is found there under its own id
pub listed_by_id : (roster : List Definition) (id : ℕ) (d : Definition) → table_at roster id ≡ Some d → table_at roster d.id ≡ Some d
listed_by_id roster id d listed = subst (λ (n : ℕ). table_at roster n ≡ Some d) (sym (table_at-id roster id d listed)) listed

-- the bytes of messages one after another
pub stream-append : (a b : List Message) → stream_of (a ++ b) ≡ stream_of a ++ stream_of b
stream-append a b = flat_map-append spelled a b

-- ---- what is sent

-- what sends one update is legal, and carries it
pub sent_legal : (roster : List Definition) (s e : State) (u : Update) (field : NameField) (ms : List Message) → IsSent roster s u field ms e → Legal roster s ms (u ∷ []) e
sent_legal roster s e u field ms (d, mid, listed, chosen, step, is) =
    let m : Message = update_sent mid field u in
    let by_id : table_at roster d.id ≡ Some d = listed_by_id roster u.table d listed in
    subst (λ (l : List Message). Legal roster s l (u ∷ []) e) (sym is) (legal-append roster (selection s.received d) (m ∷ []) s mid e [] (u ∷ []) (own_selection roster s.received d by_id, chosen) (legal-one roster m mid e (u ∷ []) tt step))

-- these bytes spell messages that are legal from s, carry these updates and lead to e
abbrev pub SpellsLegal : List Definition → State → List ℕ → List Update → State → Type 0
SpellsLegal roster s bytes us e = (ms : List Message) × (bytes ≡ stream_of ms) × Legal roster s ms us e

pub legal_start : (roster : List Definition) (s : State) → SpellsLegal roster s [] [] s
legal_start roster s = ([], refl, (tt, (refl, refl)))

-- and one more update
pub legal_more : (roster : List Definition) (s mid e : State) (bytes more : List ℕ) (us : List Update) (u : Update) (field : NameField) (first : List Message) → SpellsLegal roster s bytes us mid → IsSent roster mid u field first e → more ≡ bytes ++ stream_of first → SpellsLegal roster s more (us ++ u ∷ []) e
legal_more roster s mid e bytes more us u field first (ms, is, legal) sent grown =
    (ms ++ first, grown ∙ ap (λ (l : List ℕ). l ++ stream_of first) is ∙ sym (stream-append ms first), legal-append roster ms first s mid e us (u ∷ []) legal (sent_legal roster mid e u field first sent))
