-- A learner's state follows the updates that it puts.
use Rattle.std.proofs.Common.{◌≡◌, ℕ, ◌+◌, ◌%◌, ◌^◌, ◌<◌, Bool, true, false, ◌&&◌, cond, eqb, List, [], ◌∷◌, ◌++◌, length, Option, Some, None, refl, sym, ap, subst, ◌∙◌, ◌⊎◌, inl, inr, arith, append_assoc, append-nil}
use Rattle.std.specs.Prelude.{filter, fold, is_some, nat_le, nat_lt}
use Rattle.std.specs.List.{AllByRecursion}
use Rattle.std.specs.Option.{option_and_then}
use Rattle.std.proofs.lemmas.Bool.{and_parts, cases_eq, eq-eqb, ltb-true, ne_eqb}
use Rattle.std.proofs.lemmas.List.Sums.{fold-append}
use Rattle.table_types.specs.declared.update.Update.{Update}
use Rattle.table_types.specs.Rosters.{is_same_name, repeats_name, table_at}
use Rattle.table_types.specs.Tables.{Definition, is_definition}
use Rattle.table_types.specs.Updates.{is_optional_word, row_fits}
use Rattle.peers_msg.specs.declared.message.Message.{Message}
use Rattle.peers_msg.specs.declared.message.Message.TheVariants as messages
use Rattle.peers_msg.specs.Fitting.{fits, name_fits}
use Rattle.peers_msg.specs.Messages.{UpdateFields, most_data}
use Rattle.peers_msg.specs.Received.{AreDistinct, Received, defined, insert_table, outlives, received_after, selected_table}
use Rattle.peers_msg.specs.Spelling.{data_of}
use Rattle.peers_msg.proofs.ReceivedTablesRise.{distinct-received}
use Rattle.known_state.specs.Known.{AreOwn}
use Rattle.known_state.specs.LastNumbers.{keeps_last, last_of}
use Rattle.known_state.specs.State.{IsOwn, State, Step, Teaches, resolved_number}
use Rattle.known_state.proofs.KnowingMoreCostsLess.{last-filter, last-kept, last-put}
use Rattle.known_state.proofs.ReceivedIsOwn.{define_selects, table_at-id, table_at-passes}
use Rattle.known_state.proofs.RefusedIsNoStep.{selection}
use Rattle.known_state.proofs.RosterNamesDiffer.{name_itself, still_received, two_names}
use Rattle.known_state.proofs.TeacherAndLearnerInStep.{own_stays}
use Rattle.interleave_core.specs.Sound.{IsStateAfter, number_after}

-- only tables that are received have a last number
abbrev HasReceived : State → Type 0
HasReceived s = (id : ℕ) → is_some (last_of s.last_numbers id) ≡ true → is_some (table_at s.received.tables id) ≡ true

-- ---- definitions

-- a received table's last number outlives the roster's own definitions
keeps : (roster : List Definition) (d x : Definition) (ds : List Definition) (id : ℕ) → repeats_name roster ≡ false → AreOwn roster ds → table_at roster d.id ≡ Some d → table_at ds id ≡ Some x
    → keeps_last d (table_at ds id) id ≡ true
keeps roster d x ds id once own is found =
    let own_x : table_at roster x.id ≡ Some x = table_at-passes (λ (t : Definition). table_at roster t.id ≡ Some t) ds id x own found in
    let named : x.id ≡ id = table_at-id ds id x found in
    elim (cases_eq id d.id) [
      | inl same ↦
          let there : table_at roster d.id ≡ Some x = subst (λ (n : ℕ). table_at roster n ≡ Some x) (named ∙ same) own_x in
          let both : Some d ≡ Some x = sym is ∙ there in
          let one : d ≡ x = cc in
          rw (found, eq-eqb id d.id same) (subst (λ (t : Definition). is_same_name t.name d.name ≡ true) one (name_itself d.name))
      | inr other ↦ rw (found, ne_eqb id d.id other, two_names roster x d once own_x is (λ e. other (sym named ∙ e))) refl
    ]

-- so the roster's own definition leaves the last number of each id
define_leaves : (roster : List Definition) (s : State) (d : Definition) (id : ℕ) → repeats_name roster ≡ false → AreOwn roster s.received.tables → table_at roster d.id ≡ Some d → HasReceived s
    → last_of (filter (λ l. keeps_last d (table_at s.received.tables l.0) l.0) s.last_numbers) id ≡ last_of s.last_numbers id
define_leaves roster s d id once own is has = at (last_of s.last_numbers id) refl
  where
    kept : ℕ → Bool
    kept n = keeps_last d (table_at s.received.tables n) n

    stays : (o : Option Definition) → table_at s.received.tables id ≡ o → is_some o ≡ true → last_of (filter (λ l. kept l.0) s.last_numbers) id ≡ last_of s.last_numbers id
    stays None e h = let bad : false ≡ true = h in cc
    stays (Some x) e h = last-kept kept s.last_numbers id (keeps roster d x s.received.tables id once own is e)

    at : (o : Option ℕ) → last_of s.last_numbers id ≡ o → last_of (filter (λ l. kept l.0) s.last_numbers) id ≡ last_of s.last_numbers id
    at None e = elim (last-filter kept s.last_numbers id) [ inl same ↦ same | inr none ↦ none ∙ sym e ]
    at (Some n) e = stays (table_at s.received.tables id) refl (has id (ap (λ (o : Option ℕ). is_some o) e))

-- ---- one step

turned : (a b : ℕ) → eqb a b ≡ eqb b a
turned a b = elim (cases_eq a b) [
  | inl same ↦ rw (eq-eqb a b same, eq-eqb b a (sym same)) refl
  | inr other ↦ rw (ne_eqb a b other, ne_eqb b a (λ e. other (sym e))) refl
]

-- a step that carries nothing and leaves the last numbers
quiet : (s e : State) (us : List Update) (id : ℕ) → us ≡ [] → last_of e.last_numbers id ≡ last_of s.last_numbers id → last_of e.last_numbers id ≡ fold (number_after id) (last_of s.last_numbers id) us
quiet s e us id none same = same ∙ ap (λ (vs : List Update). fold (number_after id) (last_of s.last_numbers id) vs) (sym none)

-- a table's last number after a step is that of the update that the step carries, if it is one of the table
last_steps : (roster : List Definition) (s e : State) (m : Message) (us : List Update) (id : ℕ) → repeats_name roster ≡ false → AreOwn roster s.received.tables → IsOwn roster m → HasReceived s → Step s m us e
    → last_of e.last_numbers id ≡ fold (number_after id) (last_of s.last_numbers id) us
last_steps roster s e (messages.Update u) us id once own is has step =
    ap (λ (ls : List (ℕ × ℕ)). last_of ls id) step.9
    ∙ last-put step.1 step.3 s.last_numbers id
    ∙ ap (λ (b : Bool). cond b (Some step.3) (last_of s.last_numbers id)) (turned id step.1)
    ∙ ap (λ (vs : List Update). fold (number_after id) (last_of s.last_numbers id) vs) (sym step.7)
last_steps roster s e (messages.Define d) us id once own is has step =
    quiet s e us id step.1 (ap (λ (x : State). last_of x.last_numbers id) step.2 ∙ define_leaves roster s d id once own is has)
last_steps roster s e (messages.Control c) us id once own is has step = quiet s e us id step.1 (ap (λ (x : State). last_of x.last_numbers id) step.2)
last_steps roster s e (messages.Error k) us id once own is has step = quiet s e us id step.1 (ap (λ (x : State). last_of x.last_numbers id) step.2)
last_steps roster s e (messages.Switch to) us id once own is has step = quiet s e us id step.1 (ap (λ (x : State). last_of x.last_numbers id) step.2)
last_steps roster s e (messages.Ack table number) us id once own is has step = quiet s e us id step.1 (ap (λ (x : State). last_of x.last_numbers id) step.2)
last_steps roster s e (messages.Other o) us id once own is has step = quiet s e us id step.1 (ap (λ (x : State). last_of x.last_numbers id) step.2)

-- a step that changes neither the tables nor the last numbers
same_received : (s e : State) → e.received.tables ≡ s.received.tables → e.last_numbers ≡ s.last_numbers → HasReceived s → HasReceived e
same_received s e tables numbers has id is =
    ap (λ (ds : List Definition). is_some (table_at ds id)) tables ∙ has id (ap (λ (ls : List (ℕ × ℕ)). is_some (last_of ls id)) (sym numbers) ∙ is)

-- only received tables have a last number after a step
received_steps : (roster : List Definition) (s e : State) (m : Message) (us : List Update) → repeats_name roster ≡ false → AreOwn roster s.received.tables → IsOwn roster m → HasReceived s → Step s m us e → HasReceived e
received_steps roster s e (messages.Update u) us once own is has step id last =
    ap (λ (h : Received). is_some (table_at h.tables id)) step.8 ∙ there (cases_eq id step.1)
  where
    was : (id ≡ step.1 → ⊥) → last_of e.last_numbers id ≡ last_of s.last_numbers id
    was other = ap (λ (ls : List (ℕ × ℕ)). last_of ls id) step.9 ∙ last-put step.1 step.3 s.last_numbers id ∙ rw (ne_eqb id step.1 other) refl

    selected : table_at s.received.tables step.1 ≡ Some (selection s.received u step.0).0
    selected = ap (λ (o : Option ℕ). option_and_then (table_at s.received.tables) o) (sym step.2) ∙ (selection s.received u step.0).1

    there : (id ≡ step.1) ⊎ (id ≡ step.1 → ⊥) → is_some (table_at s.received.tables id) ≡ true
    there (inl same) = subst (λ (n : ℕ). is_some (table_at s.received.tables n) ≡ true) (sym same) (ap (λ (o : Option Definition). is_some o) selected)
    there (inr other) = has id (ap (λ (o : Option ℕ). is_some o) (sym (was other)) ∙ last)
received_steps roster s e (messages.Define d) us once own is has step id last =
    ap (λ (x : State). is_some (table_at x.received.tables id)) step.2 ∙ there (cases_eq id d.id)
  where
    before : is_some (last_of s.last_numbers id) ≡ true
    before = ap (λ (o : Option ℕ). is_some o) (sym (ap (λ (x : State). last_of x.last_numbers id) step.2 ∙ define_leaves roster s d id once own is has)) ∙ last

    there : (id ≡ d.id) ⊎ (id ≡ d.id → ⊥) → is_some (table_at (defined d s.received.tables) id) ≡ true
    there (inl same) = subst (λ (n : ℕ). is_some (table_at (defined d s.received.tables) n) ≡ true) (sym same) (ap (λ (o : Option Definition). is_some o) (define_selects s.received d))
    there (inr other) = still_received roster d s.received.tables id once is own other (has id before)
received_steps roster s e (messages.Control c) us once own is has step id last =
    same_received s e (ap (λ (x : State). x.received.tables) step.2) (ap (λ (x : State). x.last_numbers) step.2) has id last
received_steps roster s e (messages.Error k) us once own is has step id last =
    same_received s e (ap (λ (x : State). x.received.tables) step.2) (ap (λ (x : State). x.last_numbers) step.2) has id last
received_steps roster s e (messages.Switch to) us once own is has step id last =
    same_received s e (ap (λ (x : State). x.received.tables) step.2) (ap (λ (x : State). x.last_numbers) step.2) has id last
received_steps roster s e (messages.Ack table number) us once own is has step id last =
    same_received s e (ap (λ (x : State). x.received.tables) step.2) (ap (λ (x : State). x.last_numbers) step.2) has id last
received_steps roster s e (messages.Other o) us once own is has step id last =
    same_received s e (ap (λ (x : State). x.received.tables) step.2) (ap (λ (x : State). x.last_numbers) step.2) has id last

-- ---- numbers have 32 bits

first_of : (a b c d e : Bool) → (a && b && c && d && e) ≡ true → a ≡ true
first_of true b c d e h = refl
first_of false b c d e h = let bad : false ≡ true = h in cc

-- the number that is sent with an update that fits
sent_word : (h : Received) (u : UpdateFields) → fits h (messages.Update u) ≡ true → is_optional_word u.number ≡ true
unfolding fits
sent_word h u fit = at (selected_table h) refl
  where
    at : (o : Option Definition) → selected_table h ≡ o → is_optional_word u.number ≡ true
    at None e = let bad : false ≡ true = sym (rw e refl) ∙ fit in cc
    at (Some d) e =
        let here : (is_optional_word u.number && is_optional_word u.life && row_fits d u.key u.values && name_fits d u.name && nat_le (length (data_of (messages.Update u))) most_data) ≡ true = sym (rw e refl) ∙ fit in
        first_of (is_optional_word u.number) (is_optional_word u.life) (row_fits d u.key u.values) (name_fits d u.name) (nat_le (length (data_of (messages.Update u))) most_data) here

-- the number that an update resolves to
resolved_small : (sent last : Option ℕ) (number : ℕ) → is_optional_word sent ≡ true → resolved_number sent last ≡ Some number → number < 2 ^ 32
resolved_small (Some n) last number word is =
    let here : Some n ≡ Some number = is in
    let same : n ≡ number = cc in
    subst (λ (k : ℕ). k < 2 ^ 32) same (ltb-true n (2 ^ 32) word)
resolved_small None (Some last) number word is =
    let here : Some ((last + 1) % 2 ^ 32) ≡ Some number = is in
    let same : (last + 1) % 2 ^ 32 ≡ number = cc in
    omega arith
resolved_small None None number word is = let bad : None ≡ Some number = is in absurd cc

-- every last number is below 2^32
abbrev AreSmall : State → Type 0
AreSmall s = (id number : ℕ) → last_of s.last_numbers id ≡ Some number → number < 2 ^ 32

small_steps : (roster : List Definition) (s e : State) (m : Message) (us : List Update) → repeats_name roster ≡ false → AreOwn roster s.received.tables → IsOwn roster m → HasReceived s → AreSmall s → Step s m us e → AreSmall e
small_steps roster s e (messages.Update u) us once own is has small step id number last = by (eqb id step.1) (sym put ∙ last)
  where
    put : last_of e.last_numbers id ≡ cond (eqb id step.1) (Some step.3) (last_of s.last_numbers id)
    put = ap (λ (ls : List (ℕ × ℕ)). last_of ls id) step.9 ∙ last-put step.1 step.3 s.last_numbers id

    by : (b : Bool) → cond b (Some step.3) (last_of s.last_numbers id) ≡ Some number → number < 2 ^ 32
    by true h =
        let here : Some step.3 ≡ Some number = h in
        let same : step.3 ≡ number = cc in
        subst (λ (n : ℕ). n < 2 ^ 32) same (resolved_small u.number (last_of s.last_numbers step.1) step.3 (sent_word s.received u step.0) step.4)
    by false h = small id number h
small_steps roster s e (messages.Define d) us once own is has small step id number last =
    small id number (sym (ap (λ (x : State). last_of x.last_numbers id) step.2 ∙ define_leaves roster s d id once own is has) ∙ last)
small_steps roster s e (messages.Control c) us once own is has small step id number last = small id number (ap (λ (x : State). last_of x.last_numbers id) (sym step.2) ∙ last)
small_steps roster s e (messages.Error k) us once own is has small step id number last = small id number (ap (λ (x : State). last_of x.last_numbers id) (sym step.2) ∙ last)
small_steps roster s e (messages.Switch to) us once own is has small step id number last = small id number (ap (λ (x : State). last_of x.last_numbers id) (sym step.2) ∙ last)
small_steps roster s e (messages.Ack table n) us once own is has small step id number last = small id number (ap (λ (x : State). last_of x.last_numbers id) (sym step.2) ∙ last)
small_steps roster s e (messages.Other o) us once own is has small step id number last = small id number (ap (λ (x : State). last_of x.last_numbers id) (sym step.2) ∙ last)

-- ---- tables received

abbrev AreValid : List Definition → Type 0
AreValid ds = AllByRecursion (λ d. is_definition d ≡ true) ds

valid_filter : (p : Definition → Bool) (ds : List Definition) → AreValid ds → AreValid (filter p ds)
valid_filter p [] all = tt
valid_filter p (d ∷ ds) all =
    let others = valid_filter p ds all.1 in
    elim (p d) as (λ b. AreValid (cond b (d ∷ filter p ds) (filter p ds))) [ true ↦ (all.0, others) | false ↦ others ]

valid_put : (d : Definition) (ds : List Definition) → is_definition d ≡ true → AreValid ds → AreValid (insert_table d ds)
valid_put d [] is all = (is, tt)
valid_put d (x ∷ xs) is all =
    elim (nat_lt d.id x.id) as (λ b. AreValid (cond b (d ∷ (x ∷ xs)) (x ∷ insert_table d xs))) [ true ↦ (is, all) | false ↦ (all.0, valid_put d xs is all.1) ]

define_valid : (h : Received) (d : Definition) → fits h (messages.Define d) ≡ true → is_definition d ≡ true
unfolding fits
define_valid h d fit = (and_parts (is_definition d) (nat_le (length (data_of (messages.Define d))) most_data) fit).0

valid_steps : (s e : State) (m : Message) (us : List Update) → AreValid s.received.tables → Step s m us e → AreValid e.received.tables
valid_steps s e (messages.Update u) us all step = subst (λ (h : Received). AreValid h.tables) (sym step.8) all
valid_steps s e (messages.Define d) us all step =
    subst (λ (x : State). AreValid x.received.tables) (sym step.2) (valid_put d (filter (outlives d) s.received.tables) (define_valid s.received d step.0) (valid_filter (outlives d) s.received.tables all))
valid_steps s e (messages.Control c) us all step = subst (λ (x : State). AreValid x.received.tables) (sym step.2) all
valid_steps s e (messages.Error k) us all step = subst (λ (x : State). AreValid x.received.tables) (sym step.2) all
valid_steps s e (messages.Switch to) us all step = subst (λ (x : State). AreValid x.received.tables) (sym step.2) all
valid_steps s e (messages.Ack table number) us all step = subst (λ (x : State). AreValid x.received.tables) (sym step.2) all
valid_steps s e (messages.Other o) us all step = subst (λ (x : State). AreValid x.received.tables) (sym step.2) all

-- what is received after a step
received_is : (s e : State) (m : Message) (us : List Update) → Step s m us e → e.received ≡ received_after s.received m
received_is s e (messages.Update u) us step = step.8
received_is s e (messages.Define d) us step = ap (λ (x : State). x.received) step.2
received_is s e (messages.Control c) us step = ap (λ (x : State). x.received) step.2
received_is s e (messages.Error k) us step = ap (λ (x : State). x.received) step.2
received_is s e (messages.Switch to) us step = ap (λ (x : State). x.received) step.2
received_is s e (messages.Ack table number) us step = ap (λ (x : State). x.received) step.2
received_is s e (messages.Other o) us step = ap (λ (x : State). x.received) step.2

-- ---- the state after updates

one_follows : (roster : List Definition) (before us : List Update) (s e : State) (m : Message) → repeats_name roster ≡ false → AreOwn roster s.received.tables → IsOwn roster m → IsStateAfter before s → Step s m us e
    → IsStateAfter (before ++ us) e
one_follows roster before us s e m once own is after step =
    record {
      distinct = subst (λ (h : Received). AreDistinct h.tables) (sym (received_is s e m us step)) (distinct-received s.received m after.distinct);
      valid = valid_steps s e m us after.valid step;
      last = λ id.
          last_steps roster s e m us id once own is after.received step
          ∙ ap (λ (o : Option ℕ). fold (number_after id) o us) (after.last id)
          ∙ sym (fold-append (number_after id) None before us);
      small = small_steps roster s e m us once own is after.received after.small step;
      received = received_steps roster s e m us once own is after.received step;
    }

-- messages that are the roster's own carry the state on
pub follows : (roster : List Definition) (ms : List Message) (before us : List Update) (s e : State) → repeats_name roster ≡ false → AreOwn roster s.received.tables → AllByRecursion (IsOwn roster) ms → IsStateAfter before s → Teaches s ms us e
    → IsStateAfter (before ++ us) e
follows roster [] before us s e once own all after (none, here) =
    let same : before ≡ before ++ us = sym (append-nil before) ∙ ap (λ (xs : List Update). before ++ xs) (sym none) in
    subst (λ (x : State). IsStateAfter (before ++ us) x) (sym here) (subst (λ (xs : List Update). IsStateAfter xs s) same after)
follows roster (m ∷ ms) before us s e once own (is, all) after (one, rest, mid, joined, step, later) =
    let next = one_follows roster before one s mid m once own is after step in
    let owns = own_stays roster s mid m one own is step in
    let whole : (before ++ one) ++ rest ≡ before ++ us = append_assoc before one rest ∙ ap (λ (xs : List Update). before ++ xs) (sym joined) in
    subst (λ (xs : List Update). IsStateAfter xs e) whole (follows roster ms (before ++ one) rest mid e once owns all next later)
