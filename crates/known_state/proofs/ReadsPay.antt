-- Which requests a legal list reads, and what the reads save.
use Rattle.std.proofs.Common.{◌≡◌, ℕ, ◌+◌, ◌-◌, ◌≤◌, Bool, true, false, cond, eqb, List, [], ◌∷◌, ◌++◌, length, Option, Some, None, refl, sym, ap, ◌∙◌, subst, inl, inr, arith, length-append, append_assoc}
use Rattle.std.specs.Prelude.{is_some, filter, flat_map}
use Rattle.std.specs.List.{AllByRecursion}
use Rattle.std.proofs.lemmas.Bool.{cases_eq, eq-eqb, ne_eqb}
use Rattle.peers_encint.specs.Integers.{spelling}
use Rattle.peers_encint.proofs.OneSpelling as integers
use Rattle.table_types.specs.declared.key.Key.{Key}
use Rattle.table_types.specs.declared.update.Value.{Value}
use Rattle.table_types.specs.declared.update.Update.{Update}
use Rattle.table_types.specs.Tables.{Definition}
use Rattle.table_types.specs.Rosters.{table_at, is_same_name, repeats_name, roster_fault}
use Rattle.peers_msg.specs.declared.name_field.NameField.{NameField}
use Rattle.peers_msg.specs.declared.name_field.NameField.TheVariants as names
use Rattle.peers_msg.specs.declared.message.Message.{Message}
use Rattle.peers_msg.specs.declared.message.Message.TheVariants as messages
use Rattle.peers_msg.specs.Messages.{UpdateFields}
use Rattle.peers_msg.specs.Received.{Received, received_after, defined, selected_table}
use Rattle.peers_msg.specs.Spelling.{size_of, size_of_all, spelled, counted, update_type, update_text, optional_word, key_text, value_text, name_text}
use Rattle.known_state.specs.State.{State, Step, Teaches, Named, IsOwn, Legal, resolved}
use Rattle.known_state.specs.LastNumbers.{keeps_last, last_of, set_last}
use Rattle.known_state.specs.Known.{AreOwn}
use Rattle.known_state.specs.Cost.{Knowledge, knowledge_of, knowledge_after, sent_as, number_sent, written_cost, written_field, is_named_table, is_held, saving, full, IsOfRoster, Saves}
use Rattle.known_state.specs.Requests.{Asked, held_cost, asked, requests_of, mark_of, reads_of, read_savings}
use Rattle.known_state.proofs.CostsAddUp.{knowledge_after_all}
use Rattle.known_state.proofs.ReceivedIsOwn.{table_at-id, table_at-passes, define_selects}
use Rattle.known_state.proofs.RosterNamesDiffer.{name_itself, roster_names, still_received, two_names}
use Rattle.known_state.proofs.RefusedIsNoStep.{selection}
use Rattle.known_state.proofs.FitsOrIsRefused.{selected-id, selected-found}
use Rattle.known_state.proofs.KnowingMoreCostsLess.{framed_longer, found_before, last-dropped, last-kept, last-put}
use Rattle.known_state.proofs.StepPays.{is_there, moved_last, own_stays}
use Rattle.known_state.proofs.FullIsCost.{list_pays_full}

-- ---- last numbers, as the state has them and as the updates so far leave them

-- the last number of each id is the same
abbrev HaveSameLastNumbers : Knowledge → Knowledge → Type 0
HaveSameLastNumbers one other = (id : ℕ) → one.last id ≡ other.last id

-- a received table is the roster's table of its id
pub received_is_own : (roster ds : List Definition) (id : ℕ) (t : Definition) → AreOwn roster ds → table_at ds id ≡ Some t → table_at roster id ≡ Some t
received_is_own roster ds id t own found =
    let own_t : table_at roster t.id ≡ Some t = table_at-passes (λ (x : Definition). table_at roster x.id ≡ Some x) ds id t own found in
    subst (λ (n : ℕ). table_at roster n ≡ Some t) (table_at-id ds id t found) own_t

-- defining the roster's own table changes no last number
own_keeps_last_numbers : (roster : List Definition) (s : State) (d : Definition) → repeats_name roster ≡ false → table_at roster d.id ≡ Some d → AreOwn roster s.received.tables
    → HaveSameLastNumbers (knowledge_of (record { received = received_after s.received (messages.Define d); last_numbers = filter (λ l. keeps_last d (table_at s.received.tables l.0) l.0) s.last_numbers; slots = s.slots })) (knowledge_of s)
own_keeps_last_numbers roster s d distinct listed own = λ id. by id (table_at s.received.tables id) refl
  where
    keeps : ℕ → Bool
    keeps id = keeps_last d (table_at s.received.tables id) id

    none_last : (b : Bool) (l : Option ℕ) → l ≡ None → cond b l None ≡ None
    none_last true l e = e
    none_last false l e = refl

    gone : (id : ℕ) (b : Bool) → is_some (table_at (defined d s.received.tables) id) ≡ b → table_at s.received.tables id ≡ None → cond b (last_of (filter (λ l. keeps_last d (table_at s.received.tables l.0) l.0) s.last_numbers) id) None ≡ None
    gone id b e none = elim (cases_eq id d.id) [
      | inl same ↦ none_last b (last_of (filter (λ l. keeps_last d (table_at s.received.tables l.0) l.0) s.last_numbers) id) (last-dropped keeps s.last_numbers id (rw (none, eq-eqb id d.id same) refl))
      | inr other ↦ apart b e (ne_eqb id d.id other)
    ]
      where
        apart : (b : Bool) → is_some (table_at (defined d s.received.tables) id) ≡ b → eqb id d.id ≡ false → cond b (last_of (filter (λ l. keeps_last d (table_at s.received.tables l.0) l.0) s.last_numbers) id) None ≡ None
        apart false e ne = refl
        apart true e ne = let bad : false ≡ true = sym (rw (ne, none) refl) ∙ found_before d s.received.tables id e in cc

    by : (id : ℕ) (o : Option Definition) → table_at s.received.tables id ≡ o → cond (is_some (table_at (defined d s.received.tables) id)) (last_of (filter (λ l. keeps_last d (table_at s.received.tables l.0) l.0) s.last_numbers) id) None ≡ cond (is_some (table_at s.received.tables id)) (last_of s.last_numbers id) None
    by id None none = gone id (is_some (table_at (defined d s.received.tables) id)) refl none ∙ rw none refl
    by id (Some t) found =
        let received : is_some (table_at s.received.tables id) ≡ true = rw found refl in
        let own_t : table_at roster id ≡ Some t = received_is_own roster s.received.tables id t own found in
        let id_is : t.id ≡ id = table_at-id s.received.tables id t found in
        elim (cases_eq id d.id) [
          | inl same ↦
              let both : Some t ≡ Some d = sym own_t ∙ subst (λ (n : ℕ). table_at roster n ≡ Some d) (sym same) listed in
              let is : t ≡ d = cc in
              let keep : keeps id ≡ true = rw (found, eq-eqb id d.id same) (subst (λ (x : Definition). is_same_name t.name x.name ≡ true) is (name_itself t.name)) in
              let still : is_some (table_at (defined d s.received.tables) id) ≡ true = subst (λ (n : ℕ). is_some (table_at (defined d s.received.tables) n) ≡ true) (sym same) (rw (define_selects s.received d) refl) in
              rw (still, received) (last-kept keeps s.last_numbers id keep)
          | inr other ↦
              let unlike : is_same_name t.name d.name ≡ false = two_names roster t d distinct (subst (λ (n : ℕ). table_at roster n ≡ Some t) (sym id_is) own_t) listed (λ f. other (sym id_is ∙ f)) in
              let keep : keeps id ≡ true = rw (found, ne_eqb id d.id other, unlike) refl in
              let still : is_some (table_at (defined d s.received.tables) id) ≡ true = still_received roster d s.received.tables id distinct listed own other received in
              rw (still, received) (last-kept keeps s.last_numbers id keep)
        ]

-- an update sets its number, and leaves the last numbers of the other tables unchanged
update_puts_last : (s mid : State) (d : Definition) (u : Update) (table number : ℕ) → selected_table s.received ≡ Some d → s.received.selected ≡ Some table → u.table ≡ table → u.number ≡ number → mid.received ≡ s.received → mid.last_numbers ≡ set_last table number s.last_numbers → HaveSameLastNumbers (knowledge_of mid) (knowledge_after (knowledge_of s) u)
update_puts_last s mid d u table number sel on table_is number_is received last_numbers = λ id.
    let found = selected-found s.received d sel in
    let ids : Some d.id ≡ Some table = sym (selected-id s.received d sel) ∙ on in
    let is : d.id ≡ table = cc in
    let here : table_at s.received.tables table ≡ Some d = subst (λ (n : ℕ). table_at s.received.tables n ≡ Some d) (sym (table_at-id s.received.tables found.0 d found.1) ∙ is) found.1 in
    ap (λ (x : Received). cond (is_some (table_at x.tables id)) (last_of mid.last_numbers id) None) received
    ∙ ap (λ (ls : List (ℕ × ℕ)). cond (is_some (table_at s.received.tables id)) (last_of ls id) None) last_numbers
    ∙ ap (λ (l : Option ℕ). cond (is_some (table_at s.received.tables id)) l None) (last-put table number s.last_numbers id)
    ∙ moved_last (is_some (table_at s.received.tables id)) (eqb id table) (last_of s.last_numbers id) number (is_there s.received.tables table id d here)
    ∙ ap (λ (n : ℕ). cond (eqb id n) (Some number) ((knowledge_of s).last id)) (sym table_is)
    ∙ ap (λ (n : ℕ). cond (eqb id u.table) (Some n) ((knowledge_of s).last id)) (sym number_is)

unmoved : (mid after : State) (one : List Update) (k : Knowledge) → one ≡ [] → mid ≡ after → HaveSameLastNumbers (knowledge_of after) k → HaveSameLastNumbers (knowledge_of mid) (knowledge_after_all k one)
unmoved mid after one k none is same =
    subst (λ (l : List Update). HaveSameLastNumbers (knowledge_of mid) (knowledge_after_all k l)) (sym none)
    (subst (λ (x : State). HaveSameLastNumbers (knowledge_of x) k) (sym is) same)

-- so after a legal step, the last numbers are the old ones with those of the carried updates put in
last_numbers_step : (roster : List Definition) (s mid : State) (m : Message) (one : List Update) (k : Knowledge) → repeats_name roster ≡ false → AreOwn roster s.received.tables → IsOwn roster m → Step s m one mid → HaveSameLastNumbers (knowledge_of s) k → HaveSameLastNumbers (knowledge_of mid) (knowledge_after_all k one)
last_numbers_step roster s mid (messages.Define d) one k distinct own is_own (fit, none, is) same =
    subst (λ (l : List Update). HaveSameLastNumbers (knowledge_of mid) (knowledge_after_all k l)) (sym none)
    (subst (λ (x : State). HaveSameLastNumbers (knowledge_of x) k) (sym is) (λ id. own_keeps_last_numbers roster s d distinct is_own own id ∙ same id))
last_numbers_step roster s mid (messages.Update m) one k distinct own is_own (fit, table, on, number, numbered, name, named, carried, received, last_numbers) same =
    let sel = selection s.received m fit in
    let u : Update = resolved m table number name in
    let put : HaveSameLastNumbers (knowledge_of mid) (knowledge_after (knowledge_of s) u) = update_puts_last s mid sel.0 u table number sel.1 on refl refl received last_numbers in
    subst (λ (l : List Update). HaveSameLastNumbers (knowledge_of mid) (knowledge_after_all k l)) (sym carried) (λ id. put id ∙ ap (λ (l : Option ℕ). cond (eqb id table) (Some number) l) (same id))
last_numbers_step roster s mid (messages.Switch id) one k distinct own is_own (fit, none, is) same = unmoved mid (record { received = received_after s.received (messages.Switch id); last_numbers = s.last_numbers; slots = s.slots }) one k none is same
last_numbers_step roster s mid (messages.Control c) one k distinct own is_own (fit, none, is) same = unmoved mid (record { received = received_after s.received (messages.Control c); last_numbers = s.last_numbers; slots = s.slots }) one k none is same
last_numbers_step roster s mid (messages.Error e) one k distinct own is_own (fit, none, is) same = unmoved mid (record { received = received_after s.received (messages.Error e); last_numbers = s.last_numbers; slots = s.slots }) one k none is same
last_numbers_step roster s mid (messages.Ack table number) one k distinct own is_own (fit, none, is) same = unmoved mid (record { received = received_after s.received (messages.Ack table number); last_numbers = s.last_numbers; slots = s.slots }) one k none is same
last_numbers_step roster s mid (messages.Other o) one k distinct own is_own (fit, none, is) same = unmoved mid (record { received = received_after s.received (messages.Other o); last_numbers = s.last_numbers; slots = s.slots }) one k none is same

-- ---- requests and marks

-- the requests of updates one after another
pub requests-append : (roster : List Definition) (k : Knowledge) (one rest : List Update) → requests_of roster k (one ++ rest) ≡ requests_of roster k one ++ requests_of roster (knowledge_after_all k one) rest
requests-append roster k [] rest = refl
requests-append roster k (u ∷ us) rest =
    ap (λ (l : List Asked). asked roster k u u.name ++ l) (requests-append roster (knowledge_after k u) us rest)
    ∙ sym (append_assoc (asked roster k u u.name) (requests_of roster (knowledge_after k u) us) (requests_of roster (knowledge_after_all k (u ∷ us)) rest))

-- a message that reads the first slot is no longer than one that reads another
held_least : (number life : Option ℕ) (key : Key) (values : List Value) (slot : ℕ) → size_of (messages.Update (record { number = number; life = life; key = key; values = values; name = names.Held 1 })) ≤ size_of (messages.Update (record { number = number; life = life; key = key; values = values; name = names.Held slot }))
unfolding size_of spelled
held_least number life key values slot =
    let one : UpdateFields = record { number = number; life = life; key = key; values = values; name = names.Held 1 } in
    let other : UpdateFields = record { number = number; life = life; key = key; values = values; name = names.Held slot } in
    framed_longer 10 (update_type one) 10 (update_type other) (update_text one) (update_text other)
    (rows_longer (optional_word number) (optional_word life) (key_text key) (flat_map value_text values) (name_text (names.Held 1)) (name_text (names.Held slot)) (counted_longer (spelling 1) (spelling slot) slots))
  where
    slots : length (spelling 1) ≤ length (spelling slot)
    slots = omega (arith, (integers.table 1).0 (omega arith), (integers.within slot).0)

    counted_longer : (a b : List ℕ) → length a ≤ length b → length (counted a) ≤ length (counted b)
    counted_longer a b le =
        let digits = integers.longer (length a) (length b) le in
        omega (arith, length-append (spelling (length a)) a, length-append (spelling (length b)) b)

    rows_longer : (a b c d x y : List ℕ) → length x ≤ length y → length (a ++ (b ++ (c ++ (d ++ x)))) ≤ length (a ++ (b ++ (c ++ (d ++ y))))
    rows_longer a b c d x y le =
        omega (arith, length-append a (b ++ (c ++ (d ++ x))), length-append b (c ++ (d ++ x)), length-append c (d ++ x), length-append d x, length-append a (b ++ (c ++ (d ++ y))), length-append b (c ++ (d ++ y)), length-append c (d ++ y), length-append d y)

-- what a name field saves
abbrev saved_by_field : List Definition → Knowledge → NameField → Update → ℕ
saved_by_field roster k field u = cond (is_held field) (written_cost roster k u - size_of (messages.Update (sent_as (k.last u.table) field u))) 0

-- a name field saves no more than its request, with the same last numbers
field_saves : (roster : List Definition) (here k : Knowledge) (u : Update) (slots after : List (Option (List ℕ))) (field : NameField) (name : Option (List ℕ)) (rs : List Asked) (marks : List Bool) → HaveSameLastNumbers here k → Named slots field name after
    → saved_by_field roster here field u + read_savings rs marks ≤ read_savings ((asked roster k u name ++ []) ++ rs) (mark_of field ++ marks)
field_saves roster here k u slots after names.NotStored name rs marks same (none, stay) = rw none (omega arith)
field_saves roster here k u slots after names.NoName name rs marks same (none, stay) = rw none (omega arith)
field_saves roster here k u slots after (names.Written slot bytes) name rs marks same (is, put) = rw is (omega arith)
field_saves roster here k u slots after (names.Held slot) name rs marks same (bytes, held, is, stay) =
    let whole : written_cost roster here u ≡ written_cost roster k u = ap (λ (l : Option ℕ). size_of (messages.Update (sent_as l (written_field (is_named_table (table_at roster u.table)) u.name) u))) (same u.table) in
    let least = held_least (number_sent (here.last u.table) u.number) u.life u.key u.values slot in
    let read : held_cost k u ≤ size_of (messages.Update (sent_as (here.last u.table) (names.Held slot) u)) = subst (λ (l : Option ℕ). size_of (messages.Update (sent_as l (names.Held 1) u)) ≤ size_of (messages.Update (sent_as (here.last u.table) (names.Held slot) u))) (same u.table) least in
    rw is (omega arith)

-- nor does a message
message_saves : (roster : List Definition) (s mid : State) (m : Message) (one : List Update) (k : Knowledge) (rs : List Asked) (ms : List Message) → HaveSameLastNumbers (knowledge_of s) k → Step s m one mid
    → saving roster (knowledge_of s) m one + read_savings rs (reads_of ms) ≤ read_savings (requests_of roster k one ++ rs) (reads_of (m ∷ ms))
message_saves roster s mid (messages.Update m) one k rs ms same (fit, table, on, number, numbered, name, named, carried, received, last_numbers) =
    let u : Update = resolved m table number name in
    subst (λ (l : List Update). saving roster (knowledge_of s) (messages.Update m) l + read_savings rs (reads_of ms) ≤ read_savings (requests_of roster k l ++ rs) (mark_of m.name ++ reads_of ms)) (sym carried)
    (field_saves roster (knowledge_of s) k u s.slots mid.slots m.name name rs (reads_of ms) same named)
message_saves roster s mid (messages.Define d) one k rs ms same (fit, none, is) = rw none (omega arith)
message_saves roster s mid (messages.Switch id) one k rs ms same (fit, none, is) = rw none (omega arith)
message_saves roster s mid (messages.Control c) one k rs ms same (fit, none, is) = rw none (omega arith)
message_saves roster s mid (messages.Error e) one k rs ms same (fit, none, is) = rw none (omega arith)
message_saves roster s mid (messages.Ack table number) one k rs ms same (fit, none, is) = rw none (omega arith)
message_saves roster s mid (messages.Other o) one k rs ms same (fit, none, is) = rw none (omega arith)

-- nor do messages one after another
saves_reads : (roster : List Definition) (s : State) (ms : List Message) (us : List Update) (k : Knowledge) (saved : ℕ) → repeats_name roster ≡ false → AreOwn roster s.received.tables → AllByRecursion (IsOwn roster) ms → HaveSameLastNumbers (knowledge_of s) k → Saves roster s ms us saved
    → saved ≤ read_savings (requests_of roster k us) (reads_of ms)
saves_reads roster s [] us k saved distinct own owns same none = rw none (omega arith)
saves_reads roster s (m ∷ ms) us k saved distinct own owns same (one, rest, mid, later, is, step, sum, others) =
    let more = saves_reads roster mid ms rest (knowledge_after_all k one) later distinct (own_stays roster s mid m one own owns.0 step) owns.1 (last_numbers_step roster s mid m one k distinct own owns.0 step same) others in
    let here = message_saves roster s mid m one k (requests_of roster (knowledge_after_all k one) rest) ms same step in
    let joined : requests_of roster k one ++ requests_of roster (knowledge_after_all k one) rest ≡ requests_of roster k us = sym (requests-append roster k one rest) ∙ ap (requests_of roster k) (sym is) in
    let whole : saving roster (knowledge_of s) m one + read_savings (requests_of roster (knowledge_after_all k one) rest) (reads_of ms) ≤ read_savings (requests_of roster k us) (reads_of (m ∷ ms)) = subst (λ (l : List Asked). saving roster (knowledge_of s) m one + read_savings (requests_of roster (knowledge_after_all k one) rest) (reads_of ms) ≤ read_savings l (reads_of (m ∷ ms))) joined here in
    omega arith

-- a legal list is at least as long as the lesson with every name written, less the savings of the requests that it
-- reads
pub reads_pay : (roster : List Definition) (s e : State) (ms : List Message) (us : List Update) → roster_fault roster ≡ None → AreOwn roster s.received.tables → AllByRecursion (IsOfRoster roster) us → Legal roster s ms us e → full roster s us ≤ size_of_all ms + read_savings (requests_of roster (knowledge_of s) us) (reads_of ms)
reads_pay roster s e ms us sound own all legal =
    let paid = list_pays_full roster s e ms us own all legal in
    let saved = saves_reads roster s ms us (knowledge_of s) paid.0 (roster_names roster sound) own legal.0 (λ id. refl) paid.1 in
    omega (arith, paid.2)

-- ---- one mark for each request

one_mark : (roster : List Definition) (s mid : State) (m : Message) (one : List Update) (k : Knowledge) (ms : List Message) → Step s m one mid → length (reads_of (m ∷ ms)) ≡ length (requests_of roster k one) + length (reads_of ms)
one_mark roster s mid (messages.Update m) one k ms (fit, table, on, number, numbered, name, named, carried, received, last_numbers) =
    subst (λ (l : List Update). length (mark_of m.name ++ reads_of ms) ≡ length (requests_of roster k l) + length (reads_of ms)) (sym carried) (by m.name name named)
  where
    by : (field : NameField) (name : Option (List ℕ)) → Named s.slots field name mid.slots → length (mark_of field ++ reads_of ms) ≡ length (asked roster k (resolved m table number name) name ++ []) + length (reads_of ms)
    by names.NotStored name named = rw named.0 (omega arith)
    by names.NoName name named = rw named.0 (omega arith)
    by (names.Written slot bytes) name named = rw named.0 (omega arith)
    by (names.Held slot) name (bytes, held, is, stay) = rw is (omega arith)
one_mark roster s mid (messages.Define d) one k ms (fit, none, is) = rw none (omega arith)
one_mark roster s mid (messages.Switch id) one k ms (fit, none, is) = rw none (omega arith)
one_mark roster s mid (messages.Control c) one k ms (fit, none, is) = rw none (omega arith)
one_mark roster s mid (messages.Error e) one k ms (fit, none, is) = rw none (omega arith)
one_mark roster s mid (messages.Ack table number) one k ms (fit, none, is) = rw none (omega arith)
one_mark roster s mid (messages.Other o) one k ms (fit, none, is) = rw none (omega arith)

pub marks_fit : (roster : List Definition) (k : Knowledge) (s e : State) (ms : List Message) (us : List Update) → Teaches s ms us e → length (reads_of ms) ≡ length (requests_of roster k us)
marks_fit roster k s e [] us (none, same) = rw none refl
marks_fit roster k s e (m ∷ ms) us (one, rest, mid, is, step, later) =
    let first = one_mark roster s mid m one k ms step in
    let others = marks_fit roster (knowledge_after_all k one) mid e ms rest later in
    let joined : requests_of roster k us ≡ requests_of roster k one ++ requests_of roster (knowledge_after_all k one) rest = ap (requests_of roster k) is ∙ requests-append roster k one rest in
    rw joined (omega (arith, length-append (requests_of roster k one) (requests_of roster (knowledge_after_all k one) rest)))
