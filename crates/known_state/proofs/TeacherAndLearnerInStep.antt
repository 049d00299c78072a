-- A list that is legal from what a teacher knows of a learner is legal from the learner's own state, and what the
-- teacher knows afterwards is what is then known of the learner.
use Rattle.std.proofs.Common.{◌≡◌, ℕ, Bool, true, false, not, ◌&&◌, ◌||◌, cond, eqb, List, [], ◌∷◌, Option, Some, None, refl, sym, ap, ◌∙◌, subst, inl, inr}
use Rattle.std.specs.Prelude.{is_some, filter}
use Rattle.std.specs.List.{AllByRecursion}
use Rattle.std.specs.Option.{option_and_then}
use Rattle.std.proofs.lemmas.Bool.{cases_eq, eq-eqb, ne_eqb}
use Rattle.table_types.specs.declared.update.Update.{Update}
use Rattle.table_types.specs.Tables.{Definition}
use Rattle.table_types.specs.Rosters.{table_at, has_id, is_same_name}
use Rattle.peers_msg.specs.declared.message.Message.{Message}
use Rattle.peers_msg.specs.declared.message.Message.TheVariants as messages
use Rattle.peers_msg.specs.Messages.{UpdateFields}
use Rattle.peers_msg.specs.Received.{Received, received_after, outlives, defined, selected_table}
use Rattle.peers_msg.specs.OwnTables.{is_own, is_own_one}
use Rattle.peers_msg.specs.Fitting.{fits}
use Rattle.known_state.specs.State.{State, Step, Teaches, IsOwn, Legal, last_numbers_after, resolved_number}
use Rattle.known_state.specs.LastNumbers.{keeps_last, last_of, set_last, own_last_numbers, AreRising}
use Rattle.table_types.proofs.OneTableByShape.{means_shape}
use Rattle.known_state.specs.Known.{AreOwn, known_of}
use Rattle.known_state.proofs.RosterNamesDiffer.{has_put}
use Rattle.known_state.proofs.ReceivedIsOwn.{table_at-id, table_at-passes, define_selects, AreOwn-defined}
use Rattle.known_state.proofs.FitsOrIsRefused.{has_id-table_at}
use Rattle.known_state.proofs.RefusedIsNoStep.{switch_found, selection}
use Rattle.known_state.proofs.KnowingMoreCostsLess.{found_before, last-kept}
use Rattle.known_state.proofs.LastNumbersRise.{put-filter, rising-step}

-- ---- what is known of a learner that received only the roster's own tables

-- all that was received, except last numbers of ids that aren't received, and a selected id that isn't received
abbrev trimmed : State → State
trimmed s = record {
  received = record { tables = s.received.tables; selected = cond (is_some (selected_table s.received)) s.received.selected None };
  last_numbers = filter (λ l. is_some (table_at s.received.tables l.0)) s.last_numbers;
  slots = s.slots;
}

own_itself : (roster : List Definition) (d : Definition) → table_at roster d.id ≡ Some d → is_own roster d ≡ true
own_itself roster d is = rw (is, eq-eqb d.id d.id refl, eq-eqb d.expire d.expire refl, means_shape d d refl) refl

own_one : (roster : List Definition) (ds : List Definition) (id : ℕ) → AreOwn roster ds → is_own_one roster (table_at ds id) ≡ is_some (table_at ds id)
own_one roster ds id own = at (table_at ds id) refl
  where
    at : (o : Option Definition) → table_at ds id ≡ o → is_own_one roster (table_at ds id) ≡ is_some (table_at ds id)
    at None e = rw e refl
    at (Some d) e = rw e (own_itself roster d (table_at-passes (λ (t : Definition). table_at roster t.id ≡ Some t) ds id d own e))

own_selected : (roster : List Definition) (h : Received) → AreOwn roster h.tables → is_own_one roster (selected_table h) ≡ is_some (selected_table h)
own_selected roster h own = at h.selected
  where
    at : (o : Option ℕ) → is_own_one roster (option_and_then (table_at h.tables) o) ≡ is_some (option_and_then (table_at h.tables) o)
    at None = refl
    at (Some id) = own_one roster h.tables id own

all_own : (roster : List Definition) (ds : List Definition) → AreOwn roster ds → filter (is_own roster) ds ≡ ds
all_own roster [] own = refl
all_own roster (d ∷ ds) own = rw (own_itself roster d own.0) (ap (λ (xs : List Definition). d ∷ xs) (all_own roster ds own.1))

filter-alike : (p q : (ℕ × ℕ) → Bool) (ls : List (ℕ × ℕ)) → ((l : ℕ × ℕ) → p l ≡ q l) → filter p ls ≡ filter q ls
filter-alike p q [] same = refl
filter-alike p q (l ∷ ls) same =
    ap (λ (b : Bool). cond b (l ∷ filter p ls) (filter p ls)) (same l)
    ∙ ap (λ (xs : List (ℕ × ℕ)). cond (q l) (l ∷ xs) xs) (filter-alike p q ls same)

known_trimmed : (roster : List Definition) (s : State) → AreOwn roster s.received.tables → (known_of roster s).state ≡ trimmed s
known_trimmed roster s own =
    ap (λ (ds : List Definition). record { received = record { tables = ds; selected = cond (is_own_one roster (selected_table s.received)) s.received.selected None }; last_numbers = own_last_numbers roster s.received s.last_numbers; slots = s.slots }) (all_own roster s.received.tables own)
    ∙ ap (λ (b : Bool). record { received = record { tables = s.received.tables; selected = cond b s.received.selected None }; last_numbers = own_last_numbers roster s.received s.last_numbers; slots = s.slots }) (own_selected roster s.received own)
    ∙ ap (λ (ls : List (ℕ × ℕ)). record { received = (trimmed s).received; last_numbers = ls; slots = s.slots }) (filter-alike (λ l. is_own_one roster (table_at s.received.tables l.0)) (λ l. is_some (table_at s.received.tables l.0)) s.last_numbers (λ l. own_one roster s.received.tables l.0 own))

-- ---- definitions

-- a table that passes is still found among those that pass
has_passed : (p : Definition → Bool) (ds : List Definition) (id : ℕ) (d : Definition) → table_at ds id ≡ Some d → p d ≡ true → has_id id (filter p ds) ≡ true
has_passed p [] id d h passes = cc
has_passed p (x ∷ xs) id d h passes = elim (cases_eq x.id id) [
  | inl same ↦
      let here : Some x ≡ Some d = sym (rw (eq-eqb x.id id same) refl) ∙ h in
      let is : x ≡ d = cc in
      let first : p x ≡ true = subst (λ (t : Definition). p t ≡ true) (sym is) passes in
      rw (first, eq-eqb x.id id same) refl
  | inr other ↦
      let later : has_id id (filter p xs) ≡ true = has_passed p xs id d (sym (rw (ne_eqb x.id id other) refl) ∙ h) passes in
      in_rest (p x) later
]
  where
    or-right : (a b : Bool) → b ≡ true → (a || b) ≡ true
    or-right true b h = refl
    or-right false b h = h

    in_rest : (b : Bool) → has_id id (filter p xs) ≡ true → has_id id (cond b (x ∷ filter p xs) (filter p xs)) ≡ true
    in_rest true later = or-right (eqb x.id id) (has_id id (filter p xs)) later
    in_rest false later = later

-- whether an id keeps its last number at a definition
abbrev keeps : Definition → List Definition → ℕ → Bool
keeps d ds id = keeps_last d (table_at ds id) id

-- an id that was received and keeps its last number is received after the definition
received_still : (d : Definition) (ds : List Definition) (id : ℕ) (x : Definition) → table_at ds id ≡ Some x → keeps d ds id ≡ true → is_some (table_at (defined d ds) id) ≡ true
received_still d ds id x found kept = elim (cases_eq id d.id) [
  | inl same ↦
      let here : table_at (defined d ds) d.id ≡ Some d = define_selects (record { tables = ds; selected = None }) d in
      subst (λ (n : ℕ). is_some (table_at (defined d ds) n) ≡ true) (sym same) (rw here refl)
  | inr other ↦
      let named : not (is_same_name x.name d.name) ≡ true = sym (rw (found, ne_eqb id d.id other) refl) ∙ kept in
      let apart : x.id ≡ d.id → ⊥ = λ same. other (sym (table_at-id ds id x found) ∙ same) in
      let lives : outlives d x ≡ true = rw (ne_eqb x.id d.id apart, named) refl in
      sym (has_id-table_at (defined d ds) id) ∙ has_put d (filter (outlives d) ds) id (has_passed (outlives d) ds id x found lives)
]

-- an id that wasn't received and keeps its last number isn't received afterwards either
unreceived_still : (d : Definition) (ds : List Definition) (id : ℕ) → table_at ds id ≡ None → (keeps d ds id && is_some (table_at (defined d ds) id)) ≡ false
unreceived_still d ds id none = elim (cases_eq id d.id) [
  | inl same ↦ rw (none, eq-eqb id d.id same) refl
  | inr other ↦
      rw (none, ne_eqb id d.id other) (at (is_some (table_at (defined d ds) id)) refl other)
]
  where
    at : (b : Bool) → is_some (table_at (defined d ds) id) ≡ b → (id ≡ d.id → ⊥) → b ≡ false
    at false e other = refl
    at true e other =
        let before : (eqb id d.id || is_some (table_at ds id)) ≡ true = found_before d ds id e in
        let bad : false ≡ true = sym (rw (ne_eqb id d.id other, none) refl) ∙ before in
        absurd cc

-- among the ids that keep their last numbers, those received after a definition are those received before
received_alike : (d : Definition) (ds : List Definition) (id : ℕ) → (keeps d ds id && is_some (table_at (defined d ds) id)) ≡ (is_some (table_at ds id) && keeps d ds id)
received_alike d ds id = at (table_at ds id) refl
  where
    by : (k h : Bool) → (k ≡ true → h ≡ true) → (k && h) ≡ k
    by true h still = still refl
    by false h still = refl

    at : (o : Option Definition) → table_at ds id ≡ o → (keeps d ds id && is_some (table_at (defined d ds) id)) ≡ (is_some (table_at ds id) && keeps d ds id)
    at None e = unreceived_still d ds id e ∙ ap (λ (o : Option Definition). is_some o && keeps d ds id) (sym e)
    at (Some x) e =
        by (keeps d ds id) (is_some (table_at (defined d ds) id)) (received_still d ds id x e)
        ∙ ap (λ (o : Option Definition). is_some o && keeps d ds id) (sym e)

filter-twice : (p q : (ℕ × ℕ) → Bool) (ls : List (ℕ × ℕ)) → filter p (filter q ls) ≡ filter (λ l. q l && p l) ls
filter-twice p q [] = refl
filter-twice p q (l ∷ ls) = at (q l) (filter-twice p q ls)
  where
    at : (b : Bool) → filter p (filter q ls) ≡ filter (λ x. q x && p x) ls → filter p (cond b (l ∷ filter q ls) (filter q ls)) ≡ cond (b && p l) (l ∷ filter (λ x. q x && p x) ls) (filter (λ x. q x && p x) ls)
    at true later = ap (λ (xs : List (ℕ × ℕ)). cond (p l) (l ∷ xs) xs) later
    at false later = later

last_numbers_alike : (d : Definition) (ds : List Definition) (ls : List (ℕ × ℕ)) → filter (λ l. is_some (table_at (defined d ds) l.0)) (filter (λ l. keeps d ds l.0) ls) ≡ filter (λ l. keeps d ds l.0) (filter (λ l. is_some (table_at ds l.0)) ls)
last_numbers_alike d ds ls =
    filter-twice (λ l. is_some (table_at (defined d ds) l.0)) (λ l. keeps d ds l.0) ls
    ∙ filter-alike (λ l. keeps d ds l.0 && is_some (table_at (defined d ds) l.0)) (λ l. is_some (table_at ds l.0) && keeps d ds l.0) ls (λ l. received_alike d ds l.0)
    ∙ sym (filter-twice (λ l. keeps d ds l.0) (λ l. is_some (table_at ds l.0)) ls)

-- ---- one step

-- a message that depends on no table fits in every state
fits_anywhere : (h k : Received) (m : Message) → h.tables ≡ k.tables → selected_table h ≡ selected_table k → fits h m ≡ true → fits k m ≡ true
unfolding fits
fits_anywhere h k (messages.Control c) tables selected fit = fit
fits_anywhere h k (messages.Error e) tables selected fit = fit
fits_anywhere h k (messages.Define d) tables selected fit = fit
fits_anywhere h k (messages.Switch id) tables selected fit = rw (← tables) fit
fits_anywhere h k (messages.Ack table number) tables selected fit = fit
fits_anywhere h k (messages.Update u) tables selected fit = rw (← selected) fit
fits_anywhere h k (messages.Other o) tables selected fit = fit

-- the table selected is known to be selected
trimmed_selected : (s : State) → selected_table (trimmed s).received ≡ selected_table s.received
trimmed_selected s = at s.received.selected
  where
    at : (o : Option ℕ) → option_and_then (table_at s.received.tables) (cond (is_some (option_and_then (table_at s.received.tables) o)) o None) ≡ option_and_then (table_at s.received.tables) o
    at None = refl
    at (Some id) = by (table_at s.received.tables id) refl
      where
        by : (found : Option Definition) → table_at s.received.tables id ≡ found → option_and_then (table_at s.received.tables) (cond (is_some (table_at s.received.tables id)) (Some id) None) ≡ table_at s.received.tables id
        by None e = rw e refl
        by (Some d) e = rw e e

fits_too : (s : State) (m : Message) → fits (trimmed s).received m ≡ true → fits s.received m ≡ true
fits_too s m fit = fits_anywhere (trimmed s).received s.received m refl (trimmed_selected s) fit

-- the learner's own state makes the step too, and what is known of it afterwards is where the step from what is known
-- leads
abbrev KeepsStep : State → Message → List Update → State → Type 0
KeepsStep s m us after = (e : State) × Step s m us e × (trimmed e ≡ after)

switch_keeps : (s after : State) (id : ℕ) (us : List Update) → Step (trimmed s) (messages.Switch id) us after → KeepsStep s (messages.Switch id) us after
switch_keeps s after id us (fit, none, is) =
    let fits_here : fits s.received (messages.Switch id) ≡ true = fits_too s (messages.Switch id) fit in
    let found = switch_found s.received id fits_here in
    let received : is_some (table_at s.received.tables id) ≡ true = rw (found.1) refl in
    let same : trimmed (record { received = record { tables = s.received.tables; selected = Some id }; last_numbers = s.last_numbers; slots = s.slots }) ≡ record { received = record { tables = s.received.tables; selected = Some id }; last_numbers = (trimmed s).last_numbers; slots = s.slots } =
    ap (λ (b : Bool). record { received = record { tables = s.received.tables; selected = cond b (Some id) None }; last_numbers = (trimmed s).last_numbers; slots = s.slots }) received in
    (record { received = record { tables = s.received.tables; selected = Some id }; last_numbers = s.last_numbers; slots = s.slots }, (fits_here, none, refl), same ∙ sym is)

define_keeps : (s after : State) (d : Definition) (us : List Update) → Step (trimmed s) (messages.Define d) us after → KeepsStep s (messages.Define d) us after
define_keeps s after d us (fit, none, is) =
    let e : State = record { received = received_after s.received (messages.Define d); last_numbers = last_numbers_after s (messages.Define d); slots = s.slots } in
    let received : is_some (table_at (defined d s.received.tables) d.id) ≡ true = ap (λ (o : Option Definition). is_some o) (define_selects s.received d) in
    let selects : trimmed (record { received = received_after s.received (messages.Define d); last_numbers = last_numbers_after s (messages.Define d); slots = s.slots }) ≡ record { received = received_after s.received (messages.Define d); last_numbers = filter (λ l. is_some (table_at (defined d s.received.tables) l.0)) (filter (λ l. keeps d s.received.tables l.0) s.last_numbers); slots = s.slots } =
    ap (λ (b : Bool). record { received = record { tables = defined d s.received.tables; selected = cond b (Some d.id) None }; last_numbers = filter (λ l. is_some (table_at (defined d s.received.tables) l.0)) (filter (λ l. keeps d s.received.tables l.0) s.last_numbers); slots = s.slots }) received in
    let keeps_last_numbers : record { received = received_after s.received (messages.Define d); last_numbers = filter (λ l. is_some (table_at (defined d s.received.tables) l.0)) (filter (λ l. keeps d s.received.tables l.0) s.last_numbers); slots = s.slots } ≡ record { received = received_after s.received (messages.Define d); last_numbers = filter (λ l. keeps d s.received.tables l.0) (filter (λ l. is_some (table_at s.received.tables l.0)) s.last_numbers); slots = s.slots } =
    ap (λ (ls : List (ℕ × ℕ)). record { received = received_after s.received (messages.Define d); last_numbers = ls; slots = s.slots }) (last_numbers_alike d s.received.tables s.last_numbers) in
    (record { received = received_after s.received (messages.Define d); last_numbers = last_numbers_after s (messages.Define d); slots = s.slots }, (fits_too s (messages.Define d) fit, none, refl), selects ∙ keeps_last_numbers ∙ sym is)

-- an id that is known to be selected is selected
selected_too : (s : State) (table : ℕ) → (trimmed s).received.selected ≡ Some table → s.received.selected ≡ Some table
selected_too s table is = at (is_some (selected_table s.received)) is
  where
    at : (b : Bool) → cond b s.received.selected None ≡ Some table → s.received.selected ≡ Some table
    at true e = e
    at false e = absurd cc

update_keeps : (s after : State) (u : UpdateFields) (us : List Update) → AreRising s.last_numbers → Step (trimmed s) (messages.Update u) us after → KeepsStep s (messages.Update u) us after
update_keeps s after u us rise (fit, table, is_table, number, is_number, name, named, carried, received, last_numbers) =
    let fits_here : fits s.received (messages.Update u) ≡ true = fits_too s (messages.Update u) fit in
    let selected : s.received.selected ≡ Some table = selected_too s table is_table in
    let sel = selection s.received u fits_here in
    let found : table_at s.received.tables table ≡ Some sel.0 = ap (λ (o : Option ℕ). option_and_then (table_at s.received.tables) o) (sym selected) ∙ sel.1 in
    let is_received : is_some (table_at s.received.tables table) ≡ true = ap (λ (o : Option Definition). is_some o) found in
    let kept : last_of (trimmed s).last_numbers table ≡ last_of s.last_numbers table = last-kept (λ id. is_some (table_at s.received.tables id)) s.last_numbers table is_received in
    let numbered : resolved_number u.number (last_of s.last_numbers table) ≡ Some number = subst (λ (o : Option ℕ). resolved_number u.number o ≡ Some number) kept is_number in
    let moved : filter (λ l. is_some (table_at s.received.tables l.0)) (set_last table number s.last_numbers) ≡ after.last_numbers = put-filter (λ id. is_some (table_at s.received.tables id)) table number s.last_numbers is_received rise ∙ sym last_numbers in
    let tables : (trimmed s).received ≡ after.received = sym received in
    let known : record { received = (trimmed s).received; last_numbers = filter (λ l. is_some (table_at s.received.tables l.0)) (set_last table number s.last_numbers); slots = after.slots } ≡ after =
    ap (λ (ls : List (ℕ × ℕ)). record { received = (trimmed s).received; last_numbers = ls; slots = after.slots }) moved
    ∙ ap (λ (h : Received). record { received = h; last_numbers = after.last_numbers; slots = after.slots }) tables in
    (record { received = s.received; last_numbers = set_last table number s.last_numbers; slots = after.slots }, (fits_here, table, selected, number, numbered, name, named, carried, refl, refl), known)

-- a step from what is known is a step from the learner's own state, and what is known of the new state is where the
-- step leads
keeps_step : (s after : State) (m : Message) (us : List Update) → AreRising s.last_numbers → Step (trimmed s) m us after → KeepsStep s m us after
keeps_step s after (messages.Update u) us rise step = update_keeps s after u us rise step
keeps_step s after (messages.Define d) us rise step = define_keeps s after d us step
keeps_step s after (messages.Switch id) us rise step = switch_keeps s after id us step
keeps_step s after (messages.Control c) us rise (fit, none, is) = (s, (fits_too s (messages.Control c) fit, none, refl), sym is)
keeps_step s after (messages.Error k) us rise (fit, none, is) = (s, (fits_too s (messages.Error k) fit, none, refl), sym is)
keeps_step s after (messages.Ack table number) us rise (fit, none, is) = (s, (fits_too s (messages.Ack table number) fit, none, refl), sym is)
keeps_step s after (messages.Other o) us rise (fit, none, is) = (s, (fits_too s (messages.Other o) fit, none, refl), sym is)

-- ---- whole lists

-- what is received stays the roster's own
pub own_stays : (roster : List Definition) (s e : State) (m : Message) (us : List Update) → AreOwn roster s.received.tables → IsOwn roster m → Step s m us e → AreOwn roster e.received.tables
own_stays roster s e (messages.Update u) us own is step = subst (λ (h : Received). AreOwn roster h.tables) (sym step.8) own
own_stays roster s e (messages.Define d) us own is step = subst (λ (x : State). AreOwn roster x.received.tables) (sym step.2) (AreOwn-defined roster d s.received.tables is own)
own_stays roster s e (messages.Control c) us own is step = subst (λ (x : State). AreOwn roster x.received.tables) (sym step.2) own
own_stays roster s e (messages.Error k) us own is step = subst (λ (x : State). AreOwn roster x.received.tables) (sym step.2) own
own_stays roster s e (messages.Switch id) us own is step = subst (λ (x : State). AreOwn roster x.received.tables) (sym step.2) own
own_stays roster s e (messages.Ack table number) us own is step = subst (λ (x : State). AreOwn roster x.received.tables) (sym step.2) own
own_stays roster s e (messages.Other o) us own is step = subst (λ (x : State). AreOwn roster x.received.tables) (sym step.2) own

-- messages that make their steps from what is known make them from the learner's own state
lists_keep : (roster : List Definition) (s after : State) (ms : List Message) (us : List Update) → AreOwn roster s.received.tables → AreRising s.last_numbers → AllByRecursion (IsOwn roster) ms → Teaches (trimmed s) ms us after
    → (e : State) × Teaches s ms us e × AreOwn roster e.received.tables × AreRising e.last_numbers × (trimmed e ≡ after)
lists_keep roster s after [] us own rise all (none, here) = (s, (none, refl), own, rise, sym here)
lists_keep roster s after (m ∷ ms) us own rise (is, all) (one, rest, mid, joined, step, later) =
    let next = keeps_step s mid m one rise step in
    let owns = own_stays roster s next.0 m one own is next.1 in
    let rises = rising-step s next.0 m one rise next.1 in
    let goes : Teaches (trimmed next.0) ms rest after = subst (λ (x : State). Teaches x ms rest after) (sym next.2) later in
    let others = lists_keep roster next.0 after ms rest owns rises all goes in
    (others.0, (one, rest, next.0, joined, next.1, others.1), others.2, others.3, others.4)

-- what a teacher knows is enough
pub known_enough : (roster : List Definition) (s after : State) (ms : List Message) (us : List Update) → AreOwn roster s.received.tables → AreRising s.last_numbers → Legal roster (known_of roster s).state ms us after
    → (e : State) × Legal roster s ms us e × AreOwn roster e.received.tables × AreRising e.last_numbers × (known_of roster e ≡ record { roster = roster; state = after })
known_enough roster s after ms us own rise (all, teaches) =
    let from_there : Teaches (trimmed s) ms us after = subst (λ (x : State). Teaches x ms us after) (known_trimmed roster s own) teaches in
    let kept = lists_keep roster s after ms us own rise all from_there in
    let known : (known_of roster kept.0).state ≡ after = known_trimmed roster kept.0 kept.2 ∙ kept.4 in
    (kept.0, (all, kept.1), kept.2, kept.3, ap (λ (x : State). record { roster = roster; state = x }) known)
