-- A step pays for what it saves.
use Rattle.std.proofs.Common.{◌≡◌, ℕ, ◌+◌, ◌≤◌, Bool, true, false, ◌&&◌, ◌||◌, cond, eqb, List, [], ◌∷◌, ◌++◌, Option, Some, None, refl, sym, ap, ◌∙◌, subst, inl, inr, ◌⊎◌, arith}
use Rattle.std.specs.Prelude.{is_some, option_map, filter, nat_le, length}
use Rattle.std.proofs.lemmas.Bool.{cases_eq, eq-eqb, ne_eqb}
use Rattle.std.proofs.lemmas.List.Sums.{sum_by-cons}
use Rattle.std.specs.List.{AllByRecursion}
use Rattle.table_types.specs.declared.update.Update.{Update}
use Rattle.table_types.specs.Tables.{Definition}
use Rattle.table_types.specs.Rosters.{table_at}
use Rattle.peers_msg.specs.declared.message.Message.{Message}
use Rattle.peers_msg.specs.declared.message.Message.TheVariants as messages
use Rattle.peers_msg.specs.Messages.{UpdateFields, most_data}
use Rattle.peers_msg.specs.Received.{Received, received_after, defined, selected_table}
use Rattle.peers_msg.specs.Spelling.{size_of, size_of_all, data_of}
use Rattle.peers_msg.specs.Fitting.{fits, name_fits, update_fits}
use Rattle.known_state.specs.State.{State, Step, Named, IsOwn, Legal, resolved, resolved_number}
use Rattle.known_state.specs.LastNumbers.{keeps_last, last_of, set_last}
use Rattle.known_state.specs.Known.{AreOwn}
use Rattle.known_state.specs.Cost.{knowledge_of, knowledge_after, cost, saving, selection_cost, definition_cost, Saves, IsOfRoster}
use Rattle.known_state.proofs.LesserKnowledge.{KnowsLess, with_selected}
use Rattle.known_state.proofs.ReceivedIsOwn.{table_at-id, table_at-passes, define_selects, AreOwn-defined}
use Rattle.known_state.proofs.FitsOrIsRefused.{selected-id, selected-found}
use Rattle.known_state.proofs.RefusedIsNoStep.{switch_found, selection}
use Rattle.known_state.proofs.KnowingMoreCostsLess.{falls, defining_pays, switched_pays, update_pays, found_before, last-dropped, last-filter, last-put}

-- a message that changes nothing pays
stays_pays : (roster : List Definition) (s mid : State) (m : Message) (one rest : List Update) → one ≡ [] → mid ≡ s → cost roster s (one ++ rest) ≤ size_of m + saving roster (knowledge_of s) m one + cost roster mid rest
stays_pays roster s mid m one rest none same = rw (none, same) (omega arith)

or_true : (a b : Bool) → b ≡ true → (a || b) ≡ true
or_true true b h = refl
or_true false b h = h

-- a definition of a roster's own table pays
define_pays : (roster : List Definition) (s : State) (d : Definition) (rest : List Update) → table_at roster d.id ≡ Some d → AllByRecursion (IsOfRoster roster) rest
    → cost roster s rest ≤ size_of (messages.Define d) + cost roster (record { received = received_after s.received (messages.Define d); last_numbers = filter (λ l. keeps_last d (table_at s.received.tables l.0) l.0) s.last_numbers; slots = s.slots }) rest
define_pays roster s d rest own all =
    let k = knowledge_of s in
    let after : State = record { received = received_after s.received (messages.Define d); last_numbers = filter (λ l. keeps_last d (table_at s.received.tables l.0) l.0) s.last_numbers; slots = s.slots } in
    let own_cost : definition_cost (table_at roster d.id) ≡ size_of (messages.Define d) = rw own refl in
    let paid = defining_pays roster k d.id rest all in
    let knows : KnowsLess (knowledge_of after) (with_selected k d.id) = record {
      defined = λ id h. found_before d s.received.tables id h;
      selected = ap (option_map (λ (t : Definition). t.id)) (define_selects s.received d);
      last = λ id. kept_or_gone id (is_some (table_at after.received.tables id)) refl (is_some (table_at s.received.tables id)) refl;
    } in
    let less = falls roster (knowledge_of after) (with_selected k d.id) rest knows all in
    omega arith
  where
    keeps : ℕ → Bool
    keeps id = keeps_last d (table_at s.received.tables id) id

    nothing : (o : Option Definition) → is_some o ≡ false → o ≡ None
    nothing None e = refl
    nothing (Some t) e = cc

    or_first : (a b : Bool) → (a || b) ≡ true → b ≡ false → a ≡ true
    or_first true b h e = refl
    or_first false b h e = let bad : true ≡ false = sym h ∙ e in cc

    kept_or_gone : (id : ℕ) (b : Bool) → is_some (table_at (defined d s.received.tables) id) ≡ b → (c : Bool) → is_some (table_at s.received.tables id) ≡ c → (cond b (last_of (filter (λ l. keeps_last d (table_at s.received.tables l.0) l.0) s.last_numbers) id) None ≡ cond c (last_of s.last_numbers id) None) ⊎ (cond b (last_of (filter (λ l. keeps_last d (table_at s.received.tables l.0) l.0) s.last_numbers) id) None ≡ None)
    kept_or_gone id false e c f = inr refl
    kept_or_gone id true e true f = last-filter keeps s.last_numbers id
    kept_or_gone id true e false f =
        let here : eqb id d.id ≡ true = or_first (eqb id d.id) (is_some (table_at s.received.tables id)) (found_before d s.received.tables id e) f in
        let dropped : keeps id ≡ false = rw (nothing (table_at s.received.tables id) f, here) refl in
        inr (last-dropped keeps s.last_numbers id dropped)

-- a switch to a received table pays
switch_pays : (roster : List Definition) (s : State) (id : ℕ) (d : Definition) (rest : List Update) → table_at s.received.tables id ≡ Some d → AllByRecursion (IsOfRoster roster) rest
    → cost roster s rest ≤ size_of (messages.Switch id) + cost roster (record { received = received_after s.received (messages.Switch id); last_numbers = s.last_numbers; slots = s.slots }) rest
switch_pays roster s id d rest found all =
    let k = knowledge_of s in
    let after : State = record { received = received_after s.received (messages.Switch id); last_numbers = s.last_numbers; slots = s.slots } in
    let known : k.is_defined id ≡ true = rw found refl in
    let paid = switched_pays roster k id rest known all in
    let knows : KnowsLess (knowledge_of after) (with_selected k id) = record {
      defined = λ other h. or_true (eqb other id) (is_some (table_at s.received.tables other)) h;
      selected = ap (option_map (λ (t : Definition). t.id)) found ∙ ap (λ (n : ℕ). Some n) (table_at-id s.received.tables id d found);
      last = λ other. inl refl;
    } in
    let less = falls roster (knowledge_of after) (with_selected k id) rest knows all in
    omega arith

-- the name field of a fitting update fits the selected table
pub name_fitting : (h : Received) (m : UpdateFields) (d : Definition) → fits h (messages.Update m) ≡ true → selected_table h ≡ Some d → name_fits d m.name ≡ true
unfolding fits
name_fitting h m d fit sel = last-part (sym (rw sel refl) ∙ fit)
  where
    and-left : (a b : Bool) → (a && b) ≡ true → a ≡ true
    and-left true b h = refl
    and-left false b h = h

    and-right : (a b : Bool) → (a && b) ≡ true → b ≡ true
    and-right true b h = h
    and-right false b h = cc

    last-part : (update_fits d m && nat_le (length (data_of (messages.Update m))) most_data) ≡ true → name_fits d m.name ≡ true
    last-part e = and-right _ (name_fits d m.name) (and-left (update_fits d m) _ e)

pub moved_last : (b c : Bool) (l : Option ℕ) (n : ℕ) → (c ≡ true → b ≡ true) → cond b (cond c (Some n) l) None ≡ cond c (Some n) (cond b l None)
moved_last true true l n there = refl
moved_last true false l n there = refl
moved_last false true l n there = let bad : false ≡ true = there refl in cc
moved_last false false l n there = refl

pub is_there : (ds : List Definition) (table id : ℕ) (d : Definition) → table_at ds table ≡ Some d → eqb id table ≡ true → is_some (table_at ds id) ≡ true
is_there ds table id d here same = elim (cases_eq id table) [
  | inl is ↦ subst (λ (n : ℕ). is_some (table_at ds n) ≡ true) (sym is) (rw here refl)
  | inr other ↦ let bad : false ≡ true = sym (ne_eqb id table other) ∙ same in cc
]

-- an update pays, including for what it saves by reading a name
take_pays : (roster : List Definition) (s mid : State) (m : UpdateFields) (d : Definition) (table number : ℕ) (name : Option (List ℕ)) (rest : List Update) → AreOwn roster s.received.tables → AllByRecursion (IsOfRoster roster) rest
    → selected_table s.received ≡ Some d → d.id ≡ table → name_fits d m.name ≡ true → Named s.slots m.name name mid.slots → resolved_number m.number (last_of s.last_numbers table) ≡ Some number → mid.received ≡ s.received → mid.last_numbers ≡ set_last table number s.last_numbers
    → cost roster s (resolved m table number name ∷ rest) ≤ size_of (messages.Update m) + saving roster (knowledge_of s) (messages.Update m) (resolved m table number name ∷ []) + cost roster mid rest
take_pays roster s mid m d table number name rest own all sel is fit named numbered received last_numbers =
    let k = knowledge_of s in
    let u : Update = resolved m table number name in
    let found = selected-found s.received d sel in
    let listed_d : table_at roster d.id ≡ Some d = table_at-passes (λ (t : Definition). table_at roster t.id ≡ Some t) s.received.tables found.0 d own found.1 in
    let listed : table_at roster table ≡ Some d = subst (λ (n : ℕ). table_at roster n ≡ Some d) is listed_d in
    let here : table_at s.received.tables table ≡ Some d = subst (λ (n : ℕ). table_at s.received.tables n ≡ Some d) (sym (table_at-id s.received.tables found.0 d found.1) ∙ is) found.1 in
    let known : k.last table ≡ last_of s.last_numbers table = rw here refl in
    let paid = update_pays roster k d m u s.slots mid.slots listed fit named refl refl refl (ap (λ (l : Option ℕ). resolved_number m.number l) known ∙ numbered) in
    let selected : selection_cost roster k table ≡ 0 = rw (sel, eq-eqb d.id table is) refl in
    let knows : KnowsLess (knowledge_of mid) (knowledge_after k u) = record {
      defined = λ id h. or_true (eqb id table) (is_some (table_at s.received.tables id)) (subst (λ (x : Received). is_some (table_at x.tables id) ≡ true) received h);
      selected = ap (λ (x : Received). option_map (λ (t : Definition). t.id) (selected_table x)) received ∙ ap (option_map (λ (t : Definition). t.id)) sel ∙ ap (λ (n : ℕ). Some n) is;
      last = λ id. inl (
          ap (λ (x : Received). cond (is_some (table_at x.tables id)) (last_of mid.last_numbers id) None) received
          ∙ ap (λ (ls : List (ℕ × ℕ)). cond (is_some (table_at s.received.tables id)) (last_of ls id) None) last_numbers
          ∙ ap (λ (l : Option ℕ). cond (is_some (table_at s.received.tables id)) l None) (last-put table number s.last_numbers id)
          ∙ moved_last (is_some (table_at s.received.tables id)) (eqb id table) (last_of s.last_numbers id) number (is_there s.received.tables table id d here)
          );
    } in
    let less = falls roster (knowledge_of mid) (knowledge_after k u) rest knows all in
    omega arith

-- a step pays for what it saves
pub step_pays : (roster : List Definition) (s mid : State) (m : Message) (one rest : List Update) → AreOwn roster s.received.tables → IsOwn roster m → AllByRecursion (IsOfRoster roster) rest → Step s m one mid → cost roster s (one ++ rest) ≤ size_of m + saving roster (knowledge_of s) m one + cost roster mid rest
step_pays roster s mid (messages.Define d) one rest own is_own all (fit, none, is) =
    let paid = define_pays roster s d rest is_own all in
    rw (none, is) (omega arith)
step_pays roster s mid (messages.Switch id) one rest own is_own all (fit, none, is) =
    let found = switch_found s.received id fit in
    let paid = switch_pays roster s id found.0 rest found.1 all in
    rw (none, is) (omega arith)
step_pays roster s mid (messages.Update m) one rest own is_own all (fit, table, on, number, numbered, name, named, carried, received, last_numbers) =
    let sel = selection s.received m fit in
    let same : Some sel.0.id ≡ Some table = sym (selected-id s.received sel.0 sel.1) ∙ on in
    let id : sel.0.id ≡ table = cc in
    let paid = take_pays roster s mid m sel.0 table number name rest own all sel.1 id (name_fitting s.received m sel.0 fit sel.1) named numbered received last_numbers in
    rw carried (omega arith)
step_pays roster s mid (messages.Control c) one rest own is_own all (fit, none, is) = stays_pays roster s mid (messages.Control c) one rest none is
step_pays roster s mid (messages.Error e) one rest own is_own all (fit, none, is) = stays_pays roster s mid (messages.Error e) one rest none is
step_pays roster s mid (messages.Ack table number) one rest own is_own all (fit, none, is) = stays_pays roster s mid (messages.Ack table number) one rest none is
step_pays roster s mid (messages.Other o) one rest own is_own all (fit, none, is) = stays_pays roster s mid (messages.Other o) one rest none is

-- what is received after a legal step is the roster's own
pub own_stays : (roster : List Definition) (s mid : State) (m : Message) (one : List Update) → AreOwn roster s.received.tables → IsOwn roster m → Step s m one mid → AreOwn roster mid.received.tables
own_stays roster s mid (messages.Define d) one own is_own (fit, none, is) = subst (λ (x : State). AreOwn roster x.received.tables) (sym is) (AreOwn-defined roster d s.received.tables is_own own)
own_stays roster s mid (messages.Switch id) one own is_own (fit, none, is) = subst (λ (x : State). AreOwn roster x.received.tables) (sym is) own
own_stays roster s mid (messages.Update m) one own is_own (fit, table, on, number, numbered, name, named, carried, received, last_numbers) = subst (λ (x : Received). AreOwn roster x.tables) (sym received) own
own_stays roster s mid (messages.Control c) one own is_own (fit, none, is) = subst (λ (x : State). AreOwn roster x.received.tables) (sym is) own
own_stays roster s mid (messages.Error e) one own is_own (fit, none, is) = subst (λ (x : State). AreOwn roster x.received.tables) (sym is) own
own_stays roster s mid (messages.Ack table number) one own is_own (fit, none, is) = subst (λ (x : State). AreOwn roster x.received.tables) (sym is) own
own_stays roster s mid (messages.Other o) one own is_own (fit, none, is) = subst (λ (x : State). AreOwn roster x.received.tables) (sym is) own

-- what holds of each of some updates holds of each of the rest
pub all_rest : (p : Update → Type 0) (one rest us : List Update) → us ≡ one ++ rest → AllByRecursion p us → AllByRecursion p rest
all_rest p one rest us is all = in_rest one (subst (λ (l : List Update). AllByRecursion p l) is all)
  where
    in_rest : (one : List Update) → AllByRecursion p (one ++ rest) → AllByRecursion p rest
    in_rest [] all = all
    in_rest (u ∷ us) all = in_rest us all.1

-- messages pay for what they save
pub list_pays : (roster : List Definition) (s e : State) (ms : List Message) (us : List Update) → AreOwn roster s.received.tables → AllByRecursion (IsOfRoster roster) us → Legal roster s ms us e → (saved : ℕ) × Saves roster s ms us saved × (cost roster s us ≤ size_of_all ms + saved)
list_pays roster s e [] us own all (owns, (none, same)) = (0, refl, rw none (omega arith))
list_pays roster s e (m ∷ ms) us own all (owns, (one, rest, mid, is, step, later)) =
    let of_roster = all_rest (IsOfRoster roster) one rest us is all in
    let others = list_pays roster mid e ms rest (own_stays roster s mid m one own owns.0 step) of_roster (owns.1, later) in
    let here = step_pays roster s mid m one rest own owns.0 of_roster step in
    let sum : size_of_all (m ∷ ms) ≡ size_of m + size_of_all ms = sum_by-cons size_of m ms in
    let both : cost roster s us ≡ cost roster s (one ++ rest) = ap (cost roster s) is in
    (saving roster (knowledge_of s) m one + others.0, (one, rest, mid, others.0, is, step, refl, others.1), omega arith)
