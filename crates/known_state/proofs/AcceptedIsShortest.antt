-- No legal list of messages is shorter than the bound allows, and an accepted plan attains the bound.
use Rattle.std.proofs.Common.{◌≡◌, ℕ, ◌+◌, ◌≤◌, List, [], ◌∷◌, ◌++◌, length, Some, None, sym, ◌∙◌, subst, arith}
use Rattle.std.specs.List.{AllByRecursion}
use Rattle.table_types.specs.declared.update.Update.{Update}
use Rattle.table_types.specs.Tables.{Definition}
use Rattle.table_types.specs.Rosters.{table_at, roster_fault}
use Rattle.peers_msg.specs.declared.message.Message.{Message}
use Rattle.peers_msg.specs.declared.message.Message.TheVariants as messages
use Rattle.peers_msg.specs.Spelling.{size_of_all}
use Rattle.known_state.specs.State.{State, Step, Teaches, IsOwn, Legal}
use Rattle.known_state.specs.Known.{KnownState, AreOwn}
use Rattle.known_state.specs.Cost.{full, knowledge_of, IsOfRoster}
use Rattle.known_state.specs.Requests.{Asked, requests_of, reads_of}
use Rattle.known_state.specs.Shortest.{Shortest}
use Rattle.known_state.specs.Plans.{Plan, Accepts, all_links, bound, kept_savings, links, names_in}
use Rattle.known_state.proofs.ReceivedIsOwn.{table_at-passes}
use Rattle.known_state.proofs.RefusedIsNoStep.{selection}
use Rattle.known_state.proofs.FitsOrIsRefused.{selected-id, selected-found}
use Rattle.known_state.proofs.StepPays.{own_stays}
use Rattle.known_state.proofs.ReadsPay.{reads_pay, marks_fit}
use Rattle.known_state.proofs.SavingsAreBounded.{reads_save, savings_bounded}
use Rattle.known_state.proofs.ReadsNeedSlots.{reads_linked, reads_room}

-- ---- the updates carried belong to tables of the roster

both : (p : Update → Type 0) (one rest : List Update) → AllByRecursion p one → AllByRecursion p rest → AllByRecursion p (one ++ rest)
both p [] rest here later = later
both p (u ∷ us) rest here later = (here.0, both p us rest here.1 later)

nothing : (roster : List Definition) (one : List Update) → one ≡ [] → AllByRecursion (IsOfRoster roster) one
nothing roster one none = subst (λ (l : List Update). AllByRecursion (IsOfRoster roster) l) (sym none) tt

step_of_roster : (roster : List Definition) (s mid : State) (m : Message) (one : List Update) → AreOwn roster s.received.tables → Step s m one mid → AllByRecursion (IsOfRoster roster) one
step_of_roster roster s mid (messages.Update m) one own (fit, table, on, number, numbered, name, named, carried, received, last_numbers) =
    let sel = selection s.received m fit in
    let found = selected-found s.received sel.0 sel.1 in
    let same : Some sel.0.id ≡ Some table = sym (selected-id s.received sel.0 sel.1) ∙ on in
    let id : sel.0.id ≡ table = cc in
    let listed : table_at roster sel.0.id ≡ Some sel.0 = table_at-passes (λ (t : Definition). table_at roster t.id ≡ Some t) s.received.tables found.0 sel.0 own found.1 in
    subst (λ (l : List Update). AllByRecursion (IsOfRoster roster) l) (sym carried) ((sel.0, subst (λ (n : ℕ). table_at roster n ≡ Some sel.0) id listed), tt)
step_of_roster roster s mid (messages.Define d) one own (fit, none, is) = nothing roster one none
step_of_roster roster s mid (messages.Switch id) one own (fit, none, is) = nothing roster one none
step_of_roster roster s mid (messages.Control c) one own (fit, none, is) = nothing roster one none
step_of_roster roster s mid (messages.Error e) one own (fit, none, is) = nothing roster one none
step_of_roster roster s mid (messages.Ack table number) one own (fit, none, is) = nothing roster one none
step_of_roster roster s mid (messages.Other o) one own (fit, none, is) = nothing roster one none

of_roster : (roster : List Definition) (s e : State) (ms : List Message) (us : List Update) → AreOwn roster s.received.tables → AllByRecursion (IsOwn roster) ms → Teaches s ms us e → AllByRecursion (IsOfRoster roster) us
of_roster roster s e [] us own owns (none, same) = nothing roster us none
of_roster roster s e (m ∷ ms) us own owns (one, rest, mid, is, step, later) =
    let here = step_of_roster roster s mid m one own step in
    let others = of_roster roster mid e ms rest (own_stays roster s mid m one own owns.0 step) owns.1 later in
    subst (λ (l : List Update). AllByRecursion (IsOfRoster roster) l) (sym is) (both (IsOfRoster roster) one rest here others)

pub legal_of_roster : (roster : List Definition) (s e : State) (ms : List Message) (us : List Update) → AreOwn roster s.received.tables → Legal roster s ms us e → AllByRecursion (IsOfRoster roster) us
legal_of_roster roster s e ms us own legal = of_roster roster s e ms us own legal.0 legal.1

-- ---- no legal list is shorter

-- a legal list is at least as long as the lesson with every name written, less what the links that it reads save
pub links_pay : (roster : List Definition) (s e : State) (ms : List Message) (us : List Update) → roster_fault roster ≡ None → AreOwn roster s.received.tables → length s.slots ≡ 128 → Legal roster s ms us e
    → full roster s us ≤ size_of_all ms + kept_savings (links (names_in s.slots) (requests_of roster (knowledge_of s) us) (reads_of ms))
links_pay roster s e ms us sound own many legal =
    let pay = reads_pay roster s e ms us sound own (legal_of_roster roster s e ms us own legal) legal in
    let linked = reads_linked roster (knowledge_of s) s e ms us many legal.1 in
    let saved = reads_save (names_in s.slots) (requests_of roster (knowledge_of s) us) (reads_of ms) linked in
    omega arith

-- so it is at least that long less the bound
pub none_below_bound : (roster : List Definition) (s e : State) (ms : List Message) (us : List Update) (prices : List ℕ) → roster_fault roster ≡ None → AreOwn roster s.received.tables → length s.slots ≡ 128 → Legal roster s ms us e
    → full roster s us ≤ size_of_all ms + bound 128 (all_links (names_in s.slots) (requests_of roster (knowledge_of s) us)) prices
none_below_bound roster s e ms us prices sound own many legal =
    let rs : List Asked = requests_of roster (knowledge_of s) us in
    let pay = links_pay roster s e ms us sound own many legal in
    let most = savings_bounded 128 (names_in s.slots) rs (reads_of ms) prices (marks_fit roster (knowledge_of s) s e ms us legal.1) (λ place. reads_room roster (knowledge_of s) s e ms us place many legal.1) in
    omega arith

-- a list that saves the bound is a shortest one
pub tight_shortest : (k : KnownState) (e : State) (ms : List Message) (us : List Update) (prices : List ℕ) → roster_fault k.roster ≡ None → AreOwn k.roster k.state.received.tables → length k.state.slots ≡ 128 → Legal k.roster k.state ms us e
    → size_of_all ms + bound 128 (all_links (names_in k.state.slots) (requests_of k.roster (knowledge_of k.state) us)) prices ≡ full k.roster k.state us → Shortest k us ms
tight_shortest k e ms us prices sound own many legal tight = (e, legal, λ others end fits. no_longer others (none_below_bound k.roster k.state end others us prices sound own many fits))
  where
    no_longer : (others : List Message) → full k.roster k.state us ≤ size_of_all others + bound 128 (all_links (names_in k.state.slots) (requests_of k.roster (knowledge_of k.state) us)) prices → size_of_all ms ≤ size_of_all others
    no_longer others le = omega arith

-- so is a list that saves as much as an accepted plan, and its saving is the bound of the plan's prices
pub accepted_shortest : (k : KnownState) (e : State) (ms : List Message) (us : List Update) (plan : Plan) → roster_fault k.roster ≡ None → AreOwn k.roster k.state.received.tables → length k.state.slots ≡ 128
    → Accepts 128 (names_in k.state.slots) (requests_of k.roster (knowledge_of k.state) us) plan → Legal k.roster k.state ms us e
    → size_of_all ms + kept_savings (links (names_in k.state.slots) (requests_of k.roster (knowledge_of k.state) us) plan.keep) ≤ full k.roster k.state us
    → (size_of_all ms + bound 128 (all_links (names_in k.state.slots) (requests_of k.roster (knowledge_of k.state) us)) plan.prices ≡ full k.roster k.state us) × Shortest k us ms
accepted_shortest k e ms us plan sound own many accepts legal short =
    let least = none_below_bound k.roster k.state e ms us plan.prices sound own many legal in
    let tight : size_of_all ms + bound 128 (all_links (names_in k.state.slots) (requests_of k.roster (knowledge_of k.state) us)) plan.prices ≡ full k.roster k.state us = omega (arith, accepts.tight) in
    (tight, tight_shortest k e ms us plan.prices sound own many legal tight)
