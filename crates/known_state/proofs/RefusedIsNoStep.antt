-- A message that a known state refuses makes no step.
use Rattle.std.proofs.Common.{◌≡◌, ℕ, Bool, true, false, ◌&&◌, List, Option, Some, None, refl, sym, ap, ◌∙◌, subst}
use Rattle.std.specs.Prelude.{is_some, nat_lt, nat_le, ◌^◌, length}
use Rattle.peers_msg.specs.Spelling.{data_of}
use Rattle.table_types.specs.declared.update.Update.{Update}
use Rattle.table_types.specs.Tables.{Definition}
use Rattle.table_types.specs.Rosters.{table_at}
use Rattle.peers_msg.specs.declared.message.Message.{Message}
use Rattle.peers_msg.specs.declared.message.Message.TheVariants as messages
use Rattle.peers_msg.specs.Messages.{UpdateFields, most_data}
use Rattle.peers_msg.specs.Received.{Received, selected_table}
use Rattle.peers_msg.specs.Fitting.{fits}
use Rattle.known_state.specs.State.{State, Step, IsOwn}
use Rattle.known_state.specs.Effects.{refusal_of}
use Rattle.known_state.specs.declared.known.StepError.{StepError}
use Rattle.known_state.specs.Known.{KnownState, AreOwn, Refuses, switch_refusal, update_refusal}
use Rattle.known_state.proofs.ReceivedIsOwn.{table_at-id, table_at-passes}
use Rattle.known_state.proofs.NamedAsResolved.{named_so}
use Rattle.known_state.proofs.FitsOrIsRefused.{has_id-table_at}

pub switch_found : (h : Received) (id : ℕ) → fits h (messages.Switch id) ≡ true → (d : Definition) × (table_at h.tables id ≡ Some d)
unfolding fits
switch_found h id fit = at (table_at h.tables id) refl (middle (nat_lt id (2 ^ 64)) (is_some (table_at h.tables id)) (nat_le (length (data_of (messages.Switch id))) most_data) fit)
  where
    middle : (a b c : Bool) → ((a && b) && c) ≡ true → b ≡ true
    middle true true c h = refl
    middle true false c h = h
    middle false b c h = cc

    at : (o : Option Definition) → table_at h.tables id ≡ o → is_some (table_at h.tables id) ≡ true → (d : Definition) × (table_at h.tables id ≡ Some d)
    at (Some d) e is = (d, e)
    at None e is = let bad : false ≡ true = sym (rw e refl) ∙ is in cc

pub selection : (h : Received) (u : UpdateFields) → fits h (messages.Update u) ≡ true → (d : Definition) × (selected_table h ≡ Some d)
unfolding fits
selection h u fit = at (selected_table h) refl
  where
    at : (o : Option Definition) → selected_table h ≡ o → (d : Definition) × (selected_table h ≡ Some d)
    at (Some d) e = (d, e)
    at None e = let bad : false ≡ true = sym (rw e refl) ∙ fit in cc

pub no_step : (k : KnownState) (m : Message) (e : StepError) (us : List Update) (after : State) → AreOwn k.roster k.state.received.tables → Refuses k m e → IsOwn k.roster m → Step k.state m us after → ⊥
no_step k (messages.Define d) e us after own refuses is_own step = refuses.0 is_own
no_step k (messages.Switch id) e us after own refuses is_own step =
    let found = switch_found k.state.received id step.0 in
    let listed : table_at k.roster found.0.id ≡ Some found.0 = table_at-passes (λ (t : Definition). table_at k.roster t.id ≡ Some t) k.state.received.tables id found.0 own found.1 in
    let here : table_at k.roster id ≡ Some found.0 = subst (λ (n : ℕ). table_at k.roster n ≡ Some found.0) (table_at-id k.state.received.tables id found.0 found.1) listed in
    let none : switch_refusal k id ≡ None = rw (has_id-table_at k.roster id, here, found.1) refl in
    let bad : None ≡ Some e = sym none ∙ refuses in
    cc
no_step k (messages.Update u) e us after own refuses is_own (fit, table, is_table, number, is_number, name, named, carried, received, last_numbers) =
    let sel = selection k.state.received u fit in
    let unrefused : refusal_of k.state u.number u.name ≡ None = rw (is_table, is_number, (named_so k.state.slots u.name name after.slots named).0) refl in
    let here : update_refusal k u (selected_table k.state.received) ≡ update_refusal k u (Some sel.0) = ap (λ (o : Option Definition). update_refusal k u o) sel.1 in
    let none : update_refusal k u (selected_table k.state.received) ≡ None = here ∙ rw (fit, unrefused) refl in
    let bad : None ≡ Some e = sym none ∙ refuses in
    cc
no_step k (messages.Control c) e us after own refuses is_own step = refuses
no_step k (messages.Error c) e us after own refuses is_own step = refuses
no_step k (messages.Ack table number) e us after own refuses is_own step = refuses
no_step k (messages.Other o) e us after own refuses is_own step = refuses
