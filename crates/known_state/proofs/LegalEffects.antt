-- What the effect of a legal message does, and why a known state refuses an update.
use Rattle.std.proofs.Common.{◌≡◌, ℕ, Bool, true, false, List, Option, Some, None, refl, sym, ap, subst, ◌∙◌}
use Rattle.std.specs.Prelude.{◌≢◌, is_some, option_map}
use Rattle.std.proofs.lemmas.Bool.{eq-eqb}
use Rattle.table_types.specs.declared.update.Update.{Update}
use Rattle.table_types.specs.Tables.{Definition}
use Rattle.table_types.specs.Rosters.{table_at, has_id}
use Rattle.peers_msg.specs.declared.name_field.NameField.{NameField}
use Rattle.table_types.specs.Shapes.{is_same_definition}
use Rattle.table_types.proofs.OneTableByShape.{means_shape, same_definition}
use Rattle.peers_msg.specs.declared.message.Message.{Message}
use Rattle.peers_msg.specs.declared.message.Message.TheVariants as messages
use Rattle.peers_msg.specs.Messages.{UpdateFields}
use Rattle.peers_msg.specs.OwnTables.{is_own}
use Rattle.peers_msg.specs.Received.{selected_table}
use Rattle.peers_msg.specs.Fitting.{fits}
use Rattle.known_state.specs.State.{State, Step, IsOwn}
use Rattle.known_state.specs.Effects.{Resolves, carried_by, made, refusal_of}
use Rattle.known_state.specs.Known.{KnownState, AreOwn, IsLegalEffect, IsTakenBy, as_step_error, update_refusal}
use Rattle.known_state.specs.declared.effect.Effect.{Effect}
use Rattle.known_state.specs.declared.effect.Effect.TheVariants as effects
use Rattle.known_state.specs.declared.effect.ResolvedUpdate.{ResolvedUpdate}
use Rattle.known_state.specs.declared.effect.Refusal.{Refusal}
use Rattle.known_state.specs.declared.known.StepError.TheVariants as step_errors
use Rattle.known_state.proofs.EffectsAreSteps.{effect_steps, resolved_steps}
use Rattle.known_state.proofs.StepPays.{own_stays}

-- the effect of a legal message makes its step, in a known state with these parts
pub legal_step : (k : KnownState) (roster : List Definition) (s e : State) (m : Message) (effect : Effect) → ◌≡◌ {A = KnownState} (record { roster = roster; state = s }) k → IsLegalEffect k m effect → e ≡ made s effect → (us : List Update) × Step k.state m us e × IsOwn k.roster m
legal_step k roster s e m effect view (fit, own, is) made_is =
    let here : e ≡ made k.state effect = made_is ∙ ap (λ (x : KnownState). made x.state effect) view in
    (carried_by k.state m effect, subst (λ (x : State). Step k.state m (carried_by k.state m effect) x) (sym here) (effect_steps k.state m effect fit is), own)

-- and what is received afterwards is the roster's own
pub legal_own : (k : KnownState) (roster : List Definition) (s e : State) (m : Message) (effect : Effect) → ◌≡◌ {A = KnownState} (record { roster = roster; state = s }) k → AreOwn roster s.received.tables → IsLegalEffect k m effect → e ≡ made s effect → AreOwn roster e.received.tables
legal_own k roster s e m effect view all legal made_is =
    let step = legal_step k roster s e m effect view legal made_is in
    let all_k : AreOwn k.roster k.state.received.tables = subst (λ (x : KnownState). AreOwn x.roster x.state.received.tables) view all in
    let after : AreOwn k.roster e.received.tables = own_stays k.roster k.state e m step.0 all_k step.2 step.1 in
    subst (λ (x : KnownState). AreOwn x.roster e.received.tables) (sym view) after

-- what a resolved update makes is its step, in a known state with these parts
pub resolved_step : (k : KnownState) (roster : List Definition) (s e : State) (number : Option ℕ) (field : NameField) → ◌≡◌ {A = KnownState} (record { roster = roster; state = s }) k → (r : ResolvedUpdate) × Resolves s number field r × (e ≡ made s (effects.Update r))
    → (u : UpdateFields) → u.number ≡ number → u.name ≡ field → fits k.state.received (messages.Update u) ≡ true → (us : List Update) × Step k.state (messages.Update u) us e
resolved_step k roster s e number field view found u is_number is_field fit =
    let here = subst (λ (x : KnownState). (r : ResolvedUpdate) × Resolves x.state number field r × (e ≡ made x.state (effects.Update r))) view found in
    resolved_steps k.state e number field here.0 here.1 here.2 u is_number is_field fit

-- ---- updates

-- a known state refuses a fitting update of the selected table for the reason its state gives
pub refused_so : (k : KnownState) (u : UpdateFields) (d : Definition) → selected_table k.state.received ≡ Some d → fits k.state.received (messages.Update u) ≡ true → update_refusal k u (selected_table k.state.received) ≡ option_map as_step_error (refusal_of k.state u.number u.name)
refused_so k u d sel fit =
    let here : update_refusal k u (selected_table k.state.received) ≡ update_refusal k u (Some d) = ap (λ (o : Option Definition). update_refusal k u o) sel in
    here ∙ rw fit refl

-- the known state passes on whether its state refuses the update, and why
pub refusal_here : (k : KnownState) (s : State) (u : UpdateFields) (d : Definition) (number : Option ℕ) (field : NameField) (refusal : Option Refusal) → s ≡ k.state → number ≡ u.number → field ≡ u.name → selected_table k.state.received ≡ Some d → fits k.state.received (messages.Update u) ≡ true
    → refusal ≡ refusal_of s number field → update_refusal k u (selected_table k.state.received) ≡ option_map as_step_error refusal
refusal_here k s u d number field refusal is_s is_number is_field sel fit is =
    let here : refusal_of k.state u.number u.name ≡ refusal = rw (← is_s, ← is_number, ← is_field) (sym is) in
    refused_so k u d sel fit ∙ ap (λ (o : Option Refusal). option_map as_step_error o) here

-- ---- messages that are refused only if memory runs out

-- such an update fits, and its state doesn't refuse it
pub taken_update : (k : KnownState) (u : UpdateFields) → IsTakenBy k (messages.Update u) → (d : Definition) × (selected_table k.state.received ≡ Some d) × (fits k.state.received (messages.Update u) ≡ true) × (refusal_of k.state u.number u.name ≡ None)
taken_update k u taken = at (selected_table k.state.received) refl (fits k.state.received (messages.Update u)) refl (refusal_of k.state u.number u.name) refl
  where
    at : (o : Option Definition) → selected_table k.state.received ≡ o → (f : Bool) → fits k.state.received (messages.Update u) ≡ f → (r : Option Refusal) → refusal_of k.state u.number u.name ≡ r → (d : Definition) × (selected_table k.state.received ≡ Some d) × (fits k.state.received (messages.Update u) ≡ true) × (refusal_of k.state u.number u.name ≡ None)
    at None is f fit r refused = absurd (taken step_errors.NoTable (ap (λ (x : Option Definition). update_refusal k u x) is))
    at (Some d) is false fit r refused = absurd (taken step_errors.Foreign (ap (λ (x : Option Definition). update_refusal k u x) is ∙ rw fit refl))
    at (Some d) is true fit None refused = (d, is, fit, refused)
    at (Some d) is true fit (Some r) refused = absurd (taken (as_step_error r) (refused_so k u d is fit ∙ ap (λ (x : Option Refusal). option_map as_step_error x) refused))

-- such a switch selects a table that is defined
pub taken_switch : (k : KnownState) (id : ℕ) → IsTakenBy k (messages.Switch id) → is_some (table_at k.state.received.tables id) ≡ true
taken_switch k id taken = at (has_id id k.roster) refl (table_at k.state.received.tables id) refl
  where
    at : (b : Bool) → has_id id k.roster ≡ b → (o : Option Definition) → table_at k.state.received.tables id ≡ o → is_some (table_at k.state.received.tables id) ≡ true
    at false own o is = absurd (taken step_errors.Foreign (rw own refl))
    at true own None is = absurd (taken step_errors.NotDefined (rw (own, is) refl))
    at true own (Some d) is = rw is refl

same_as_itself : (d : Definition) → is_same_definition d d ≡ true
same_as_itself d = rw (eq-eqb d.id d.id refl, eq-eqb d.expire d.expire refl, means_shape d d refl) refl

-- a definition that isn't the roster's own isn't the one that its id stands for
pub not_own : (roster : List Definition) (d : Definition) → is_own roster d ≡ false → table_at roster d.id ≢ Some d
not_own roster d other found =
    let own : is_own roster d ≡ true = rw found (same_as_itself d) in
    let bad : false ≡ true = sym other ∙ own in
    absurd cc

-- and such a definition is the roster's own
pub taken_define : (k : KnownState) (d : Definition) → IsTakenBy k (messages.Define d) → table_at k.roster d.id ≡ Some d
taken_define k d taken = at (table_at k.roster d.id) refl
  where
    by_test : (own : Definition) → table_at k.roster d.id ≡ Some own → (b : Bool) → is_same_definition own d ≡ b → table_at k.roster d.id ≡ Some d
    by_test own is true same = is ∙ ap (λ (x : Definition). Some x) (same_definition own d same)
    by_test own is false other =
        absurd (taken step_errors.Foreign (λ found. let one : Some own ≡ Some d = sym is ∙ found in let own_is : own ≡ d = cc in let bad : false ≡ true = sym other ∙ ap (λ (x : Definition). is_same_definition x d) own_is ∙ same_as_itself d in absurd cc, refl))

    at : (o : Option Definition) → table_at k.roster d.id ≡ o → table_at k.roster d.id ≡ Some d
    at None is = absurd (taken step_errors.Foreign (λ found. let bad : None ≡ Some d = sym is ∙ found in absurd cc, refl))
    at (Some own) is = by_test own is (is_same_definition own d) refl
