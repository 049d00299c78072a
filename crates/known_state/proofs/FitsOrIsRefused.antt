-- The steps that a known state makes, and why it refuses messages.
use Rattle.std.proofs.Common.{◌≡◌, ℕ, ◌^◌, ◌<◌, ◌≤◌, true, false, List, [], ◌∷◌, length, Option, Some, None, refl, sym, ap, inl, inr, arith}
use Rattle.std.specs.Option.{option_and_then}
use Rattle.std.specs.Prelude.{is_some}
use Rattle.std.proofs.lemmas.Bool.{cases_eq, eq-eqb, ne_eqb, le-leb, lt-ltb}
use Rattle.peers_encint.specs.Integers.{spelling}
use Rattle.peers_encint.proofs.OneSpelling as integers
use Rattle.table_types.specs.Tables.{Definition, is_definition}
use Rattle.table_types.specs.Rosters.{table_at, has_id}
use Rattle.peers_msg.specs.declared.message.Message.TheVariants as messages
use Rattle.peers_msg.specs.Messages.{UpdateFields, most_data}
use Rattle.peers_msg.specs.Received.{Received, selected_table}
use Rattle.peers_msg.specs.Spelling.{data_of, update_text, definition_text}
use Rattle.peers_msg.specs.Fitting.{fits, update_fits}
use Rattle.peers_msg.proofs.DataLimits.{update_small, definition_small}
use Rattle.known_state.specs.declared.known.StepError.TheVariants as step_errors
use Rattle.known_state.specs.Known.{KnownState, switch_refusal, update_refusal}
use Rattle.known_state.proofs.ReceivedIsOwn.{table_at-id}

-- an id whose table is found is among the tables' ids
pub has_id-table_at : (ds : List Definition) (id : ℕ) → has_id id ds ≡ is_some (table_at ds id)
has_id-table_at [] id = refl
has_id-table_at (x ∷ xs) id = elim (cases_eq x.id id) [
  | inl same ↦ rw (eq-eqb x.id id same) refl
  | inr other ↦ rw (ne_eqb x.id id other) (has_id-table_at xs id)
]

pub define_fits : (h : Received) (d : Definition) → is_definition d ≡ true → fits h (messages.Define d) ≡ true
unfolding fits data_of
define_fits h d is = rw (is, le-leb (length (definition_text d)) most_data (definition_small d is)) refl

pub switch_fits : (h : Received) (id : ℕ) → id < 2 ^ 64 → is_some (table_at h.tables id) ≡ true → fits h (messages.Switch id) ≡ true
unfolding fits data_of
switch_fits h id small found =
    let short : length (spelling id) ≤ most_data = omega (arith, (integers.within id).1) in
    rw (lt-ltb id (2 ^ 64) small, found, le-leb (length (spelling id)) most_data short) refl

pub update_fits_received : (h : Received) (u : UpdateFields) (d : Definition) → selected_table h ≡ Some d → update_fits d u ≡ true → is_definition d ≡ true → fits h (messages.Update u) ≡ true
unfolding fits data_of
update_fits_received h u d sel fit is = rw (sel, fit, le-leb (length (update_text u)) most_data (update_small d u is fit)) refl

-- the selected table is the table of the selected id
pub selected-id : (h : Received) (d : Definition) → selected_table h ≡ Some d → h.selected ≡ Some d.id
selected-id h d sel = at h.selected sel
  where
    at : (o : Option ℕ) → option_and_then (table_at h.tables) o ≡ Some d → o ≡ Some d.id
    at None e = cc
    at (Some id) e = ap (λ (n : ℕ). Some n) (sym (table_at-id h.tables id d e))

pub selected-found : (h : Received) (d : Definition) → selected_table h ≡ Some d → (id : ℕ) × (table_at h.tables id ≡ Some d)
selected-found h d sel = at h.selected sel
  where
    at : (o : Option ℕ) → option_and_then (table_at h.tables) o ≡ Some d → (id : ℕ) × (table_at h.tables id ≡ Some d)
    at None e = cc
    at (Some id) e = (id, e)

-- why a switch is refused
pub foreign_switch : (k : KnownState) (id : ℕ) → table_at k.roster id ≡ None → switch_refusal k id ≡ Some step_errors.Foreign
foreign_switch k id e = rw (has_id-table_at k.roster id, e) refl

pub undefined_switch : (k : KnownState) (id : ℕ) → is_some (table_at k.roster id) ≡ true → table_at k.state.received.tables id ≡ None → switch_refusal k id ≡ Some step_errors.NotDefined
undefined_switch k id own e = rw (has_id-table_at k.roster id, own, e) refl

unfitting : (h : Received) (u : UpdateFields) (d : Definition) → selected_table h ≡ Some d → update_fits d u ≡ false → fits h (messages.Update u) ≡ false
unfolding fits
unfitting h u d sel not_fit = rw (sel, not_fit) refl

-- why an update is refused
pub misfit : (k : KnownState) (u : UpdateFields) (d : Definition) → selected_table k.state.received ≡ Some d → update_fits d u ≡ false → update_refusal k u (selected_table k.state.received) ≡ Some step_errors.Foreign
misfit k u d sel not_fit = rw (sel, unfitting k.state.received u d sel not_fit) refl
