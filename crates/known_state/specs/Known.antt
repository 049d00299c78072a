-- What a teacher knows of its learner, and why a message is refused there (profile).
use Rattle.std.specs.Prelude.{◌≡◌, ◌≢◌, ◌==◌, ◌&&◌, ℕ, Bool, true, false, not, ◌||◌, List, [], ◌∷◌, fold, is_none, Option, Some, None, option_map, codes, if◌then◌else◌}
use Rattle.std.specs.List.{AllByRecursion, list_any, list_all}
use Rattle.table_types.specs.Tables.{Definition}
use Rattle.table_types.specs.Rosters.{table_at, has_id}
use Rattle.peers_msg.specs.declared.message.Message.{Message}
use Rattle.peers_msg.specs.declared.message.Message.TheVariants as messages
use Rattle.peers_msg.specs.Messages.{UpdateFields}
use Rattle.peers_msg.specs.Received.{nothing_received, resumed, selected_table}
use Rattle.peers_msg.specs.Fitting.{fits}
use Rattle.peers_msg.specs.OwnTables.{own_part}
use Rattle.dict_slots.specs.Slots.{no_names}
use Rattle.known_state.specs.State.{State, IsOwn}
use Rattle.known_state.specs.Effects.{IsEffect, refusal_of}
use Rattle.known_state.specs.LastNumbers.{set_last, own_last_numbers}
use Rattle.known_state.specs.declared.effect.Effect.{Effect}
use Rattle.known_state.specs.declared.effect.Refusal.{Refusal}
use Rattle.known_state.specs.declared.effect.Refusal.TheVariants as refusals
use Rattle.known_state.specs.declared.known.KnownError.{KnownError}
use Rattle.known_state.specs.declared.known.KnownError.TheVariants as build_errors
use Rattle.known_state.specs.declared.known.StepError.{StepError}
use Rattle.known_state.specs.declared.known.StepError.TheVariants as step_errors

-- a roster, and the state of a learner of its tables
pub record KnownState : Type 0 where
  pub roster : List Definition
  pub state : State

-- each received id stands for a definition of the roster
abbrev pub AreOwn : List Definition → List Definition → Type 0
AreOwn roster ds = AllByRecursion (λ d. table_at roster d.id ≡ Some d) ds

-- a learner of the roster that has received nothing
abbrev pub fresh_of : List Definition → KnownState
fresh_of roster = record { roster = roster; state = record { received = nothing_received; last_numbers = []; slots = no_names } }

-- the same knowledge without the names: no slot is known to hold one
abbrev pub without_names : KnownState → KnownState
without_names k = record { roster = k.roster; state = record { received = k.state.received; last_numbers = k.state.last_numbers; slots = no_names } }

abbrev pub is_in : ℕ → List ℕ → Bool
is_in id ids = list_any (λ other. other == id) ids

abbrev pub repeats : List ℕ → Bool
repeats [] = false
repeats (id ∷ ids) = is_in id ids || repeats ids

abbrev pub has_last : ℕ → List (ℕ × ℕ) → Bool
has_last id last_numbers = list_any (λ l. l.0 == id) last_numbers

abbrev pub repeats_last : List (ℕ × ℕ) → Bool
repeats_last [] = false
repeats_last (l ∷ ls) = has_last l.0 ls || repeats_last ls

abbrev pub or_none : (ℕ → Bool) → Option ℕ → Bool
or_none test None = true
or_none test (Some id) = test id

-- each id is in the roster
abbrev pub are_known : List Definition → Option ℕ → List ℕ → List (ℕ × ℕ) → Bool
are_known roster selected defined last_numbers =
    or_none (λ id. has_id id roster) selected && list_all (λ id. has_id id roster) defined && list_all (λ l. has_id l.0 roster) last_numbers

-- every id that is selected or has a last number is defined
abbrev pub are_defined : Option ℕ → List ℕ → List (ℕ × ℕ) → Bool
are_defined selected defined last_numbers = or_none (λ id. is_in id defined) selected && list_all (λ l. is_in l.0 defined) last_numbers

-- the first fault in the parts of a known state: an id that the roster lacks, an id that is selected or has a last
-- number but isn't defined, or an id that is defined twice or has two last numbers
abbrev pub build_fault : List Definition → Option ℕ → List ℕ → List (ℕ × ℕ) → Option KnownError
build_fault roster selected defined last_numbers =
    if not (are_known roster selected defined last_numbers) then Some build_errors.NoTable
    else (if not (are_defined selected defined last_numbers) then Some build_errors.NotDefined
    else (if repeats defined || repeats_last last_numbers then Some build_errors.Repeated
    else None))

-- last numbers put one after another
abbrev pub last_numbers_put : List (ℕ × ℕ) → List (ℕ × ℕ)
last_numbers_put last_numbers = fold (λ placed l. set_last l.0 l.1 placed) [] last_numbers

-- the known state with these parts
abbrev pub built : List Definition → Option ℕ → List ℕ → List (ℕ × ℕ) → List (Option (List ℕ)) → KnownState
built roster selected defined last_numbers slots = record { roster = roster; state = record { received = resumed roster defined selected; last_numbers = last_numbers_put last_numbers; slots = slots } }

-- why a switch is refused
abbrev pub switch_refusal : KnownState → ℕ → Option StepError
switch_refusal k id =
    if not (has_id id k.roster) then Some step_errors.Foreign
    else (if is_none (table_at k.state.received.tables id) then Some step_errors.NotDefined else None)

-- a state's refusal as a refusal of the known state
abbrev pub as_step_error : Refusal → StepError
as_step_error refusals.NoNumber = step_errors.NoNumber
as_step_error refusals.EmptySlot = step_errors.EmptySlot
as_step_error refusals.Memory = step_errors.Memory

-- why an update is refused, given the selected table
abbrev pub update_refusal : KnownState → UpdateFields → Option Definition → Option StepError
update_refusal k u None = Some step_errors.NoTable
update_refusal k u (Some d) =
    if not (fits k.state.received (messages.Update u)) then Some step_errors.Foreign
    else option_map as_step_error (refusal_of k.state u.number u.name)

-- Why a known state refuses a message. An update: no table is selected, or the update doesn't fit, or the state refuses
-- it. A definition: it isn't the roster's own. A switch: its id isn't in the roster, or its table isn't defined yet.
abbrev pub Refuses : KnownState → Message → StepError → Type 0
Refuses k (messages.Update u) e = update_refusal k u (selected_table k.state.received) ≡ Some e
Refuses k (messages.Define d) e = (table_at k.roster d.id ≢ Some d) × (e ≡ step_errors.Foreign)
Refuses k (messages.Switch id) e = switch_refusal k id ≡ Some e
Refuses k m e = ⊥

-- the name of the cause
abbrev pub step_error_name : StepError → List ℕ
step_error_name step_errors.NotDefined = codes "NotDefined"
step_error_name step_errors.NoTable = codes "NoTable"
step_error_name step_errors.NoNumber = codes "NoNumber"
step_error_name step_errors.EmptySlot = codes "EmptySlot"
step_error_name step_errors.Foreign = codes "Foreign"
step_error_name step_errors.Memory = codes "Memory"

-- the message is refused for no cause, unless memory runs out
abbrev pub IsTakenBy : KnownState → Message → Type 0
IsTakenBy k m = (e : StepError) → Refuses k m e → ⊥

-- the message is legal in the known state, and this is its effect
abbrev pub IsLegalEffect : KnownState → Message → Effect → Type 0
IsLegalEffect k m effect = (fits k.state.received m ≡ true) × IsOwn k.roster m × IsEffect k.state m effect

-- the tables of the roster whose id stands for that very definition are defined, with the learner's last numbers of
-- them; the slots are the learner's, and the selected table stays selected if it is one of them
abbrev pub known_of : List Definition → State → KnownState
known_of roster s = record { roster = roster; state = record { received = own_part roster s.received; last_numbers = own_last_numbers roster s.received s.last_numbers; slots = s.slots } }
