-- What a session hears: bytes, cut into events in any way, and in between the answers of its tables to the
-- acknowledgements that it passes on (profile).
use Rattle.std.specs.Prelude.{◌≡◌, ℕ, Bool, false, ◌==◌, ◌&&◌, List, [], ◌∷◌, ◌++◌, filter_map, flat_map, if◌then◌else◌}
use Rattle.std.specs.List.{list_any}
use Rattle.session_core.specs.declared.action.Action.{Action}
use Rattle.session_core.specs.declared.action.Action.TheVariants as actions
use Rattle.session_core.specs.declared.event.Event.{Event}
use Rattle.session_core.specs.declared.event.Event.TheVariants as events
use Rattle.session_core.specs.Shares.{is_out}
use Rattle.session_core.specs.Sessions.{SessionState}
use Rattle.session_core.specs.Cutting.{without_acks}
use Rattle.session_core.specs.Paces.{ack_in, is_ahead}
use Rattle.session_core.specs.Standing.{shared, without_reopens}
use Rattle.session_core.specs.Manners.{Manner}
use Rattle.session_core.specs.Manners as manners
use Rattle.session_core.specs.Keeping.{KeptSession}
use Rattle.session_core.specs.Happenings.{Happening, Takes, is_all}

-- the tables and numbers of the acknowledgements that are passed on, in order
abbrev pub passed_on : List Action → List (ℕ × ℕ)
passed_on acts = filter_map ack_in acts

-- Which acknowledgements await an answer: `due` before the event, and `left` after it. Bytes may bring more. A table
-- answers the first one. It settles all if a batch of the table is out and the number is one that `settles` the batch.
abbrev pub Awaits : (ℕ → ℕ → Bool) → SessionState → Event → List Action → List (ℕ × ℕ) → List (ℕ × ℕ) → Type 0
Awaits settles s (events.Bytes bytes) acts due left = left ≡ due ++ passed_on acts
Awaits settles s (events.Settled table answer) acts due left =
    (number : ℕ)
    × (due ≡ (table, number) ∷ left)
    × (is_all answer ≡ (is_out table (shared s.phase) && settles table number))
Awaits settles s event acts due left = ⊥

abbrev pub bytes_of : Event → List ℕ
bytes_of (events.Bytes bytes) = bytes
bytes_of event = []

-- the bytes of the events, as one stream
abbrev pub heard_in : List (Event × List Action) → List ℕ
heard_in steps = flat_map (λ step. bytes_of step.0) steps

-- all that the events ask for
abbrev pub asked_in : List (Event × List Action) → List Action
asked_in steps = flat_map (λ step. step.1) steps

-- An acknowledgement is late if an earlier one of its table settles all of the batch: the actions without the late ones.
-- `over` are the tables of which one did.
abbrev pub without_late : (ℕ → ℕ → Bool) → List ℕ → List Action → List Action
without_late settles over [] = []
without_late settles over (actions.Ack table number ∷ acts) =
    if list_any (λ id. id == table) over then without_late settles over acts
    else actions.Ack table number ∷ without_late settles (if settles table number then table ∷ over else over) acts
without_late settles over (action ∷ acts) = action ∷ without_late settles over acts

-- What the messages of the remote peer ask for whenever they come: the rows to learn, the acknowledgements to pass on but
-- for late ones, resync confirmed, and the end of the session.
abbrev pub told : (ℕ → ℕ → Bool) → List (Event × List Action) → List Action
told settles steps = without_late settles [] (without_reopens (without_acks (asked_in steps)))

-- ---- a run

-- The same of a session of either manner. A table of one that stays may also refuse a number that isn't ahead, which settles nothing.
abbrev pub AwaitsIn : (ℕ → ℕ → Bool) → Manner → SessionState → Event → List Action → List (ℕ × ℕ) → List (ℕ × ℕ) → Type 0
AwaitsIn settles (manners.Staying p) s (events.Refused table) acts due left =
    (number : ℕ)
    × (due ≡ (table, number) ∷ left)
    × (is_ahead table p.progress ≡ false)
    × ((is_out table (shared s.phase) && settles table number) ≡ false)
AwaitsIn settles manner s event acts due left = Awaits settles s event acts due left

-- The session hears bytes and answers, in an event each, at any moments. The acknowledgements `due` await an answer at first, and `left`
-- at last.
abbrev pub Hears : (ℕ → ℕ → Bool) → KeptSession → List (ℕ × ℕ) → List Happening → KeptSession → List (ℕ × ℕ) → Type 0
Hears settles s due [] e left = (e ≡ s) × (left ≡ due)
Hears settles s due (one ∷ steps) e left =
    (mid : KeptSession)
    × (rest : List (ℕ × ℕ))
    × Takes s one mid
    × AwaitsIn settles s.manner s.session one.event one.acts due rest
    × Hears settles mid rest steps e left
