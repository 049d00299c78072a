-- What a session that stays hears, as its machine does.
use Rattle.std.proofs.Common.{◌≡◌, ℕ, Bool, false, List, [], ◌∷◌, refl, sym, subst}
use Rattle.table_types.specs.declared.copies.Settled.TheVariants as settled
use Rattle.session_core.specs.declared.action.Action.{Action}
use Rattle.session_core.specs.declared.event.Event.{Event}
use Rattle.session_core.specs.declared.event.Event.TheVariants as events
use Rattle.session_core.specs.Sessions.{Goes}
use Rattle.session_core.specs.Paces.{is_ahead}
use Rattle.session_core.specs.Standing.{HandsOn, StandingState, Stands, answer_of_refusal}
use Rattle.session_core.specs.Manners as manners
use Rattle.session_core.specs.Happenings.{Happening}
use Rattle.session_core.specs.Hearing.{Awaits, AwaitsIn, bytes_of}

-- an event as the session itself receives it: a refusal that isn't ahead settles nothing
abbrev pub received_as : Event → Event
received_as (events.Refused table) = events.Settled table settled.Older
received_as event = event

abbrev pub step_of : Happening → Event × List Action
step_of one = (received_as one.event, one.acts)

abbrev pub steps_of : List Happening → List (Event × List Action)
steps_of [] = []
steps_of (one ∷ steps) = step_of one ∷ steps_of steps

-- a refusal that isn't ahead settles nothing
refused_stays : (s mid : StandingState) (now table : ℕ) (acts : List Action) → is_ahead table s.pace.progress ≡ false → Stands s now (events.Refused table) acts mid → Goes s.session (events.Settled table settled.Older) acts mid.session
refused_stays s mid now table acts behind stands = (subst (λ (b : Bool). HandsOn s now (answer_of_refusal b table) acts mid) behind stands).0

-- one event, as the session itself receives it
pub hears_one : (settles : ℕ → ℕ → Bool) (event : Event) (s mid : StandingState) (due rest : List (ℕ × ℕ)) (now : ℕ) (acts : List Action) → Stands s now event acts mid → AwaitsIn settles (manners.Staying s.pace) s.session event acts due rest
    → Goes s.session (received_as event) acts mid.session × Awaits settles s.session (received_as event) acts due rest × (bytes_of (received_as event) ≡ bytes_of event)
hears_one settles (events.Bytes bytes) s mid due rest now acts (goes, pace) awaits = (goes, awaits, refl)
hears_one settles (events.Settled table answer) s mid due rest now acts (goes, pace) awaits = (goes, awaits, refl)
hears_one settles (events.Refused table) s mid due rest now acts stands (number, is_first, behind, is_answer) = (refused_stays s mid now table acts behind stands, (number, is_first, sym is_answer), refl)
hears_one settles events.Turn s mid due rest now acts stands awaits = absurd awaits
hears_one settles events.Tick s mid due rest now acts stands awaits = absurd awaits
hears_one settles events.Ask s mid due rest now acts stands awaits = absurd awaits
hears_one settles events.CaughtUp s mid due rest now acts stands awaits = absurd awaits
hears_one settles events.Opened s mid due rest now acts stands awaits = absurd awaits
hears_one settles events.End s mid due rest now acts stands awaits = absurd awaits
hears_one settles events.ReadFault s mid due rest now acts stands awaits = absurd awaits
hears_one settles events.WriteFault s mid due rest now acts stands awaits = absurd awaits
hears_one settles (events.Copied table batch) s mid due rest now acts stands awaits = absurd awaits
hears_one settles (events.Nothing table) s mid due rest now acts stands awaits = absurd awaits
hears_one settles (events.Written known) s mid due rest now acts stands awaits = absurd awaits
