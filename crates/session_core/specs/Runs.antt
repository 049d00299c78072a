-- What holds of a session from its beginning, and when it ends a resync.
use Rattle.std.specs.Prelude.{◌≡◌, ◌⊎◌, ℕ, Bool, false, ◌==◌, ◌||◌, List, [], ◌∷◌, ◌++◌, Option, Some, None}
use Rattle.std.specs.List.{list_any, AllByRecursion}
use Rattle.table_types.specs.Tables.{Definition}
use Rattle.table_types.specs.declared.copies.CopyKind.{CopyKind}
use Rattle.table_types.specs.declared.version.Version.{Version}
use Rattle.peers_msg.specs.Integers.{IsBytes}
use Rattle.peers_msg.specs.declared.control.Control.TheVariants as controls
use Rattle.peers_hello.specs.declared.hello.Hello.{Hello}
use Rattle.peers_hello.specs.Lines.{is_same}
use Rattle.peers_hello.specs.Meetings.{Meeting, Opens, Refuses}
use Rattle.session_core.specs.declared.action.Action.{Action}
use Rattle.session_core.specs.declared.action.Action.TheVariants as actions
use Rattle.session_core.specs.declared.event.Event.{Event}
use Rattle.session_core.specs.declared.event.Event.TheVariants as events
use Rattle.session_core.specs.Phases.{Phase}
use Rattle.session_core.specs.Phases as phases
use Rattle.session_core.specs.Actions.{control_text, confirms}
use Rattle.session_core.specs.Shares.{any_out}
use Rattle.session_core.specs.Courses.{Course}
use Rattle.session_core.specs.Sessions.{SessionState, connecting, accepting, falls_back}

-- a new session for the roster
abbrev pub IsBegun : List Definition → SessionState → Type 0
IsBegun roster s =
    ((hello : Hello) × (up_to_date : Bool) × (s ≡ connecting hello roster up_to_date))
    ⊎ ((own : List ℕ) × (peers : List (List ℕ)) × (up_to_date : Bool) × (s ≡ accepting own peers roster up_to_date))

-- an action that sends resync finished or resync partial
abbrev pub is_end : Action → Bool
is_end (actions.Send bytes) = is_same bytes (control_text controls.ResyncFinished) || is_same bytes (control_text controls.ResyncPartial)
is_end action = false

abbrev pub ends_resync : List Action → Bool
ends_resync acts = list_any is_end acts

-- an action that copies from `table`
abbrev pub is_copy_of : ℕ → Action → Bool
is_copy_of table (actions.Copy other kind) = other == table
is_copy_of table action = false

abbrev pub copies : ℕ → List Action → Bool
copies table acts = list_any (is_copy_of table) acts

-- an action that reopens the session in `table`
abbrev pub is_reopen_of : ℕ → Action → Bool
is_reopen_of table (actions.Reopen other) = other == table
is_reopen_of table action = false

abbrev pub reopened : ℕ → List Action → Bool
reopened table acts = list_any (is_reopen_of table) acts

-- `table` is neither copied from nor reopened
abbrev pub IsLeft : ℕ → List Action → Type 0
IsLeft table acts = (copies table acts ≡ false) × (reopened table acts ≡ false)

-- The last copy from `table` was of this kind, that of a resync, and found nothing to teach. Since then the table was neither copied
-- from nor reopened, so the copy belonged to the resync under way.
abbrev pub HasNothingLeft : CopyKind → List (Event × List Action) → ℕ → Type 0
HasNothingLeft kind steps table =
    (before : List (Event × List Action))
    × (given : List Action)
    × (since : List (Event × List Action))
    × (steps ≡ before ++ ((events.Turn, actions.Copy table kind ∷ []) ∷ ((events.Nothing table, given) ∷ since)))
    × (reopened table given ≡ false)
    × AllByRecursion (λ step. IsLeft table step.1) since

-- no batch is outstanding
abbrev pub HasNothingOut : SessionState → Type 0
HasNothingOut s = (c : Course) × (s.phase ≡ phases.Open c) × (any_out c.shares ≡ false)

-- ---- bytes

-- the session's unread values are all bytes
abbrev pub HoldsBytes : Phase → Type 0
HoldsBytes (phases.New hello c) = IsBytes c.intake.unread
HoldsBytes (phases.Hello greeter bytes c) = IsBytes bytes × IsBytes c.intake.unread
HoldsBytes (phases.Open c) = IsBytes c.intake.unread
HoldsBytes phases.Ended = Unit {0}

-- the values that an event brings are all bytes
abbrev pub BringsBytes : Event → Type 0
BringsBytes (events.Bytes bytes) = IsBytes bytes
BringsBytes event = Unit {0}

-- ---- what the hello comes to

-- the version of a session whose first bytes amount to this
abbrev pub version_in : Meeting → Option Version
version_in (Opens version rest) = Some version
version_in meeting = None

-- a session that said this version in its hello falls back
abbrev pub falls_back_in : Version → Meeting → Bool
falls_back_in version (Refuses (Some code)) = falls_back version code
falls_back_in version meeting = false

-- ---- confirmations

-- resync confirmed was sent somewhere in the run
abbrev pub was_confirmed : List (Event × List Action) → Bool
was_confirmed steps = list_any (λ step. confirms step.1) steps
