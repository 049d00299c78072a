-- The lines of the log that wait to be written.
use Rattle.std.specs.Prelude.{◌≡◌, ◌<◌, ◌&&◌, ◌||◌, ◌==◌, ◌++◌, ℕ, Bool, true, false, not, List, [], ◌∷◌, Option, None, Some, if◌then◌else◌, length, map, slice_get}
use Rattle.std.specs.Borrow.{Bor}
use Rattle.table_types.specs.Rosters.{is_same_name}
use Rattle.node_core.specs.declared.events.Event.{Event}
use Rattle.node_core.specs.declared.events.Event.TheVariants as events
use Rattle.node_core.specs.declared.events.Omission.TheVariants as omissions
use Rattle.node_log.specs.declared.limits.Limit.{Limit}
use Rattle.node_log.specs.declared.lines.Form.{Form}
use Rattle.node_log.specs.declared.waiting.Fate.{Fate}
use Rattle.node_log.specs.declared.waiting.Fate.TheVariants as fates
use Rattle.node_log.specs.declared.waiting.Limited.{Limited}
use Rattle.node_log.specs.Keys.{name_of}
use Rattle.node_log.specs.Limits.{after, owes, reported, unsaid}
use Rattle.node_log.specs.Lines.{Adds}

-- both are one peer, or both are none
abbrev pub is_same_peer : Option ℕ → Option ℕ → Bool
is_same_peer None None = true
is_same_peer (Some one) (Some other) = one == other
is_same_peer one other = false

-- these are the lines of this event about this peer
abbrev pub are_of : List ℕ → Option ℕ → Limited → Bool
are_of event peer l = is_same_peer l.peer peer && is_same_name l.event.now event

-- the limit of the lines of this event about this peer
abbrev pub limit_of : List ℕ → Option ℕ → List Limited → Limit
limit_of event peer [] = unsaid
limit_of event peer (l ∷ ls) = if are_of event peer l then l.limit else limit_of event peer ls

-- A line comes of the event and the peer that the first one is of: their limit counts it, and no other one does.
abbrev pub with_line : ℕ → Limited → List Limited → List Limited
with_line now new [] = record new { limit = after now unsaid } ∷ []
with_line now new (l ∷ ls) = if are_of new.event.now new.peer l then record l { limit = after now l.limit } ∷ ls else l ∷ with_line now new ls

-- the same, of this event and this peer
abbrev pub HaveLine : ℕ → List ℕ → Option ℕ → List Limited → List Limited → Type 0
HaveLine now event peer before behind = (new : Limited) × (new.event.now ≡ event) × (new.peer ≡ peer) × (behind ≡ with_line now new before)

-- ---- how many wait

-- with the line of the event, more than 65,536 bytes would wait
abbrev pub IsFull : Form → Event → List ℕ → Type 0
IsFull form event before = (after : List ℕ) × Adds form event before after × (65536 < length after)

-- the line is dropped
abbrev pub is_dropped : Fate → Bool
is_dropped fates.Waits = false
is_dropped fates.LeftOut = false
is_dropped fates.Full = true
is_dropped fates.Lost = true

-- ---- how many were left out

-- it is to be said: some were, and the first of them came a second ago, or no more lines come
abbrev pub is_due : ℕ → Bool → Limited → Bool
is_due now last l = not (l.limit.omitted == 0) && (last || owes now l.limit.since)

-- it is said
abbrev pub told : Limited → Limited
told l = record l { limit = reported l.limit }

abbrev pub told_if_due : ℕ → Bool → Limited → Limited
told_if_due now last l = if is_due now last l then told l else l

-- the name of the peer with this index, if there is one
abbrev pub name_at : List (List ℕ) → Option ℕ → Option (List ℕ)
name_at names None = None
name_at names (Some index) = slice_get names index

-- the line that says how many of these were left out comes behind what was there
abbrev pub AddsOmitted : Form → List (List ℕ) → Limited → List ℕ → List ℕ → Type 0
AddsOmitted form names l before after =
    (peer : Option (Bor (List ℕ))) × (name_of peer ≡ name_at names l.peer) × Adds form (events.Omitted peer (omissions.Repeated l.event) l.limit.omitted) before after

abbrev pub AddsIf : Bool → Form → List (List ℕ) → Limited → List ℕ → List ℕ → Type 0
AddsIf true form names l before after = AddsOmitted form names l before after
AddsIf false form names l before after = after ≡ before

-- the lines of those that are due come behind what was there, in their order
abbrev pub AddsDue : Form → List (List ℕ) → ℕ → Bool → List Limited → List ℕ → List ℕ → Type 0
AddsDue form names now last [] before after = after ≡ before
AddsDue form names now last (l ∷ ls) before after = (between : List ℕ) × AddsIf (is_due now last l) form names l before between × AddsDue form names now last ls between after

-- All was told up to one that is due: the lines of those before it come behind what was there, and it stays as it was, and so do those behind it.
abbrev pub AreToldUpTo : Form → List (List ℕ) → ℕ → Bool → List Limited → List Limited → List ℕ → List ℕ → Type 0
AreToldUpTo form names now last old new before after =
    (done rest : List Limited) × (l : Limited) × (is_due now last l ≡ true) × (old ≡ done ++ l ∷ rest) × (new ≡ map (told_if_due now last) done ++ l ∷ rest)
    × AddsDue form names now last done before after
