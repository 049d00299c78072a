-- A table with its history: each event and its reply, from the state at which the history begins (profile).
use Rattle.std.specs.Prelude.{◌≡◌, ℕ, ◌+◌, ◌-◌, ◌≤◌, ◌^◌, Bool, true, false, nat_lt, ◌==◌, min, List, [], ◌∷◌, ◌++◌, length, map, take, drop, slice_get, Option, Some, None, option_and_then, Result, Ok, Err, if◌then◌else◌}
use Rattle.std.specs.List.Sorted.{IsStrictlySortedBy}
use Rattle.std.specs.Ordering.{nat_cmp}
use Rattle.std.specs.Map.{lookup}
use Rattle.table_types.specs.declared.key.Key.{Key}
use Rattle.table_types.specs.declared.update.Update.{Update}
use Rattle.table_types.specs.declared.version.Version.{Version}
use Rattle.table_types.specs.Tables.{Definition}
use Rattle.table_cell.specs.Machine.{TableState, Step, Replays, is_any_out, is_open, new_table, unacked, track_refusal, learn_refusal, copy_refusal, ack_refusal, open_refusal, close_refusal, purge_refusal}
use Rattle.table_types.specs.declared.change.Change.{Change}
use Rattle.table_types.specs.declared.copies.CopyKind.{CopyKind}
use Rattle.table_types.specs.declared.copies.Settled.{Settled}
use Rattle.table_cell.specs.Soundness.{AreTimely, IsSound}
use Rattle.table_cell.specs.declared.events.Reply.{Reply}
use Rattle.table_cell.specs.declared.events.CellEvent.{CellEvent}
use Rattle.table_cell.specs.declared.events.CellEvent.TheVariants as events
use Rattle.table_cell.specs.declared.events.CellReply.{CellReply}
use Rattle.table_cell.specs.declared.events.CellReply.TheVariants as replies
use Rattle.table_cell.specs.declared.errors.TrackError.{TrackError}
use Rattle.table_cell.specs.declared.errors.TrackError.TheVariants as untracked
use Rattle.table_cell.specs.declared.errors.LearnError.{LearnError}
use Rattle.table_cell.specs.declared.errors.LearnError.TheVariants as unlearned
use Rattle.table_cell.specs.declared.errors.CopyError.{CopyError}
use Rattle.table_cell.specs.declared.errors.CopyError.TheVariants as uncopied
use Rattle.table_cell.specs.declared.errors.AckError.{AckError}
use Rattle.table_cell.specs.declared.errors.AckError.TheVariants as unacknowledged
use Rattle.table_cell.specs.declared.errors.OpenError.{OpenError}
use Rattle.table_cell.specs.declared.errors.OpenError.TheVariants as unopened
use Rattle.table_cell.specs.declared.errors.CloseError.{CloseError}
use Rattle.table_cell.specs.declared.errors.CloseError.TheVariants as unclosed
use Rattle.table_cell.specs.declared.errors.PurgeError.{PurgeError}
use Rattle.table_cell.specs.declared.errors.PurgeError.TheVariants as unpurged
use Rattle.table_cell.specs.declared.errors.CheckpointError.{CheckpointError}
use Rattle.table_cell.specs.declared.errors.CheckpointError.TheVariants as unbegun

-- ---- replay

-- A table with its history: the state at which the history begins, the number of events dropped before it, the events
-- with their replies, and the state after them. Slides have dropped the first `slid` of these events too, but for the
-- copies in `held`, by session. Its rows got new numbers `renewals` times; the count starts again after 2^64 - 1.
pub record CellState : Type 0 where
  pub base : TableState
  pub dropped : ℕ
  pub history : List (CellEvent × CellReply)
  pub state : TableState
  pub slid : ℕ
  pub held : List (ℕ × (CellEvent × CellReply))
  pub renewals : ℕ

-- the state is what replaying the history leads to
abbrev pub IsReplayed : CellState → Type 0
IsReplayed c = Replays c.base c.history c.state

-- the batch of each copy in the history is what its session had not acknowledged after the events before it, slid ones
-- included; the index counts from 0 within the history, and places count all events from 1, so the place of the batch's
-- event is `dropped + index + 1`
abbrev pub Kept : CellState → Type 0
Kept c =
    (index session limit now : ℕ) (kind : CopyKind) (us : List Update) →
    slice_get c.history index ≡ Some (events.Copy session kind limit now, replies.Copy us) →
    (mid : TableState) × Replays c.base (take index c.history) mid × (us ≡ unacked mid session kind now limit)

-- the updates ascend in number
abbrev pub AreAscending : List Update → Type 0
AreAscending us = IsStrictlySortedBy nat_cmp (map (λ u. u.number) us)

-- ---- room

-- the number of events so far, and how many more there is room for
abbrev pub events_of : CellState → ℕ
events_of c = c.dropped + length c.history

abbrev pub room_of : CellState → ℕ
room_of c = min (1000000 + c.slid - length c.history) (2 ^ 63 - events_of c)

abbrev pub is_history_full : CellState → Bool
is_history_full c = room_of c == 0

-- the events that the table still has, with their replies
abbrev pub kept_events : CellState → List (CellEvent × CellReply)
kept_events c = drop c.slid c.history

-- the event at a place, with its reply, if the table still has it; places count all events from 1, dropped ones included
abbrev pub event_in : CellState → ℕ → Option (CellEvent × CellReply)
event_in c place = if nat_lt (c.dropped + c.slid) place then slice_get c.history (place - (c.dropped + 1)) else None

-- ---- what the calls do

-- the history has one more event, with its reply, and the state is the one after it
abbrev pub Made : CellState → CellEvent → CellReply → CellState → Type 0
Made c event reply e =
    Step c.state event reply e.state
    × (e ≡ record c { history = c.history ++ (event, reply) ∷ []; state = e.state })

-- What a call does that returns the entry of its event, which the history shares: what the call of that event does
-- (`call`: with which result), and the entry is the event with the reply that this call's answer makes.
abbrev pub Shares : {A E : Type 0} → (Result A E → Type 0) → CellEvent → (A → CellReply) → Result (CellEvent × CellReply) E → Type 0
Shares {A} call event reply (Ok entry) = (answer : A) × (entry ≡ (event, reply answer)) × call (Ok answer)
Shares call event reply (Err error) = call (Err error)

-- the same for a call that returns the answer with the entry
abbrev pub SharesWith : {A E : Type 0} → (Result A E → Type 0) → CellEvent → (A → CellReply) → Result (A × (CellEvent × CellReply)) E → Type 0
SharesWith call event reply (Ok pair) = (pair.1 ≡ (event, reply pair.0)) × call (Ok pair.0)
SharesWith call event reply (Err error) = call (Err error)

abbrev pub Tracks : CellState → ℕ → Key → Change → ℕ → Result Reply TrackError → CellState → Type 0
Tracks c seat key change now (Ok r) e = (is_history_full c ≡ false) × Made c (events.Track seat key change now) (replies.Track r) e
Tracks c seat key change now (Err untracked.Memory) e = (track_refusal (is_history_full c) c.state key change now ≡ None) × (e ≡ c)
Tracks c seat key change now (Err error) e = (track_refusal (is_history_full c) c.state key change now ≡ Some error) × (e ≡ c)

abbrev pub Learns : CellState → ℕ → Update → ℕ → Result Reply LearnError → CellState → Type 0
Learns c session u now (Ok r) e = (is_history_full c ≡ false) × Made c (events.Learn session u now) (replies.Learn r) e
Learns c session u now (Err unlearned.Memory) e = (learn_refusal (is_history_full c) c.state session u now ≡ None) × (e ≡ c)
Learns c session u now (Err error) e = (learn_refusal (is_history_full c) c.state session u now ≡ Some error) × (e ≡ c)

abbrev pub Copies : CellState → ℕ → CopyKind → ℕ → ℕ → Result (List Update) CopyError → CellState → Type 0
Copies c session kind limit now (Ok us) e = (is_history_full c ≡ false) × Made c (events.Copy session kind limit now) (replies.Copy us) e
Copies c session kind limit now (Err uncopied.Memory) e = (copy_refusal (is_history_full c) c.state session kind limit now ≡ None) × (e ≡ c)
Copies c session kind limit now (Err error) e = (copy_refusal (is_history_full c) c.state session kind limit now ≡ Some error) × (e ≡ c)

abbrev pub Acknowledges : CellState → ℕ → ℕ → Result Settled AckError → CellState → Type 0
Acknowledges c session number (Ok answer) e = (is_history_full c ≡ false) × Made c (events.Ack session number) (replies.Ack answer) e
Acknowledges c session number (Err unacknowledged.Memory) e = (ack_refusal (is_history_full c) c.state session number ≡ None) × (e ≡ c)
Acknowledges c session number (Err error) e = (ack_refusal (is_history_full c) c.state session number ≡ Some error) × (e ≡ c)

abbrev pub Opens : CellState → ℕ → Version → Result (Unit {0}) OpenError → CellState → Type 0
Opens c session version (Ok done) e = (is_history_full c ≡ false) × Made c (events.Open session version) replies.Open e
Opens c session version (Err unopened.Memory) e = (open_refusal (is_history_full c) c.state session ≡ None) × (e ≡ c)
Opens c session version (Err error) e = (open_refusal (is_history_full c) c.state session ≡ Some error) × (e ≡ c)

abbrev pub Closes : CellState → ℕ → Result (Unit {0}) CloseError → CellState → Type 0
Closes c session (Ok done) e = (is_history_full c ≡ false) × Made c (events.Close session) replies.Close e
Closes c session (Err unclosed.Memory) e = (close_refusal (is_history_full c) c.state session ≡ None) × (e ≡ c)
Closes c session (Err error) e = (close_refusal (is_history_full c) c.state session ≡ Some error) × (e ≡ c)

abbrev pub Purges : CellState → ℕ → Result ℕ PurgeError → CellState → Type 0
Purges c now (Ok count) e = (is_history_full c ≡ false) × Made c (events.Purge now) (replies.Purge count) e
Purges c now (Err unpurged.Memory) e = (purge_refusal (is_history_full c) c.state now ≡ None) × (e ≡ c)
Purges c now (Err error) e = (purge_refusal (is_history_full c) c.state now ≡ Some error) × (e ≡ c)

-- ---- what the readers return

-- whether an event is a copy for `session`
abbrev pub is_copy_of : ℕ → CellEvent → Bool
is_copy_of session (events.Copy id kind limit now) = id == session
is_copy_of session event = false

-- the batch in a reply
abbrev pub batch_in : CellReply → Option (List Update)
batch_in (replies.Copy us) = Some us
batch_in reply = None

-- the batch of a copy for `session`
abbrev pub batch_of : ℕ → CellEvent × CellReply → Option (List Update)
batch_of session h = if is_copy_of session h.0 then batch_in h.1 else None

-- the latter if there is one, and otherwise the former
abbrev pub or_former : Option (List Update) → Option (List Update) → Option (List Update)
or_former former (Some us) = Some us
or_former former None = former

-- the batch of the latest copy for `session` in the history
abbrev pub latest_batch : ℕ → List (CellEvent × CellReply) → Option (List Update)
latest_batch session [] = None
latest_batch session (h ∷ hs) = or_former (batch_of session h) (latest_batch session hs)

-- the batch of a copy for `session` that slides kept
abbrev pub held_batch : ℕ → List (ℕ × (CellEvent × CellReply)) → Option (List Update)
held_batch session held = option_and_then (λ h. batch_in h.1) (lookup (λ id. id == session) held)

-- the latest batch of `session` that is kept: that of its latest copy among the events that the table has, or, if there is
-- none, the one that slides kept
abbrev pub kept_batch : ℕ → CellState → Option (List Update)
kept_batch session c = or_former (held_batch session c.held) (latest_batch session (kept_events c))

-- the batch is the latest one of the session
abbrev pub IsLatestBatch : CellState → ℕ → List Update → Type 0
IsLatestBatch c session us = kept_batch session c ≡ Some us

-- ---- a history that begins anew, or slides

-- the history begins with the present state; the state, the number of events so far and that of renewals stay
abbrev pub begun_anew : CellState → CellState
begun_anew c = record { base = c.state; dropped = events_of c; history = []; state = c.state; slid = 0; held = []; renewals = c.renewals }

-- what beginning a history anew does: it hands out the events that the table had, needs no memory, and is refused exactly
-- if a batch of an open session is out
abbrev pub BeginsAnew : CellState → Result (List (CellEvent × CellReply)) CheckpointError → CellState → Type 0
BeginsAnew c (Ok hs) e = (is_any_out c.state ≡ false) × (hs ≡ kept_events c) × (e ≡ begun_anew c)
BeginsAnew c (Err unbegun.BatchOut) e = (is_any_out c.state ≡ true) × (e ≡ c)
BeginsAnew c (Err unbegun.Memory) e = ⊥

-- the same for a call that drops the events itself
abbrev pub Checkpoints : CellState → Result (Unit {0}) CheckpointError → CellState → Type 0
Checkpoints c (Ok done) e = BeginsAnew c (Ok (kept_events c)) e
Checkpoints c (Err error) e = BeginsAnew c (Err error) e

-- What a slide does: it hands out the events that the table had. The history, of which they stay a part, the state and
-- the number of events stay. The latest batch of each open session stays kept, and no other.
abbrev pub Slides : CellState → List (CellEvent × CellReply) → CellState → Type 0
Slides c hs e =
    (hs ≡ kept_events c)
    × (held : List (ℕ × (CellEvent × CellReply)))
    × (e ≡ record c { slid = length c.history; held = held })
    × ((session : ℕ) → kept_batch session e ≡ (if is_open session c.state then kept_batch session c else None))

-- ---- a new table with its history

-- a new table, without events
abbrev pub new_cell : Definition → ℕ → Bool → ℕ → CellState
new_cell d size nopurge first =
    record { base = new_table d size nopurge first; dropped = 0; history = []; state = new_table d size nopurge first; slid = 0; held = []; renewals = 0 }

-- ---- soundness

-- a copy that slides kept is the session's latest one among the events that they dropped
abbrev pub IsHeld : CellState → ℕ → CellEvent × CellReply → Type 0
IsHeld c session h = (us : List Update) × (batch_in h.1 ≡ Some us) × (latest_batch session (take c.slid c.history) ≡ Some us)

-- The invariant of a table with its history: the state at which the history begins is sound, the moments of the history
-- are below 2^63, the state is the replay of the history, it is sound, slides dropped events of the history alone, what
-- they kept is the latest of its session, and what is left of the history keeps to its bounds.
pub record IsSoundCell (c : CellState) : Type 0 where
  pub base : IsSound c.base
  pub timely : AreTimely c.history
  pub replayed : IsReplayed c
  pub sound : IsSound c.state
  pub slid : c.slid ≤ length c.history
  pub held : (session : ℕ) (h : CellEvent × CellReply) → lookup (λ id. id == session) c.held ≡ Some h → IsHeld c session h
  pub within : length c.history ≤ 1000000 + c.slid
  pub few : events_of c ≤ 2 ^ 63
