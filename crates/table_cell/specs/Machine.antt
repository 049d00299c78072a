-- A stick table as a state machine: the state of a table, and what each event does to it (HAProxy Configuration Manual,
-- stick-table `size`, `expire` and `nopurge`, and doc/peers-v2.0.txt, "Handshake", "Update Messages" and "Acknowledgement Messages";
-- the order of refusals, and that each change takes the next number, are the profile's choices).
use Rattle.std.specs.Prelude.{◌≡◌, ℕ, ◌+◌, ◌-◌, ◌^◌, Bool, true, false, not, ◌&&◌, ◌||◌, ◌==◌, nat_lt, nat_le, MatchBool, is_some, is_none, List, [], ◌∷◌, ◌++◌, length, map, filter, take, fold, Option, Some, None, option_and_then, if◌then◌else◌}
use Rattle.std.specs.List.{list_all, list_any}
use Rattle.std.specs.Map.{lookup}
use Rattle.table_types.specs.declared.key.Key.{Key}
use Rattle.table_types.specs.declared.update.Update.{Update}
use Rattle.table_types.specs.declared.version.Version.{Version}
use Rattle.table_types.specs.declared.version.Version.TheVariants as versions
use Rattle.table_types.specs.Keys.{key_fits}
use Rattle.table_types.specs.Tables.{Definition}
use Rattle.table_types.specs.Updates.{row_fits, may_be_named}
use Rattle.table_types.specs.Rows.{StoredRow, row_of}
use Rattle.table_rows.specs.Rows.{row_at, is_live, IsFirstToEnd}
pub use Rattle.table_stock.specs.NumberedRows.{without}
use Rattle.table_types.specs.declared.change.Change.{Change}
use Rattle.table_types.specs.Changes.{change_fits, tracked as tracked_row}
use Rattle.table_cell.specs.Copying.{update_of}
use Rattle.table_types.specs.declared.copies.CopyKind.{CopyKind}
use Rattle.table_types.specs.declared.copies.CopyKind.TheVariants as kinds
use Rattle.table_types.specs.declared.copies.Settled.{Settled}
use Rattle.table_types.specs.declared.copies.Settled.TheVariants as settled
use Rattle.table_cell.specs.declared.events.CellEvent.{CellEvent}
use Rattle.table_cell.specs.declared.events.CellEvent.TheVariants as events
use Rattle.table_cell.specs.declared.events.CellReply.{CellReply}
use Rattle.table_cell.specs.declared.events.CellReply.TheVariants as replies
use Rattle.table_cell.specs.declared.progress.Progress.{Progress}
use Rattle.table_cell.specs.declared.errors.TrackError.{TrackError}
use Rattle.table_cell.specs.declared.errors.TrackError.TheVariants as untracked
use Rattle.table_cell.specs.declared.errors.LearnError.{LearnError}
use Rattle.table_cell.specs.declared.errors.LearnError.TheVariants as unlearned
use Rattle.table_cell.specs.declared.errors.CopyError.{CopyError}
use Rattle.table_cell.specs.declared.errors.CopyError.TheVariants as uncopied
use Rattle.table_cell.specs.declared.errors.AckError.{AckError}
use Rattle.table_cell.specs.declared.errors.AckError.TheVariants as unacknowledged
use Rattle.table_cell.specs.declared.errors.OpenError.{OpenError}
use Rattle.table_cell.specs.declared.errors.OpenError.TheVariants as unopened
use Rattle.table_cell.specs.declared.errors.CloseError.{CloseError}
use Rattle.table_cell.specs.declared.errors.CloseError.TheVariants as unclosed
use Rattle.table_cell.specs.declared.errors.PurgeError.{PurgeError}
use Rattle.table_cell.specs.declared.errors.PurgeError.TheVariants as unpurged

-- The state of a table: its parameters; its rows by key, in ascending order of number; the next number to assign; the
-- latest moment of an event; and the open sessions, each with its version, the number acknowledged and the last number
-- taught.
pub record TableState : Type 0 where
  pub definition : Definition
  pub size : ℕ
  pub nopurge : Bool
  pub rows : List (Key × StoredRow)
  pub next : ℕ
  pub latest : ℕ
  pub sessions : List (ℕ × Progress)

-- ---- rows

abbrev pub has_row : Key → TableState → Bool
has_row key s = is_some (row_at key s.rows)

abbrev pub if_live : ℕ → StoredRow → Option StoredRow
if_live now row = if is_live now row then Some row else None

-- the row of a key, if it is live
abbrev pub live_row : Key → ℕ → TableState → Option StoredRow
live_row key now s = option_and_then (if_live now) (row_at key s.rows)

-- a change gives the row the next number
abbrev pub tracked : TableState → Key → Change → ℕ → StoredRow
tracked s key change now = tracked_row s.definition now s.next change (live_row key now s)

-- and so does a learned update, whatever number the peer gave it
abbrev pub learned : TableState → Update → ℕ → StoredRow
learned s u now = row_of now s.definition.expire (record u { number = s.next })

-- a row of `key` displaces no other: the key has a row, or there is room for one more
abbrev pub has_room : TableState → Key → Bool
has_room s key = has_row key s || nat_lt (length s.rows) s.size

-- a row of `key` would displace another, all rows are live, and the table has `nopurge`
abbrev pub is_full : TableState → Key → ℕ → Bool
is_full s key now = s.nopurge && not (has_room s key) && list_all (λ e. is_live now e.1) s.rows

-- `rest` are the rows that remain when a row of `key` is to be stored: all of them, or all but the first to end
abbrev pub Leaves : TableState → Key → List (Key × StoredRow) → Type 0
Leaves s key rest =
    MatchBool (has_room s key) (rest ≡ s.rows) ((first : Key) × IsFirstToEnd s.rows first × (rest ≡ without first s.rows))

-- the row is stored after all others, under the next number
abbrev pub stored : TableState → Key → StoredRow → ℕ → List (Key × StoredRow) → TableState
stored s key row now rest = record s { rows = without key rest ++ (key, row) ∷ []; next = s.next + 1; latest = now }

-- ---- sessions

-- the progress of a new session, of this version, of a table whose next number is `next`: its bound is the number before
-- that
abbrev pub no_progress : Version → ℕ → Progress
no_progress version next = record { acknowledged = 0; taught = 0; bound = next - 1; version = version }

abbrev pub progress_of : ℕ → TableState → Option Progress
progress_of session s = lookup (λ id. id == session) s.sessions

abbrev pub is_open : ℕ → TableState → Bool
is_open session s = is_some (progress_of session s)

abbrev pub is_out : Progress → Bool
is_out progress = nat_lt progress.acknowledged progress.taught

-- whether a batch of a session is out, given its progress; none is out of a session that isn't open
abbrev pub has_out : Option Progress → Bool
has_out None = false
has_out (Some progress) = is_out progress

-- whether a batch of some open session is out
abbrev pub is_any_out : TableState → Bool
is_any_out s = list_any (λ entry. is_out entry.1) s.sessions

abbrev pub acknowledged_by : Option Progress → ℕ
acknowledged_by None = 0
acknowledged_by (Some progress) = progress.acknowledged

-- the number up to which a standing resync copies; it copies nothing for a session that isn't open
abbrev pub bound_by : Option Progress → ℕ
bound_by None = 0
bound_by (Some progress) = progress.bound

-- the version of a session; nothing is copied for a session that isn't open
abbrev pub version_by : Option Progress → Version
version_by None = versions.V21
version_by (Some progress) = progress.version

-- the sessions with the progress of `session` changed
abbrev pub with_progress : ℕ → (Progress → Progress) → List (ℕ × Progress) → List (ℕ × Progress)
with_progress session f [] = []
with_progress session f (e ∷ es) = if e.0 == session then (e.0, f e.1) ∷ es else e ∷ with_progress session f es

-- ---- copies

-- a push copies the rows that aren't learned, a resync copies all rows, and a standing resync all in its reach
abbrev pub is_copied : CopyKind → StoredRow → Bool
is_copied kinds.Push row = not row.learned
is_copied kinds.Resync row = true
is_copied kinds.Standing row = true

-- the rows in the reach of a copy of `kind`: all of them, or for a standing resync those up to its session's bound
abbrev pub in_reach : CopyKind → ℕ → List (Key × StoredRow) → List (Key × StoredRow)
in_reach kinds.Push bound rows = rows
in_reach kinds.Resync bound rows = rows
in_reach kinds.Standing bound rows = filter (λ e. nat_le e.1.number bound) rows

-- a copy of `kind` includes the row: the session has not acknowledged it, and it is live
abbrev pub is_unacked : CopyKind → ℕ → ℕ → Key × StoredRow → Bool
is_unacked kind number now e = nat_lt number e.1.number && is_copied kind e.1 && is_live now e.1

-- the rows that a session has not acknowledged, in ascending order of number, as updates of its version, at most `limit` of
-- them
abbrev pub unacked : TableState → ℕ → CopyKind → ℕ → ℕ → List Update
unacked s session kind now limit =
    take limit (map (update_of (version_by (progress_of session s)) s.definition now) (filter (is_unacked kind (acknowledged_by (progress_of session s)) now) (in_reach kind (bound_by (progress_of session s)) s.rows)))

abbrev pub last_number : ℕ → List Update → ℕ
last_number least us = fold (λ number u. u.number) least us

abbrev pub teaching : ℕ → Progress → Progress
teaching number progress = record progress { taught = number }

-- the number taught becomes the number of the last update
abbrev pub copied : TableState → ℕ → List Update → ℕ → TableState
copied s session us now = record s { sessions = with_progress session (λ progress. record progress { taught = last_number progress.taught us }) s.sessions; latest = now }

-- ---- acknowledgements

abbrev pub settled_by : Option Progress → ℕ → Settled
settled_by None number = settled.Older
settled_by (Some progress) number =
    if nat_le number progress.acknowledged then settled.Older
    else (if number == progress.taught then settled.All else settled.Some)

abbrev pub acknowledging : ℕ → Progress → Progress
acknowledging number progress = if nat_le number progress.acknowledged then progress else record progress { acknowledged = number }

-- ---- refusals, each in its order; `full` says that the history has no room for another event

abbrev pub track_refusal : Bool → TableState → Key → Change → ℕ → Option TrackError
track_refusal full s key change now =
    if not (key_fits s.definition.kind s.definition.key_length key) then Some untracked.WrongKey
    else (if not (change_fits s.definition change) then Some untracked.NoSuchData
    else (if nat_lt now s.latest then Some untracked.MomentBack
    else (if full then Some untracked.HistoryFull
    else (if nat_le (2 ^ 32) s.next then Some untracked.Spent
    else (if is_full s key now then Some untracked.TableFull
    else None)))))

-- the update belongs to this table, whatever its life
abbrev pub is_of_table : Definition → Update → Bool
is_of_table d u = u.table == d.id && row_fits d u.key u.values && may_be_named d u.name

abbrev pub learn_refusal : Bool → TableState → ℕ → Update → ℕ → Option LearnError
learn_refusal full s session u now =
    if is_none (progress_of session s) then Some unlearned.NoSession
    else (if not (is_of_table s.definition u) then Some unlearned.Misfit
    else (if nat_lt now s.latest then Some unlearned.MomentBack
    else (if full then Some unlearned.HistoryFull
    else (if nat_le (2 ^ 32) s.next then Some unlearned.Spent
    else (if is_full s u.key now then Some unlearned.TableFull
    else None)))))

abbrev pub copy_refusal : Bool → TableState → ℕ → CopyKind → ℕ → ℕ → Option CopyError
copy_refusal full s session kind limit now = of_session (progress_of session s)
  where
    of_session : Option Progress → Option CopyError
    of_session None = Some uncopied.NoSession
    of_session (Some progress) =
        if nat_lt now s.latest then Some uncopied.MomentBack
        else (if is_out progress then Some uncopied.BatchOut
        else (if length (unacked s session kind now limit) == 0 then Some uncopied.Nothing
        else (if full then Some uncopied.HistoryFull
        else None)))

abbrev pub ack_refusal : Bool → TableState → ℕ → ℕ → Option AckError
ack_refusal full s session number = of_session (progress_of session s)
  where
    of_session : Option Progress → Option AckError
    of_session None = Some unacknowledged.NoSession
    of_session (Some progress) =
        if nat_lt progress.taught number then Some unacknowledged.AckAhead
        else (if full then Some unacknowledged.HistoryFull
        else None)

abbrev pub open_refusal : Bool → TableState → ℕ → Option OpenError
open_refusal full s session =
    if is_some (progress_of session s) then Some unopened.AlreadyOpen
    else (if nat_le 16 (length s.sessions) then Some unopened.TooMany
    else (if full then Some unopened.HistoryFull
    else None))

abbrev pub close_refusal : Bool → TableState → ℕ → Option CloseError
close_refusal full s session =
    if is_none (progress_of session s) then Some unclosed.NoSession
    else (if full then Some unclosed.HistoryFull
    else None)

abbrev pub purge_refusal : Bool → TableState → ℕ → Option PurgeError
purge_refusal full s now =
    if nat_lt now s.latest then Some unpurged.MomentBack
    else (if full then Some unpurged.HistoryFull
    else None)

-- ---- steps

-- in state `s` the machine replies to the event with `reply`, and its state is `e` afterwards
abbrev pub Step : TableState → CellEvent → CellReply → TableState → Type 0
Step s (events.Track seat key change now) reply e =
    (track_refusal false s key change now ≡ None)
    × (rest : List (Key × StoredRow)) × Leaves s key rest
    × (reply ≡ replies.Track (record { number = s.next; row = tracked s key change now }))
    × (e ≡ stored s key (tracked s key change now) now rest)
Step s (events.Learn session u now) reply e =
    (learn_refusal false s session u now ≡ None)
    × (rest : List (Key × StoredRow)) × Leaves s u.key rest
    × (reply ≡ replies.Learn (record { number = s.next; row = learned s u now }))
    × (e ≡ stored s u.key (learned s u now) now rest)
Step s (events.Copy session kind limit now) reply e =
    (copy_refusal false s session kind limit now ≡ None)
    × (reply ≡ replies.Copy (unacked s session kind now limit))
    × (e ≡ copied s session (unacked s session kind now limit) now)
Step s (events.Ack session number) reply e =
    (ack_refusal false s session number ≡ None)
    × (reply ≡ replies.Ack (settled_by (progress_of session s) number))
    × (e ≡ record s { sessions = with_progress session (acknowledging number) s.sessions })
Step s (events.Open session version) reply e =
    (open_refusal false s session ≡ None)
    × (reply ≡ replies.Open)
    × (e ≡ record s { sessions = s.sessions ++ (session, no_progress version s.next) ∷ [] })
Step s (events.Close session) reply e =
    (close_refusal false s session ≡ None)
    × (reply ≡ replies.Close)
    × (e ≡ record s { sessions = filter (λ entry. not (entry.0 == session)) s.sessions })
Step s (events.Purge now) reply e =
    (purge_refusal false s now ≡ None)
    × (reply ≡ replies.Purge (length (filter (λ row. not (is_live now row.1)) s.rows)))
    × (e ≡ record s { rows = filter (λ row. is_live now row.1) s.rows; latest = now })

-- the machine doesn't refuse the event
abbrev pub IsGranted : TableState → CellEvent → Type 0
IsGranted s (events.Track seat key change now) = track_refusal false s key change now ≡ None
IsGranted s (events.Learn session u now) = learn_refusal false s session u now ≡ None
IsGranted s (events.Copy session kind limit now) = copy_refusal false s session kind limit now ≡ None
IsGranted s (events.Ack session number) = ack_refusal false s session number ≡ None
IsGranted s (events.Open session version) = open_refusal false s session ≡ None
IsGranted s (events.Close session) = close_refusal false s session ≡ None
IsGranted s (events.Purge now) = purge_refusal false s now ≡ None

-- ---- runs

-- the machine goes through these events with these replies, from state `s` to state `e`
abbrev pub Replays : TableState → List (CellEvent × CellReply) → TableState → Type 0
Replays s [] e = e ≡ s
Replays s (h ∷ hs) e = (mid : TableState) × Step s h.0 h.1 mid × Replays mid hs e

-- ---- a new table

-- a table without rows or sessions, whose next number is `first`
abbrev pub new_table : Definition → ℕ → Bool → ℕ → TableState
new_table d size nopurge first = record { definition = d; size = size; nopurge = nopurge; rows = []; next = first; latest = 2 ^ 32; sessions = [] }
