-- What a session was handed of a table since it was last opened there (profile).
use Rattle.std.specs.Prelude.{◌≡◌, ◌≢◌, ◌⊎◌, ℕ, ◌<◌, ◌≤◌, Bool, true, false, not, ◌==◌, ◌&&◌, ◌||◌, List, [], ◌∷◌, ◌++◌, map, fold, Option, Some, None, if◌then◌else◌}
use Rattle.std.specs.List.{AllByRecursion}
use Rattle.table_types.specs.declared.key.Key.{Key}
use Rattle.table_types.specs.declared.update.Update.{Update}
use Rattle.table_types.specs.declared.copies.CopyKind.TheVariants as kinds
use Rattle.table_types.specs.Rows.{StoredRow}
use Rattle.table_rows.specs.Rows.{is_live}
use Rattle.table_cell.specs.declared.progress.Progress.{Progress}
use Rattle.table_cell.specs.declared.events.CellEvent.{CellEvent}
use Rattle.table_cell.specs.declared.events.CellEvent.TheVariants as events
use Rattle.table_cell.specs.declared.events.CellReply.{CellReply}
use Rattle.table_cell.specs.Machine.{TableState, progress_of, last_number}
use Rattle.table_cell.specs.Histories.{CellState, batch_of}

-- ---- what a history says of a session

-- whether an event opens `session`
abbrev pub is_open_of : ℕ → CellEvent → Bool
is_open_of session (events.Open id version) = id == session
is_open_of session event = false

-- whether an event is a push for `session`
abbrev pub is_push_of : ℕ → CellEvent → Bool
is_push_of session (events.Copy id kinds.Push limit now) = id == session
is_push_of session event = false

-- whether an event copies for `session`, is an acknowledgement of it, opens it or closes it
abbrev pub is_about : ℕ → CellEvent → Bool
is_about session (events.Copy id kind limit now) = id == session
is_about session (events.Ack id number) = id == session
is_about session (events.Open id version) = id == session
is_about session (events.Close id) = id == session
is_about session event = false

-- the updates of a batch, if there is one
abbrev pub updates_in : Option (List Update) → List Update
updates_in None = []
updates_in (Some us) = us

-- what was handed, one event later: nothing if it opens `session`, and otherwise its batch for `session` as well
abbrev pub handed_after : ℕ → List Update → CellEvent × CellReply → List Update
handed_after session us h = if is_open_of session h.0 then [] else us ++ updates_in (batch_of session h)

-- the updates handed to `session` since it was last opened, or since the history began
abbrev pub handed_since : ℕ → List (CellEvent × CellReply) → List Update
handed_since session history = fold (handed_after session) [] history

-- whether all copies were resyncs, standing or not, one event later: yes if it opens `session`, no if it is a push for it,
-- or as before
abbrev pub resyncs_after : ℕ → Bool → CellEvent × CellReply → Bool
resyncs_after session before h = is_open_of session h.0 || (before && not (is_push_of session h.0))

-- whether all copies for `session` since it was last opened, or since the history began, were resyncs
abbrev pub resyncs_since : ℕ → List (CellEvent × CellReply) → Bool
resyncs_since session history = fold (resyncs_after session) true history

-- ---- what was handed out of the rows

-- the numbers of updates
abbrev pub numbers : List Update → List ℕ
numbers us = map (λ u. u.number) us

-- the numbers ascend, the first of them above `least`
abbrev pub Ascend : ℕ → List ℕ → Type 0
Ascend least [] = Unit {0}
Ascend least (n ∷ ns) = (least < n) × Ascend n ns

-- one of the updates has the row's key and its number
abbrev pub IsHanded : List Update → Key × StoredRow → Type 0
IsHanded [] e = ⊥
IsHanded (u ∷ us) e = ((u.key ≡ e.0) × (u.number ≡ e.1.number)) ⊎ IsHanded us e

-- the row is no older than any of the updates that has its key
abbrev pub IsNoOlder : List Update → Key × StoredRow → Type 0
IsNoOlder us e = AllByRecursion (λ u. u.key ≡ e.0 → u.number ≤ e.1.number) us

-- a copy of each kind that was made includes the row: all copies were resyncs, or the row isn't learned
abbrev pub is_of_each_kind : Bool → StoredRow → Bool
is_of_each_kind only_resyncs row = only_resyncs || not row.learned

-- copies up to `last` include the row: its number is at most `last`, it is live at `now`, and it is of each kind
abbrev pub IsReached : Bool → ℕ → ℕ → Key × StoredRow → Type 0
IsReached only_resyncs last now e = (e.1.number ≤ last) × (is_live now e.1 ≡ true) × (is_of_each_kind only_resyncs e.1 ≡ true)

-- What was handed out ascends in number and ends at the number taught. Each row that copies up to that number include
-- was handed out under its number, and no row is older than what was handed out of its key.
pub record IsHandedOut (us : List Update) (only_resyncs : Bool) (taught : ℕ) (s : TableState) : Type 0 where
  pub ascend : Ascend 0 (numbers us)
  pub last : taught ≡ last_number 0 us
  pub handed : AllByRecursion (λ e. IsReached only_resyncs taught s.latest e → IsHanded us e) s.rows
  pub no_older : AllByRecursion (IsNoOlder us) s.rows

-- if `session` is open, the rows were handed out to it as far as it was taught
abbrev pub KeepsUp : ℕ → CellState → Type 0
KeepsUp session c =
    (p : Progress) → progress_of session c.state ≡ Some p →
    IsHandedOut (handed_since session c.history) (resyncs_since session c.history) p.taught c.state

-- the last update of the row's key has the row's number
abbrev pub IsLastOfItsKey : List Update → Key × StoredRow → Type 0
IsLastOfItsKey us e =
    (before after : List Update) × (u : Update) × (us ≡ before ++ (u ∷ after))
    × (u.key ≡ e.0) × (u.number ≡ e.1.number) × AllByRecursion (λ later. later.key ≢ e.0) after
