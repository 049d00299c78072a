-- What stays true of a world (profile).
use Rattle.std.specs.Prelude.{◌≡◌, ◌≤◌, ℕ, true, None, is_some, length}
use Rattle.std.specs.List.{AllByRecursion}
use Rattle.table_cell.specs.Histories.{CellState, is_history_full, room_of}
use Rattle.table_cell.specs.Machine.{close_refusal, open_refusal, progress_of}
use Rattle.interleave_core.specs.SoundWorlds.{IsSoundWorld}
use Rattle.interleave_core.specs.Versions.{KeepVersions}
use Rattle.interleave_core.specs.Worlds.{WorldState, without_session}

-- the sessions 1 to `count` are open in the table, and 16 sessions at most
pub record HasOpen (count : ℕ) (c : CellState) : Type 0 where
  pub opened : (session : ℕ) → 1 ≤ session → session ≤ count → is_some (progress_of session c.state) ≡ true
  pub few : length c.state.sessions ≤ 16

-- the session of each connection is open in each table
abbrev pub IsOpenWorld : WorldState → Type 0
IsOpenWorld w = AllByRecursion (HasOpen (length w.connections)) w.cells

-- the session of each connection is open in each table with its version, and the world is sound
pub record IsInOrder (w : WorldState) : Type 0 where
  pub opened : IsOpenWorld w
  pub sound : IsSoundWorld w
  pub versions : KeepVersions w

-- the table doesn't refuse to open the session
abbrev pub CanOpen : ℕ → CellState → Type 0
CanOpen session c = open_refusal (is_history_full c) c.state session ≡ None

-- the table doesn't refuse to close the session
abbrev pub CanClose : ℕ → CellState → Type 0
CanClose session c = close_refusal (is_history_full c) c.state session ≡ None

-- the table refuses neither to close the session nor to open it then
abbrev pub CanReopen : ℕ → CellState → Type 0
CanReopen session c = CanClose session c × CanOpen session (without_session session c)

-- no session is open in the table, and it has room to open `count` sessions
pub record CanBegin (count : ℕ) (c : CellState) : Type 0 where
  pub none : length c.state.sessions ≡ 0
  pub room : count ≤ room_of c
