-- The versions of sessions (profile).
use Rattle.std.specs.Prelude.{◌≡◌, ◌++◌, ℕ, true, None, Some, is_some}
use Rattle.std.specs.List.{AllByRecursion}
use Rattle.table_types.specs.declared.update.Update.{Update}
use Rattle.table_types.specs.declared.version.Version.{Version}
use Rattle.table_types.specs.declared.version.Version.TheVariants as versions
use Rattle.table_cell.specs.declared.progress.Progress.{Progress}
use Rattle.table_cell.specs.Histories.{CellState}
use Rattle.table_cell.specs.Machine.{progress_of}
use Rattle.interleave_core.specs.Ties.{joined}
use Rattle.interleave_core.specs.Worlds.{ConnectionState, WorldState, cell_at, connection_at}

-- an update of a session of version 2.0 has no life, and one of 2.1 has one
abbrev pub IsOfVersion : Version → Update → Type 0
IsOfVersion versions.V20 u = u.life ≡ None
IsOfVersion versions.V21 u = is_some u.life ≡ true

-- Each session is open in each table with its version, and its updates that were taught or wait to be are of that version.
pub record KeepVersions (w : WorldState) : Type 0 where
  pub tables : (session table : ℕ) (s : ConnectionState) (c : CellState) → connection_at session w.connections ≡ Some s → cell_at table w.cells ≡ Some c →
      (p : Progress) × (progress_of session c.state ≡ Some p) × (p.version ≡ s.version)
  pub updates : (session : ℕ) (s : ConnectionState) → connection_at session w.connections ≡ Some s →
      AllByRecursion (IsOfVersion s.version) (s.taught ++ joined s.copied)
