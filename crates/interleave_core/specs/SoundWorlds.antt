-- The invariant of worlds (profile).
use Rattle.std.specs.Prelude.{◌≡◌, ◌<◌, ◌^◌, ℕ, List, Some, None}
use Rattle.table_types.specs.Rosters.{roster_fault}
use Rattle.table_cell.specs.Histories.{CellState}
use Rattle.interleave_core.specs.declared.step.Step.{Step}
use Rattle.interleave_core.specs.declared.step.Step.TheVariants as steps
use Rattle.interleave_core.specs.declared.way.Way.TheVariants as ways
use Rattle.interleave_core.specs.Sound.{IsSoundConnection}
use Rattle.interleave_core.specs.Ties.{AreSoundTables, AreTied}
use Rattle.interleave_core.specs.Worlds.{ConnectionState, WorldState, connection_at, roster_of}

-- a session's connection is sound, and the session is tied to every table
abbrev pub IsSoundSession : ℕ → List CellState → ConnectionState → Type 0
IsSoundSession session cells s =
    (before : ℕ) × (acks : List (ℕ × ℕ)) × IsSoundConnection (roster_of cells) s acks × AreTied session before s acks cells

-- the tables make a roster, every table is sound and keeps up, and every session is sound
pub record IsSoundWorld (w : WorldState) : Type 0 where
  pub roster : roster_fault (roster_of w.cells) ≡ None
  pub tables : AreSoundTables w.cells
  pub sessions : (session : ℕ) (s : ConnectionState) → connection_at session w.connections ≡ Some s → IsSoundSession session w.cells s

-- the step has no moment for a table or a learner, or one below 2^63, as every moment of the program is
abbrev pub IsTimelyStep : Step → Type 0
IsTimelyStep (steps.Track table key change now) = now < 2 ^ 63
IsTimelyStep (steps.Learn session u now) = now < 2 ^ 63
IsTimelyStep (steps.Copy session table kind limit now) = now < 2 ^ 63
IsTimelyStep (steps.Deliver session ways.ToLearner count now) = now < 2 ^ 63
IsTimelyStep (steps.Purge table now) = now < 2 ^ 63
IsTimelyStep step = Unit {0}
