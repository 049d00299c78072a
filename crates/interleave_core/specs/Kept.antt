-- What holds of a connection as long as it is on track (profile).
use Rattle.std.specs.Prelude.{◌≡◌, Bool, true, false, List, ◌++◌}
use Rattle.std.specs.List.{AllByRecursion}
use Rattle.table_types.specs.declared.update.Update.{Update}
use Rattle.table_types.specs.Batches.{IsBatchFor}
use Rattle.table_types.specs.Tables.{Definition}
use Rattle.peers_msg.specs.declared.message.Message.{Message}
use Rattle.learner.specs.OnItsWay.{IsOnItsWay}
use Rattle.interleave_core.specs.declared.step.Step.{Step}
use Rattle.interleave_core.specs.declared.step.Step.TheVariants as steps
use Rattle.interleave_core.specs.Worlds.{ConnectionState, WorldState, roster_of}

-- Teacher and learner have the same tables, and what waits are batches for them. The bytes that the learner hasn't read
-- and those on their way to it are a legal stream that leads to the known state, and carries what was taught and not put
-- yet.
pub record IsOnTrack (roster : List Definition) (s : ConnectionState) : Type 0 where
  pub known : s.known.roster ≡ roster
  pub learner : s.learner.intake.roster ≡ roster
  pub batches : AllByRecursion (IsBatchFor roster) s.copied
  pub way : (ms : List Message) × (to_come : List Update)
      × IsOnItsWay s.learner s.to_learner ms to_come s.known.state × (s.taught ≡ s.applied ++ to_come)

-- each connection of the world is on track
abbrev pub AreOnTrack : WorldState → Type 0
AreOnTrack w = AllByRecursion (IsOnTrack (roster_of w.cells)) w.connections

-- the step is a copy, which makes a batch wait unless the table refuses it
abbrev pub is_copy : Step → Bool
is_copy (steps.Copy session table kind limit now) = true
is_copy step = false
