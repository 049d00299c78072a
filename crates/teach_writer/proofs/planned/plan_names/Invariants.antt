use Rattle.std.proofs.Common.{◌≤◌, ℕ, take, drop}
use Rattle.std.specs.Prelude.{IfSome}
use Rattle.peers_msg.specs.Spelling.{stream_of}
use Rattle.known_state.specs.Plans.{AreLinked, at_start, kept_over, links, names_in}
use Rattle.teach_writer.specs.Pieces.{messages_left, state_left}
use Rattle.teach_writer.specs.Planning.{StoresNames}
use Rattle.teach_writer.proofs.MarkedSteps.{IsUnderWay}
use Rattle.teach_writer.proofs.PlannedNames.{ArePlanned}
use Rattle.teach_writer.proofs.planned.plan_names.Given as goal

abbrev pub invariant-loop-update : goal.invariant-loop-update
invariant-loop-update l = record {
  few : l.index ≤ l.update-index;
  before : IfSome l.before (λ table. StoresNames l.known.roster table.id table.stores_name);
  planned : ArePlanned l.known.roster l.known.state (take l.update-index l.batch) l.names.items l.slots;
  way : AreLinked (at_start (names_in l.known.state.slots)) l.requests l.keep → ((place : ℕ) → kept_over (links (names_in l.known.state.slots) l.requests l.keep) place ≤ 127) →
      IsUnderWay l.known.roster l.known.state l.batch l.requests l.keep (stream_of (messages_left l.known.roster l.known.state (take l.update-index l.batch) l.names.items))
      (state_left l.known.roster l.known.state (take l.update-index l.batch) l.names.items) l.retained l.index (drop l.update-index l.batch);
}
