use Rattle.std.proofs.Common.{drop}
use Rattle.std.specs.List.{AllByRecursion}
use Rattle.interleave_core.specs.Opened.{IsInOrder}
use Rattle.interleave_core.specs.Parts.{world_of}
use Rattle.interleave_core.specs.SoundWorlds.{IsTimelyStep}
use Rattle.interleave_core.proofs.Running.{LeadsOn}
use Rattle.interleave_core.proofs.world.run.Given as goal

abbrev pub invariant-loop-step : goal.invariant-loop-step
invariant-loop-step l = record {
  order : IsInOrder (world_of l.parts);
  timely : AllByRecursion IsTimelyStep (drop l.step-index l.steps) → AllByRecursion IsTimelyStep l.steps;
  leads : LeadsOn l.fn.world l.steps (world_of l.parts) (drop l.step-index l.steps);
}
