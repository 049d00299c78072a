use Rattle.node_commands.specs.Tracks.{GainsWork}
use Rattle.node_commands.proofs.rounds.worker.work.Given as goal

abbrev pub invariant-loop : goal.invariant-loop
invariant-loop g l = GainsWork l.fn.seat l.seat
