use Rattle.node_commands.specs.Tracks.{GainsTracks}
use Rattle.node_commands.proofs.rounds.tracking.track_all.Given as goal

abbrev pub invariant-loop-done : goal.invariant-loop-done
invariant-loop-done g l = GainsTracks l.key l.done l.fn.seat l.seat
