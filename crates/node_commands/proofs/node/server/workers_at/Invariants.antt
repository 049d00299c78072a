use Rattle.std.proofs.Common.{◌≡◌, true, [], ◌∷◌, map}
use Rattle.node_commands.specs.Sharing.{waiting_session, worker_at}
use Rattle.node_commands.proofs.node.server.workers_at.Given as goal

abbrev pub invariant-loop-seat : goal.invariant-loop-seat
invariant-loop-seat l = l.workers.items ≡ map (worker_at (waiting_session l.name l.peer l.roster)) l.yielded
