use Rattle.std.proofs.Common.{◌≡◌, drop}
use Rattle.node_log.specs.Waiting.{limit_of}
use Rattle.node_log.proofs.waiting.Waiting.has_room.Given as goal

abbrev pub invariant-loop-limited : goal.invariant-loop-limited
invariant-loop-limited l = limit_of l.event l.peer (drop l.limited-index l.self.limits.items) ≡ limit_of l.event l.peer l.self.limits.items
