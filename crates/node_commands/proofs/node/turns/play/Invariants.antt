use Rattle.node_commands.specs.Turning.{writer}
use Rattle.node_commands.proofs.TurningLaws.{HasPlayed}
use Rattle.node_commands.proofs.node.turns.play.Given as goal

abbrev pub invariant-loop-before : goal.invariant-loop-before
invariant-loop-before g l =
    HasPlayed l.shards l.turns.pace l.fn.worker l.turns.most l.before l.worker
    (g.R.Read.remaining l.fn.from) (g.R.Read.remaining l.from) (writer (g.W.Write.contents l.fn.to) l.fn.writes (g.W.Faults.failed l.fn.to))
    (writer (g.W.Write.contents l.to) l.writes (g.W.Faults.failed l.to))
