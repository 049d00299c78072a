use Rattle.node_commands.specs.Loading.{Gains, opens_of}
use Rattle.node_commands.proofs.node.loading.open_all.Given as goal

abbrev pub invariant-loop-before : goal.invariant-loop-before
invariant-loop-before g l = Gains (opens_of l.table 1 l.before) l.fn.seat l.seat
