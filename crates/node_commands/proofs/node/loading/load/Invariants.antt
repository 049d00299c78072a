use Rattle.std.proofs.Common.{drop}
use Rattle.table_shards.specs.Receipts.{SeatState}
use Rattle.node_commands.specs.Loading.{Gains, loads_of}
use Rattle.node_commands.proofs.node.loading.load.Given as goal

abbrev pub invariant-loop-definition : goal.invariant-loop-definition
invariant-loop-definition g l =
    (e : SeatState) → Gains (loads_of l.sessions (drop l.definition-index l.definitions) l.updates) l.seat e → Gains (loads_of l.sessions l.definitions l.updates) l.fn.seat e
