use Rattle.std.proofs.Common.{drop}
use Rattle.std.specs.List.{flat_map}
use Rattle.table_shards.specs.Receipts.{SeatState}
use Rattle.node_commands.specs.Loading.{Gains, learn_of}
use Rattle.node_commands.proofs.node.loading.learn_all.Given as goal

abbrev pub invariant-loop-update : goal.invariant-loop-update
invariant-loop-update g l =
    (e : SeatState) → Gains (flat_map (learn_of l.table) (drop l.update-index l.updates)) l.seat e → Gains (flat_map (learn_of l.table) l.updates) l.fn.seat e
