use Rattle.std.proofs.Common.{◌≡◌, drop, map}
use Rattle.node_commands.specs.Sharing.{ending_of}
use Rattle.node_commands.proofs.node.totals.ending_of.Given as goal

abbrev pub invariant-loop-one : goal.invariant-loop-one
invariant-loop-one l = ending_of (map (λ one. one.played.ending) (drop l.one-index l.all)) ≡ ending_of (map (λ one. one.played.ending) l.all)
