use Rattle.std.proofs.Common.{◌≡◌, ◌+◌, drop}
use Rattle.std.specs.Prelude.{sum_by}
use Rattle.node_commands.proofs.node.totals.turns_of.Given as goal

abbrev pub invariant-loop-one : goal.invariant-loop-one
invariant-loop-one l = l.turns + sum_by (λ one. one.played.turns) (drop l.one-index l.all) ≡ sum_by (λ one. one.played.turns) l.all
