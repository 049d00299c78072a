use Rattle.std.proofs.Common.{◌≡◌, drop}
use Rattle.node_core.specs.Onces.{has_said}
use Rattle.node_core.proofs.once.has_said.Given as goal

abbrev pub invariant-loop-said : goal.invariant-loop-said
invariant-loop-said l = has_said (drop l.said-index l.names) l.name ≡ has_said l.names l.name
