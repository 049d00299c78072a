use Rattle.std.proofs.Common.{◌≡◌, ◌++◌, drop, map}
use Rattle.node_commands.specs.Loading.{new_of}
use Rattle.node_commands.proofs.node.loading.new_tables.Given as goal

abbrev pub invariant-loop-definition : goal.invariant-loop-definition
invariant-loop-definition l = l.cells.items ++ map new_of (drop l.definition-index l.definitions) ≡ map new_of l.definitions
