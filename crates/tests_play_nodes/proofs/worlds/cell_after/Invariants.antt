use Rattle.std.proofs.Common.{◌≡◌, length}
use Rattle.tests_play_nodes.proofs.worlds.cell_after.Given as goal

abbrev pub invariant-loop : goal.invariant-loop
invariant-loop l = length l.cell.state.sessions ≡ 0
