use Rattle.std.proofs.Common.{ℕ, ◌≤◌}
use Rattle.node_commands.specs.Rounds.{HasCountAmong}
use Rattle.node_commands.proofs.rounds.table.have_counted.Given as goal

abbrev pub invariant-loop-before : goal.invariant-loop-before
invariant-loop-before l = (key : ℕ) → 1 ≤ key → key ≤ l.before → HasCountAmong key l.count l.rows
