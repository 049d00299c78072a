use Rattle.std.proofs.Common.{◌≡◌, ◌++◌}
use Rattle.learner.proofs.learner.copies.Given as goal

abbrev pub invariant-loop-key : goal.invariant-loop-key
invariant-loop-key l = l.copies.items ++ l.key-iterator ≡ l.rows.entries
