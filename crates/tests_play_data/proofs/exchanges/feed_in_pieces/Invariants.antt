use Rattle.std.proofs.Common.{◌≡◌, ℕ, List, ◌++◌}
use Rattle.tests_play_data.proofs.FedInPieces.{IsFed}
use Rattle.tests_play_data.proofs.exchanges.feed_in_pieces.Given as goal

abbrev pub invariant-loop-length : goal.invariant-loop-length
invariant-loop-length l = (fed : List ℕ) × (l.bytes ≡ fed ++ l.rest) × IsFed l.now l.fn.learner fed l.learner
