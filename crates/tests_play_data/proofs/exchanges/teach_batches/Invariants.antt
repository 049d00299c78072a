use Rattle.learner.specs.Learning.{IsReadyIn}
use Rattle.tests_play_data.proofs.exchanges.teach_batches.Given as goal

abbrev pub invariant-loop-taught : goal.invariant-loop-taught
invariant-loop-taught l = IsReadyIn l.known l.learner
