use Rattle.std.proofs.Common.{◌≡◌, ◌≤◌, ◌-◌, List, length, drop}
use Rattle.table_types.specs.declared.update.Update.{Update}
use Rattle.peers_msg.specs.declared.message.Message.{Message}
use Rattle.learner.specs.Learning.{AreLearned}
use Rattle.learner.specs.InPlace.{over}
use Rattle.learner.proofs.keeper.Keeper.learn_all.Given as goal

abbrev pub invariant-loop-progress : goal.invariant-loop-progress
invariant-loop-progress l = record {
  learned : (ms : List Message)
      × (us : List Update)
      × AreLearned l.now (over l.fn.self l.bytes) ms us (over l.self (drop l.used l.bytes))
      × (l.count ≡ length us);
  few : l.count ≤ l.used;
  within : l.used ≤ length l.bytes;
}

abbrev pub decreases-loop-progress : goal.decreases-loop-progress
decreases-loop-progress l = length l.bytes - l.used
