use Rattle.std.proofs.Common.{◌≡◌, ◌++◌, List, length}
use Rattle.learner.specs.declared.taken.Taken.{Taken}
use Rattle.session_core.specs.declared.action.Action.{Action}
use Rattle.session_core.specs.HeardCounts.{all_counted}
use Rattle.session_core.specs.Courses.{AreReceived}
use Rattle.session_core.proofs.course.Course.receive_all.Given as goal

abbrev pub invariant-loop-taken : goal.invariant-loop-taken
invariant-loop-taken l =
    (ts : List Taken)
    × (given : List Action)
    × AreReceived l.fn.self ts given l.self
    × (l.actions.items ≡ l.fn.actions.items ++ given)
    × (l.controls ≡ all_counted ts l.fn.controls)

abbrev pub decreases-loop-taken : goal.decreases-loop-taken
decreases-loop-taken l = length l.self.intake.unread
