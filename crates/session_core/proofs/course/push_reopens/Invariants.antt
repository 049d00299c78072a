use Rattle.std.proofs.Common.{◌≡◌, ◌++◌, drop}
use Rattle.session_core.specs.Actions.{reopens}
use Rattle.session_core.proofs.course.push_reopens.Given as goal

abbrev pub invariant-loop-share : goal.invariant-loop-share
invariant-loop-share l = l.actions.items ++ reopens (drop l.share-index l.shares) ≡ l.fn.actions.items ++ reopens l.shares
