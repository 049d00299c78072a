use Rattle.std.proofs.Common.{◌≡◌, ◌++◌, take, drop}
use Rattle.node_log.specs.Waiting.{limit_of, with_line}
use Rattle.node_log.proofs.waiting.says_again.Given as goal

abbrev pub invariant-loop-limited : goal.invariant-loop-limited
invariant-loop-limited l = record {
  limit : limit_of l.new.event.now l.new.peer (drop l.limited-index l.limits) ≡ limit_of l.new.event.now l.new.peer l.fn.limits;
  line : take l.limited-index l.limits ++ with_line l.now l.new (drop l.limited-index l.limits) ≡ with_line l.now l.new l.fn.limits;
  same : l.limits ≡ l.fn.limits;
}
