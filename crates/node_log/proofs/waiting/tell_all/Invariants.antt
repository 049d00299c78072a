use Rattle.std.proofs.Common.{◌≤◌, length}
use Rattle.node_log.proofs.Telling.{AreToldTo}
use Rattle.node_log.proofs.waiting.tell_all.Given as goal

abbrev pub invariant-loop-limited : goal.invariant-loop-limited
invariant-loop-limited l = record {
  told : AreToldTo l.form l.names l.now l.last l.fn.limits l.limits l.fn.text.items l.text.items l.limited-index;
  bound : length l.fn.text.items ≤ 65536 → length l.text.items ≤ 65536;
}
