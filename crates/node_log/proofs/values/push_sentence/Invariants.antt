use Rattle.std.proofs.Common.{◌≡◌, ◌++◌, drop, map}
use Rattle.node_log.specs.Values.{printable}
use Rattle.node_log.proofs.values.push_sentence.Given as goal

abbrev pub invariant-loop-byte : goal.invariant-loop-byte
invariant-loop-byte l = l.text.items ++ map printable (drop l.byte-index l.sentence) ≡ l.fn.text.items ++ map printable l.sentence
