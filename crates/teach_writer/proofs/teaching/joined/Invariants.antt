use Rattle.std.proofs.Common.{◌≡◌, ◌++◌, length}
use Rattle.teach_writer.specs.Pieces.{bytes_left, ends_from, plan_left}
use Rattle.teach_writer.proofs.teaching.joined.Given as goal

abbrev pub invariant-loop-ends : goal.invariant-loop-ends
invariant-loop-ends l = record {
  bytes : l.bytes.items ++ bytes_left l.pieces ≡ bytes_left l.fn.pieces;
  ends : l.ends.items ++ ends_from (length l.bytes.items) l.pieces.messages ≡ ends_from 0 l.fn.pieces.messages;
  plan : plan_left l.pieces ≡ plan_left l.fn.pieces;
  known : l.pieces.known ≡ l.fn.pieces.known;
}

abbrev pub decreases-loop-ends : goal.decreases-loop-ends
decreases-loop-ends l = length l.pieces.messages
