use Rattle.std.proofs.Common.{◌≡◌, ◌≤◌, ◌++◌, length}
use Rattle.teach_writer.specs.Pieces.{bytes_left}
use Rattle.peers_engine.proofs.writing.gather.Given as goal

abbrev pub invariant-loop-bytes : goal.invariant-loop-bytes
invariant-loop-bytes l = record {
  bytes : l.bytes.items ++ bytes_left l.pieces ≡ bytes_left l.fn.pieces;
  few : length l.pieces.messages ≤ length l.fn.pieces.messages;
  prices : l.pieces.prices ≡ l.fn.pieces.prices;
  known : l.pieces.known ≡ l.fn.pieces.known;
}

abbrev pub decreases-loop-bytes : goal.decreases-loop-bytes
decreases-loop-bytes l = length l.pieces.messages
