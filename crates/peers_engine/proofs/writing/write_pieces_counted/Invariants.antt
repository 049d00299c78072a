use Rattle.std.proofs.Common.{◌≡◌, length}
use Rattle.teach_writer.specs.Pieces.{bytes_left}
use Rattle.peers_devices.specs.Writing.{written}
use Rattle.peers_engine.proofs.PiecesLaws.{IsWritten}
use Rattle.peers_engine.proofs.writing.write_pieces_counted.Given as goal

abbrev pub invariant-loop-bytes : goal.invariant-loop-bytes
invariant-loop-bytes g l = record {
  written : IsWritten (written (g.W.Write.contents l.fn.output) l.fn.writes) (written (g.W.Write.contents l.output) l.writes) (bytes_left l.fn.pieces) (bytes_left l.pieces) l.sent;
  prices : l.pieces.prices ≡ l.fn.pieces.prices;
  known : l.pieces.known ≡ l.fn.pieces.known;
}

abbrev pub decreases-loop-bytes : goal.decreases-loop-bytes
decreases-loop-bytes g l = length l.pieces.messages
