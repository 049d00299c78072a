-- Writing the pieces of a lesson.
use Rattle.std.specs.Prelude.{ℕ}
use Rattle.peers_engine.specs.declared.writing.PiecesError.{PiecesError}
use Rattle.peers_engine.specs.declared.writing.PiecesError.TheVariants as errors

-- the number of bytes of the lesson that were written before the error
abbrev pub sent_of : PiecesError → ℕ
sent_of (errors.Write sent) = sent
sent_of (errors.Memory sent) = sent
