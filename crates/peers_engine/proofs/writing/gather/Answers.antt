use Rattle.std.proofs.Common.{◌≡◌, [], sym, ◌∙◌}
use Rattle.std.proofs.lemmas.Result.{err_from_is_err_and}
use Rattle.teach_writer.specs.Pieces.{bytes_left}
use Rattle.peers_engine.proofs.PiecesLaws.{more_left, some_left}
use Rattle.peers_engine.proofs.writing.gather.Goals as goal

pub returns-in_err-append_next-clause-left : goal.returns-in_err-append_next-clause-left
returns-in_err-append_next-clause-left c =
    let p = err_from_is_err_and c.from_residual.result c.from_residual.ensures.1 in
    let left = c.loop-bytes.pieces in
    let some : left.messages ≡ [] → ⊥ = λ none. let bad = sym c.in_err-append_next.was ∙ c.append_next.ensures.last none in cc in
    rw p.1 (more_left c.loop-bytes.bytes.items (bytes_left left) (bytes_left c.args.pieces.now) c.loop-bytes.invariant.bytes (some_left left.messages some))
