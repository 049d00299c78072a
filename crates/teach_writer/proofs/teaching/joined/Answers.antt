use Rattle.std.proofs.Common.{◌≡◌, ◌+◌, ◌<◌, ◌^◌, ◌++◌, [], ℕ, List, length, length-append, append-nil, sym, ap, ◌∙◌, rules, arith}
use Rattle.peers_msg.specs.declared.message.Message.{Message}
use Rattle.peers_msg.specs.Spelling.{stream_of}
use Rattle.teach_writer.specs.Pieces.{ends_from}
use Rattle.teach_writer.proofs.MessageEnds.{one_cut}
use Rattle.teach_writer.proofs.teaching.joined.Goals as goal

pub returns-clause-ends : goal.returns-clause-ends
returns-clause-ends c = λ ms is.
    let before : List Message = c.loop-ends.pieces.messages in
    let all : List Message = c.args.pieces.messages in
    let bytes : List ℕ = c.loop-ends.bytes.items in
    let none : before ≡ [] = search rules in
    let kept : c.new-2.result ≡ c.loop-ends.ends.items = search rules in
    let whole : length (bytes ++ stream_of before) ≡ length (stream_of all) = ap (λ (l : List ℕ). length l) c.loop-ends.invariant.bytes in
    let parts : length (bytes ++ stream_of before) ≡ length bytes + length (stream_of before) = length-append bytes (stream_of before) in
    let nothing : length (stream_of before) ≡ 0 = ap (λ (l : List Message). length (stream_of l)) none in
    let fits : length bytes < 2 ^ 64 = omega arith in
    let small : length (stream_of all) < 2 ^ 64 = omega (arith, whole, parts, nothing, fits) in
    let ends : c.loop-ends.ends.items ++ ends_from (length bytes) before ≡ ends_from 0 all = c.loop-ends.invariant.ends in
    kept ∙ sym (append-nil c.loop-ends.ends.items) ∙ ap (λ (l : List Message). c.loop-ends.ends.items ++ ends_from (length bytes) l) (sym none) ∙ ends ∙ one_cut all ms 0 is small
