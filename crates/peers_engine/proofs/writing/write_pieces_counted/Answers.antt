use Rattle.std.proofs.Common.{◌≡◌, [], List, ap, ◌∙◌}
use Rattle.std.proofs.lemmas.Result.{err_from_is_err_and}
use Rattle.peers_msg.specs.declared.message.Message.{Message}
use Rattle.peers_msg.specs.Spelling.{stream_of}
use Rattle.teach_writer.specs.Pieces.{bytes_left}
use Rattle.peers_devices.specs.Writing.{written}
use Rattle.peers_engine.specs.Writing.{sent_of}
use Rattle.peers_engine.proofs.PiecesLaws.{all_written, next_written, part_written}
use Rattle.peers_engine.proofs.writing.write_pieces_counted.Goals as goal

pub returns-in_err-write_next-clause-sent : goal.returns-in_err-write_next-clause-sent
returns-in_err-write_next-clause-sent g c =
    let p = err_from_is_err_and c.from_residual.result c.from_residual.ensures.1 in
    let failed = c.in_err-write_next.ensures.failed in
    rw (p.1, p.2)
    (part_written (written (g.W.Write.contents c.args.output.now) c.args.writes.now) (written (g.W.Write.contents c.loop-bytes.output) c.loop-bytes.writes) (written (g.W.Write.contents c.write_next.new.output) c.write_next.new.writes) (bytes_left c.args.pieces) (bytes_left c.loop-bytes.pieces) c.loop-bytes.sent failed.0 (sent_of c.in_err-write_next.field-0.0)
    c.loop-bytes.invariant.written failed.1 failed.2 failed.3).1

pub returns-in_err-write_next-clause-within : goal.returns-in_err-write_next-clause-within
returns-in_err-write_next-clause-within g c =
    let p = err_from_is_err_and c.from_residual.result c.from_residual.ensures.1 in
    let failed = c.in_err-write_next.ensures.failed in
    rw (p.1, p.2)
    (part_written (written (g.W.Write.contents c.args.output.now) c.args.writes.now) (written (g.W.Write.contents c.loop-bytes.output) c.loop-bytes.writes) (written (g.W.Write.contents c.write_next.new.output) c.write_next.new.writes) (bytes_left c.args.pieces) (bytes_left c.loop-bytes.pieces) c.loop-bytes.sent failed.0 (sent_of c.in_err-write_next.field-0.0)
    c.loop-bytes.invariant.written failed.1 failed.2 failed.3).0

pub loop-bytes-preserved : goal.loop-bytes-preserved
loop-bytes-preserved g c =
    let before = c.loop-bytes.invariant in
    let next = c.in_ok-write_next.ensures in
    record {
      written = next_written (written (g.W.Write.contents c.args.output.now) c.args.writes.now) (written (g.W.Write.contents c.loop-bytes.output) c.loop-bytes.writes) (written (g.W.Write.contents c.write_next.new.output) c.write_next.new.writes) (bytes_left c.args.pieces) (bytes_left c.loop-bytes.pieces) (bytes_left c.write_next.new.pieces) c.write_next.new.bytes.items c.loop-bytes.sent c.write_next.new.sent
          before.written next.written.0 next.written.1 next.written.2;
      prices = next.same.0 ∙ before.prices;
      known = next.same.1 ∙ before.known;
    }

pub returns-clause-ok : goal.returns-clause-ok
returns-clause-ok g c =
    let next = c.in_ok-write_next.ensures in
    let none : bytes_left c.write_next.new.pieces ≡ [] = ap (λ (ms : List Message). stream_of ms) (next.last c.if-branch.false).0 in
    all_written (written (g.W.Write.contents c.args.output.now) c.args.writes.now) (written (g.W.Write.contents c.write_next.new.output) c.write_next.new.writes) (bytes_left c.args.pieces) (bytes_left c.write_next.new.pieces) c.write_next.new.sent none
    (next_written (written (g.W.Write.contents c.args.output.now) c.args.writes.now) (written (g.W.Write.contents c.loop-bytes.output) c.loop-bytes.writes) (written (g.W.Write.contents c.write_next.new.output) c.write_next.new.writes) (bytes_left c.args.pieces) (bytes_left c.loop-bytes.pieces) (bytes_left c.write_next.new.pieces) c.write_next.new.bytes.items c.loop-bytes.sent c.write_next.new.sent
    c.loop-bytes.invariant.written next.written.0 next.written.1 next.written.2)
