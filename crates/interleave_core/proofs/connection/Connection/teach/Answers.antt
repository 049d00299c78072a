use Rattle.std.proofs.Common.{◌≡◌, IfSome, List, Some, arith, length, min, slice_get, subst, sym}
use Rattle.peers_msg.specs.Integers.{IsBytes}
use Rattle.table_types.specs.declared.update.Update.{Update}
use Rattle.teach_writer.specs.Lessons.{IsShortestLesson}
use Rattle.interleave_core.specs.Parts.{connection_of}
use Rattle.interleave_core.proofs.Teaching.{after_lesson, teaches_oldest}
use Rattle.interleave_core.proofs.connection.Connection.teach.Goals as goal

pub returns : goal.returns
returns c = λ roster track.
    let old = c.args.self.now in
    let lesson = c.in-Some-2.lesson in
    let batch : List Update = c.in-Some.batch.now in
    let first : slice_get old.copied.items 0 ≡ Some batch =
    subst (λ (xs : List (List Update)). slice_get xs 0 ≡ Some batch) c.deref.ensures.value (sym c.in-Some.ensures.value) in
    let shortest : IsShortestLesson old.known batch lesson.bytes lesson.known =
    subst (λ o. IfSome o (λ found. IsShortestLesson old.known batch found.bytes found.known)) c.in-Some-2.is c.in_ok-lesson.ensures.lesson in
    let least : c.min-self.result ≡ min old.applied (length old.taught.items) = omega (arith, c.min-self.ensures, c.len.ensures, old.taught.ok.0) in
    teaches_oldest (connection_of old) _ batch lesson.bytes lesson.known first (subst IsBytes c.as_slice.ensures c.send.ensures.bytes) shortest
    (after_lesson old lesson.known c.remove.new.self.items c.append_copies.new.taught.items c.updates.result.now batch c.min-self.result c.send.new.pipe c.as_slice.result.now lesson.bytes
    c.remove.ensures.items c.in_ok-append_copies.ensures c.updates.ensures.updates least c.in_ok-send.ensures.sent c.as_slice.ensures)
