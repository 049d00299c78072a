use Rattle.std.proofs.Common.{◌≡◌, ◌+◌, ℕ, List, ap, length, sym, subst, ◌∙◌}
use Rattle.peers_msg.specs.declared.message.Message.{Message}
use Rattle.peers_msg.specs.Spelling.{stream_of}
use Rattle.known_state.specs.Cost.{full}
use Rattle.known_state.specs.Known.{KnownState}
use Rattle.known_state.specs.Lessons.{IsLessonFor}
use Rattle.known_state.specs.Plans.{Plan}
use Rattle.known_state.specs.Shortest.{Shortest}
use Rattle.price_checker.specs.Verdicts.{Says, bound_shown}
use Rattle.price_checker.specs.declared.verdict.Verdict.TheVariants as verdicts
use Rattle.teach_writer.specs.Lessons.{plan_of}
use Rattle.teach_writer.specs.Pieces.{bytes_left, plan_left}
use Rattle.teach_writer.specs.Planning.{IsLessonBy}
use Rattle.teach_writer.proofs.teaching.teach.Goals as goal

pub returns-clause-taught : goal.returns-clause-taught
returns-clause-taught c =
    let k = c.args.known.now in
    let us = c.args.batch.now in
    let pieces = c.in_ok-pieces.pieces in
    let lesson = c.in_ok-lesson.lesson in
    let same : (lesson.bytes ≡ bytes_left pieces) × (plan_of lesson ≡ plan_left pieces) × (lesson.known ≡ pieces.known) = c.in_ok-lesson.ensures.parts in
    let bytes : IsLessonFor k us lesson.bytes pieces.known = subst (λ (bs : List ℕ). IsLessonFor k us bs pieces.known) (sym same.0) c.in_ok-pieces.ensures.taught in
    subst (λ (after : KnownState). IsLessonFor k us lesson.bytes after) (sym same.2) bytes

pub returns-clause-ends : goal.returns-clause-ends
returns-clause-ends c = λ ms is. c.in_ok-lesson.ensures.ends ms (sym c.in_ok-lesson.ensures.parts.0 ∙ is)

pub returns-clause-order : goal.returns-clause-order
returns-clause-order c =
    let k = c.args.known.now in
    let us = c.args.batch.now in
    let pieces = c.in_ok-pieces.pieces in
    let lesson = c.in_ok-lesson.lesson in
    let same : (lesson.bytes ≡ bytes_left pieces) × (plan_of lesson ≡ plan_left pieces) × (lesson.known ≡ pieces.known) = c.in_ok-lesson.ensures.parts in
    let bytes : IsLessonBy (plan_left pieces) k us lesson.bytes pieces.known.state =
    subst (λ (bs : List ℕ). IsLessonBy (plan_left pieces) k us bs pieces.known.state) (sym same.0) c.in_ok-pieces.ensures.order in
    let plan : IsLessonBy (plan_of lesson) k us lesson.bytes pieces.known.state = subst (λ (p : Plan). IsLessonBy p k us lesson.bytes pieces.known.state) (sym same.1) bytes in
    subst (λ (after : KnownState). IsLessonBy (plan_of lesson) k us lesson.bytes after.state) (sym same.2) plan

pub returns-clause-shortest : goal.returns-clause-shortest
returns-clause-shortest c =
    let k = c.args.known.now in
    let us = c.args.batch.now in
    let pieces = c.in_ok-pieces.pieces in
    let bytes : c.in_ok-lesson.lesson.bytes ≡ bytes_left pieces = c.in_ok-lesson.ensures.parts.0 in
    let shortest : (ms : List Message) × (bytes_left pieces ≡ stream_of ms) × Shortest k us ms = c.in_ok-pieces.ensures.shortest in
    (shortest.0, bytes ∙ shortest.1, shortest.2)

pub returns-clause-tight : goal.returns-clause-tight
returns-clause-tight c =
    let k = c.args.known.now in
    let us = c.args.batch.now in
    let lesson = c.in_ok-lesson.lesson in
    let prices : lesson.prices ≡ c.in_ok-pieces.pieces.prices = ap (λ (p : Plan). p.prices) c.in_ok-lesson.ensures.parts.1 in
    let bytes : length lesson.bytes + bound_shown k us c.in_ok-pieces.pieces.prices ≡ full k.roster k.state us =
    subst (λ (bs : List ℕ). length bs + bound_shown k us c.in_ok-pieces.pieces.prices ≡ full k.roster k.state us) (sym c.in_ok-lesson.ensures.parts.0) c.in_ok-pieces.ensures.tight in
    subst (λ (ps : List ℕ). length lesson.bytes + bound_shown k us ps ≡ full k.roster k.state us) (sym prices) bytes

pub returns-clause-said : goal.returns-clause-said
returns-clause-said c =
    let k = c.args.known.now in
    let us = c.args.batch.now in
    let pieces = c.in_ok-pieces.pieces in
    let lesson = c.in_ok-lesson.lesson in
    let prices : lesson.prices ≡ pieces.prices = ap (λ (p : Plan). p.prices) c.in_ok-lesson.ensures.parts.1 in
    let bytes : Says k us lesson.bytes pieces.prices (verdicts.Shortest (length lesson.bytes)) =
    subst (λ (bs : List ℕ). Says k us bs pieces.prices (verdicts.Shortest (length bs))) (sym c.in_ok-lesson.ensures.parts.0) c.in_ok-pieces.ensures.said in
    subst (λ (ps : List ℕ). Says k us lesson.bytes ps (verdicts.Shortest (length lesson.bytes))) (sym prices) bytes
