use Rattle.std.proofs.Common.{◌≡◌, ◌∙◌, ℕ, List, length, refl, subst, sym}
use Rattle.known_state.specs.Plans.{Plan}
use Rattle.known_state.specs.Shortest.{Shortest}
use Rattle.known_state.proofs.ShortestByBytes.{same_bytes}
use Rattle.peers_msg.specs.Spelling.{stream_of}
use Rattle.price_checker.specs.Verdicts.{Says}
use Rattle.price_checker.specs.declared.verdict.Verdict.TheVariants as verdicts
use Rattle.teach_writer.specs.Lessons.{plan_of}
use Rattle.teach_writer.specs.Planning.{IsLessonBy, IsPlanFor}
use Rattle.teach_writer.specs.Sending.{GoesThrough}
use Rattle.text_commands.proofs.SceneLaws.{lesson_of_scene}
use Rattle.text_commands.proofs.teaching.lesson_of.Goals as goal

pub returns-clause-lesson : goal.returns-clause-lesson
returns-clause-lesson c =
    let known = c.in_ok-setting.setting.known in
    let batch = c.in_ok-setting.setting.batch in
    let lesson = c.in_ok-teach.field-0 in
    let after = lesson.known.state in
    let taught = c.in_ok-teach.ensures.taught in
    let by : IsLessonBy (plan_of lesson) known batch (stream_of taught.0) after = subst (λ (bytes : List ℕ). IsLessonBy (plan_of lesson) known batch bytes after) taught.1 c.in_ok-teach.ensures.order in
    let order : (plan : Plan) × IsPlanFor known batch plan × (lesson.prices ≡ plan.prices) × GoesThrough known batch plan.keep (stream_of taught.0) after = (plan_of lesson, by.0, refl, by.1) in
    let short = c.in_ok-teach.ensures.shortest in
    let shortest : Shortest known batch taught.0 = same_bytes known batch taught.0 short.0 after taught.2 short.2 (sym taught.1 ∙ short.1) in
    let said : Says known batch (stream_of taught.0) lesson.prices (verdicts.Shortest (length (stream_of taught.0))) = subst (λ (bytes : List ℕ). Says known batch bytes lesson.prices (verdicts.Shortest (length bytes))) taught.1 c.in_ok-teach.ensures.said in
    (taught.0, taught.1, lesson_of_scene c.args.scene known batch taught.0 lesson.prices c.in_ok-setting.ensures.known c.in_ok-setting.ensures.batch (after, taught.2, shortest, order, said))
