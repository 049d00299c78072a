use Rattle.std.proofs.Common.{◌∙◌, ap, map}
use Rattle.peers_msg.specs.Spelling.{spelled}
use Rattle.node_text.specs.Lessons.{printed}
use Rattle.text_commands.proofs.teaching.lesson_text.Goals as goal

pub returns-clause-text : goal.returns-clause-text
returns-clause-text g c =
    let taught = c.in_ok-lesson.ensures.lesson in
    let messages = taught.0 in
    let bytes = c.as_slice-2.ensures ∙ taught.1 in
    (c.in_ok-scene.scene, messages, c.in_ok-lesson.lesson.prices, taught.2, c.in_ok-text-2.ensures.messages messages bytes ∙ ap (printed (map spelled messages)) c.as_slice-3.ensures)
