use Rattle.text_commands.proofs.SceneLaws.{lesson_checked}
use Rattle.text_commands.proofs.laws.taught_lessons_are_shortest.Goals as goal

pub returns : goal.returns
returns c = lesson_checked
