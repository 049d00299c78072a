use Rattle.text_commands.proofs.SceneLaws.{learned_of_scene}
use Rattle.text_commands.proofs.learning.fed.Goals as goal

pub returns-clause-fed : goal.returns-clause-fed
returns-clause-fed c =
    learned_of_scene c.args.scene c.in-Some.moment c.in_ok-rising_roster.field-0 c.in_ok-learner.learner c.as_slice.result.now
    c.feed-answer.result c.feed-answer.new.self c.in-Some.is c.in_ok-rising_roster.ensures.rising c.in_ok-learner.ensures c.as_slice.ensures.value c.feed-answer.ensures.feeds
