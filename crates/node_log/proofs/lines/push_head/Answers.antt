use Rattle.node_log.proofs.LineLaws.{head_dated}
use Rattle.node_log.proofs.lines.push_head.Goals as goal

pub returns-in_ok-push_level-in-Dated : goal.returns-in_ok-push_level-in-Dated
returns-in_ok-push_level-in-Dated c =
    head_dated c.args.form c.in-Dated.milliseconds c.args.level c.args.text.now.items _ _ c.in-Dated.is c.in_ok-push_time-in-Dated.ensures
    c.in_ok-push_level-in-Dated.ensures
