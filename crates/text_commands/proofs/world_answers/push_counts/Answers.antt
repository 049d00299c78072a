use Rattle.std.proofs.Common.{codes, ◌∷◌, []}
use Rattle.std.specs.Fmt.{decimal}
use Rattle.std.proofs.lemmas.Result.{on_ok_weaker}
use Rattle.text_commands.proofs.WorldPrinting.{line_appended}
use Rattle.text_commands.proofs.world_answers.push_counts.Goals as goal

pub returns : goal.returns
returns c = on_ok_weaker c.end_line.result
    (λ ended. line_appended c.args.text.now.items c.push_count.new.text.items c.push_count-2.new.text.items c.push_count-3.new.text.items
    c.push_count-4.new.text.items c.push_count-5.new.text.items c.push_count-6.new.text.items c.end_line.new.text.items
    (codes " copied ") (codes " taught ") (codes " applied ") (codes " learner ") (codes " teacher ") (codes "session ")
    (decimal c.args.session) (decimal c.args.counts.copied) (decimal c.args.counts.taught) (decimal c.args.counts.applied)
    (decimal c.args.counts.learner) (decimal c.args.counts.teacher) (10 ∷ [])
    c.in_ok-push_count.ensures c.in_ok-push_count-2.ensures c.in_ok-push_count-3.ensures c.in_ok-push_count-4.ensures
    c.in_ok-push_count-5.ensures c.in_ok-push_count-6.ensures ended)
    c.end_line.ensures
