use Rattle.admin_text.proofs.PlaceLaws.{warning_said}
use Rattle.admin_text.proofs.warnings.Warnings.note.Goals as goal

pub returns-clause-said : goal.returns-clause-said
returns-clause-said c =
    λ so_far.
    warning_said c.push_numbered.result c.args.self.now.lines.items c.push.new.self.items
    (record { number = c.args.line.now.number; warning = c.in-Some.warning }) c.args.self.now.said.items c.push_numbered.new.text.items
    c.in_ok-push.ensures.items so_far c.push_numbered.ensures
