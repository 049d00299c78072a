use Rattle.std.proofs.Common.{◌∙◌, ◌++◌, ap}
use Rattle.node_log.proofs.lines.push_time.Goals as goal

pub returns : goal.returns
returns c =
    (c.time_of.result, c.time_of.ensures, c.in_ok-extend_from_slice.ensures.items ∙ ap (λ time. c.args.text.now.items ++ time) c.as_slice.ensures)
