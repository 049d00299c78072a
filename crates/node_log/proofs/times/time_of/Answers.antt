use Rattle.std.proofs.Common.{◌∙◌, ◌*◌, ap, pos}
use Rattle.node_log.proofs.times.time_of.Goals as goal

pub returns : goal.returns
returns c = (c.date_time_of.result, c.date_time_of.ensures ∙ ap (λ n. pos (n * 1000000)) c.min.ensures, c.time_text.ensures)
