use Rattle.std.proofs.Common.{◌≡◌, Err}
use Rattle.node_text.specs.Scripts.{line_count}
use Rattle.node_text.specs.declared.error.SceneError.TheVariants as errors
use Rattle.node_text.proofs.scripts.read_script.Goals as goal

pub returns-in-Ok-clause-line : goal.returns-in-Ok-clause-line
returns-in-Ok-clause-line c = λ number is. c.up_to.ensures.line (line_count c.args.text.now) number tt is

pub returns-in-Err-Line-clause-line : goal.returns-in-Err-Line-clause-line
returns-in-Err-Line-clause-line c = λ number is.
    let refused : c.read_lines.result ≡ Err (errors.Line c.in-Err-Line.number) = cc in
    c.up_to-in-Err-Line.ensures.line (line_count c.args.text.now) number (c.read_lines.ensures.line c.in-Err-Line.number refused) is
