use Rattle.std.proofs.Common.{◌∙◌, ◌++◌, ap}
use Rattle.admin_text.proofs.RefusalLaws.{line_added}
use Rattle.admin_text.proofs.said_lines.push_line.Goals as goal

pub returns : goal.returns
returns c =
    line_added c.args.text.now.items _ _ _ c.args.head.now
    (c.in_ok-extend_from_slice.ensures.items ∙ ap (λ bytes. c.args.text.now.items ++ bytes) c.as_bytes.ensures.value) c.in_ok-push_printable.ensures c.in_ok-push.ensures.items
