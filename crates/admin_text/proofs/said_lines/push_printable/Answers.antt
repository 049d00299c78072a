use Rattle.admin_text.proofs.RefusalLaws.{byte_added, nothing_added}
use Rattle.admin_text.proofs.said_lines.push_printable.Goals as goal

pub loop-byte-init : goal.loop-byte-init
loop-byte-init c = nothing_added c.args.text.now.items

pub loop-byte-preserved : goal.loop-byte-preserved
loop-byte-preserved c =
    byte_added c.args.text.now.items c.loop-byte.text.items _ c.printable.result c.loop-byte.invariant c.in_ok-push.ensures.items c.printable.ensures
