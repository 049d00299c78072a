use Rattle.admin_text.specs.SaidLines.{AddsPrintable}
use Rattle.admin_text.proofs.said_lines.push_printable.Given as goal

abbrev pub invariant-loop-byte : goal.invariant-loop-byte
invariant-loop-byte l = AddsPrintable l.fn.text.items l.text.items
