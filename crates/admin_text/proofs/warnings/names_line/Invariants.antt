use Rattle.std.proofs.Common.{◌≡◌, drop}
use Rattle.admin_text.specs.Warnings.{names_line}
use Rattle.admin_text.proofs.warnings.names_line.Given as goal

abbrev pub invariant-loop-faulty : goal.invariant-loop-faulty
invariant-loop-faulty l = names_line (drop l.faulty-index l.faults) l.number ≡ names_line l.faults l.number
