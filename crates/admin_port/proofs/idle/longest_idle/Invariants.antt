use Rattle.admin_port.proofs.IdleLaws.{AreSeen}
use Rattle.admin_port.proofs.idle.longest_idle.Given as goal

abbrev pub invariant-loop-place : goal.invariant-loop-place
invariant-loop-place l = AreSeen l.idle l.place l.longest
