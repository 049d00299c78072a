use Rattle.std.proofs.Common.{arith}
use Rattle.node_log.proofs.Rooms.{full_with}
use Rattle.node_log.proofs.waiting.append.Goals as goal

pub returns-then-len-saturating_sub-clause-full : goal.returns-then-len-saturating_sub-clause-full
returns-then-len-saturating_sub-clause-full c = λ _. full_with c.args.form c.args.event.now c.args.text.now.items c.in-Ok.line.items c.in-Ok.ensures (omega (arith, c.if-len-saturating_sub.true, c.len.ensures, c.len-2.ensures, c.saturating_sub.ensures))
