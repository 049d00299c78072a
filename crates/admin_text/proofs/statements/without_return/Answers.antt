use Rattle.std.proofs.Common.{rules}
use Rattle.admin_text.proofs.StatementLaws.{dropped_return, kept_end}
use Rattle.admin_text.proofs.statements.without_return.Goals as goal

pub returns-then-last-eq13 : goal.returns-then-last-eq13
returns-then-last-eq13 c = dropped_return c.args.line.now c.in-Some.before.now c.in-Some.last.now (search rules) c.if-last-eq13.true

pub returns-else-last-eq13 : goal.returns-else-last-eq13
returns-else-last-eq13 c = kept_end c.args.line.now c.in-Some.before.now c.in-Some.last.now (search rules) c.if-last-eq13.false
