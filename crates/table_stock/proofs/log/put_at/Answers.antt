use Rattle.std.proofs.Common.{arith}
use Rattle.table_stock.proofs.LogLaws.{pushed_after, written_over}
use Rattle.table_stock.proofs.log.put_at.Goals as goal

pub returns-then-end-len-clause-put : goal.returns-then-end-len-clause-put
returns-then-end-len-clause-put c = written_over c.args.entries.now.items c.replace.new.self.items c.args.end c.args.entry (omega (arith, c.if-end-len.true, c.len.ensures)) c.replace.ensures.put

pub returns-clause-put : goal.returns-clause-put
returns-clause-put c = pushed_after c.args.entries.now.items c.push_reserved.new.self.items c.args.end c.args.entry (omega (arith, c.if-end-len.false, c.len.ensures, c.requires.within)) c.push_reserved.ensures
