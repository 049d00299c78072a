use Rattle.std.proofs.Common.{sym, ◌∙◌}
use Rattle.table_shards.proofs.FaultLaws.{finds_other, finds_own}
use Rattle.table_shards.proofs.unlocked.fault_of.Goals as goal

pub returns-then-is_intact : goal.returns-then-is_intact
returns-then-is_intact c = finds_own c.args.seats.now c.args.table.now c.compare.result (sym c.is_intact.ensures.intact ∙ c.if-is_intact.true) (c.is_intact.ensures.legal c.if-is_intact.true) c.compare.ensures

pub returns-else-is_intact : goal.returns-else-is_intact
returns-else-is_intact c = finds_other c.args.seats.now c.args.table.now (sym c.is_intact.ensures.intact ∙ c.if-is_intact.false)
