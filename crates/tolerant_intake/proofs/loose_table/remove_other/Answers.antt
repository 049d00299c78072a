use Rattle.std.proofs.Common.{sym}
use Rattle.tolerant_intake.proofs.ReplacedTables.{no_other, same_other}
use Rattle.tolerant_intake.proofs.loose_table.remove_other.Goals as goal

pub returns-in_default : goal.returns-in_default
returns-in_default c = rw c.in_default.is (sym (no_other c.args.ids.0 c.args.tables.now.entries))

pub returns-else-named-ids : goal.returns-else-named-ids
returns-else-named-ids c = rw (c.in-Some.is, c.if-named-ids.false) (sym (same_other c.args.ids.0 c.args.tables.now.entries))
