use Rattle.table_rows.proofs.ListLaws.{rising_none}
use Rattle.table_rows.proofs.list_rows.ListRows.new.Goals as goal

pub invariant_of-result : goal.invariant_of-result
invariant_of-result c = rising_none c.new.result.items c.new.ensures.items
