use Rattle.std.proofs.Common.{◌∙◌}
use Rattle.tolerant_intake.proofs.LooseTablesById.{removed}
use Rattle.tolerant_intake.proofs.loose_table.remove.Goals as goal

pub returns : goal.returns
returns c = c.remove.ensures.entries ∙ removed c.args.id c.args.tables.now.entries c.len-count.ensures.ordered
