use Rattle.std.proofs.Common.{sym, ◌∙◌}
use Rattle.tolerant_intake.proofs.ReplacedTables.{is_put_back, removed_again}
use Rattle.tolerant_intake.proofs.loose_table.put_back.Goals as goal

pub returns-in-Some : goal.returns-in-Some
returns-in-Some c =
    λ ls table rise before inserted.
    is_put_back c.insert.result c.args.id table c.in-Some.table ls c.args.tables.now.entries c.insert.new.self.entries rise (sym c.in-Some.is ∙ before) inserted c.insert.ensures.entries c.insert.ensures.absent

pub returns-in-None : goal.returns-in-None
returns-in-None c =
    λ ls table rise before inserted.
    c.remove.ensures ∙ rw inserted (removed_again c.args.id table ls rise (sym c.in-None.is ∙ before))
