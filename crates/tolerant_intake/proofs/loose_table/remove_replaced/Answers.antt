use Rattle.std.proofs.Common.{ℕ, not, eqb, List, ap, ◌∙◌}
use Rattle.std.specs.Prelude.{filter}
use Rattle.tolerant_intake.specs.declared.loose_table.LooseTable.{LooseTable}
use Rattle.tolerant_intake.proofs.LooseTablesById.{filter_both}
use Rattle.tolerant_intake.proofs.loose_table.remove_replaced.Goals as goal

pub returns-in-Some : goal.returns-in-Some
returns-in-Some c =
    rw c.in-Some.is
    (c.remove-in-Some.ensures
    ∙ ap (λ (ls : List (ℕ × LooseTable)). filter (λ l. not (eqb l.0 c.in-Some.named)) ls) c.remove.ensures
    ∙ filter_both (λ id. eqb id c.args.ids.0) (λ id. eqb id c.in-Some.named) c.args.tables.now.entries)
