use Rattle.std.proofs.Common.{◌≡◌, length, List, sym, ap, ◌∙◌, arith}
use Rattle.table_types.specs.Tables.{Definition}
use Rattle.learner.specs.Intake.{Taking}
use Rattle.learner.proofs.RowsStandByTable.{no_rows, all_shelved, length_shelved}
use Rattle.learner.proofs.LearningGoesOn.{begins_so}
use Rattle.learner.proofs.keeper.Keeper.new.Goals as goal

pub invariant_of-result : goal.invariant_of-result
invariant_of-result c =
    let held : c.loop.rows_of_tables.items ≡ no_rows c.tables-items.result.now = all_shelved c.tables-items.result.now c.loop.index c.loop.rows_of_tables.items (omega arith) c.loop.invariant in
    ap length held ∙ length_shelved c.tables-items.result.now ∙ ap (λ (ds : List Definition). length ds) (c.tables-items.ensures.tables ∙ sym (ap (λ (t : Taking). t.roster) c.new-2.ensures))

pub returns : goal.returns
returns c =
    let held : c.loop.rows_of_tables.items ≡ no_rows c.tables-items.result.now = all_shelved c.tables-items.result.now c.loop.index c.loop.rows_of_tables.items (omega arith) c.loop.invariant in
    begins_so c.args.roster c.new-2.result c.loop.rows_of_tables.items c.new-2.ensures (held ∙ ap no_rows c.tables-items.ensures.tables)
