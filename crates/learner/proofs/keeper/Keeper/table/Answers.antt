use Rattle.std.proofs.Common.{◌≡◌, Some, None, List, sym, ap, subst, ◌∙◌, arith}
use Rattle.table_types.specs.Tables.{Definition}
use Rattle.learner.specs.Rows.{index_of, rows_at}
use Rattle.learner.specs.Learning.{Learning}
use Rattle.learner.proofs.RowsStandByTable.{table_rows_within, rows_placed, rows_unplaced}
use Rattle.learner.proofs.keeper.Keeper.table.Goals as goal

pub index-requires : goal.index-requires
index-requires c =
    let at : index_of c.args.self.now.intake.roster c.args.table ≡ Some c.in-Some.index = cc in
    let within = table_rows_within c.args.self.now.intake.roster c.self.inside.intake.roster c.args.table c.in-Some.index c.self.inside.rows_of_tables.items at (ap (λ (x : Learning). x.intake.roster) c.self.view_is) c.self.invariant in
    omega (arith, c.self.inside.rows_of_tables.ok.0)

pub returns-in-Some-clause-rows : goal.returns-in-Some-clause-rows
returns-in-Some-clause-rows c =
    let at : index_of c.args.self.now.intake.roster c.args.table ≡ Some c.in-Some.index = cc in
    let inner : index_of c.self.inside.intake.roster c.args.table ≡ Some c.in-Some.index = ap (λ (ds : List Definition). index_of ds c.args.table) (ap (λ (x : Learning). x.intake.roster) c.self.view_is) ∙ at in
    let held = rows_placed c.self.inside.intake.roster c.args.table c.in-Some.index c.self.inside.rows_of_tables.items c.index.result.now c.self.invariant inner c.index.ensures in
    subst (λ (l : Learning). c.rows.result.now.entries ≡ rows_at l.intake.roster c.args.table l.rows) c.self.view_is (c.rows.ensures.rows ∙ sym held)

pub returns-in-None-clause-absent : goal.returns-in-None-clause-absent
returns-in-None-clause-absent c =
    let at : index_of c.args.self.now.intake.roster c.args.table ≡ None = cc in
    λ _. rows_unplaced c.args.self.now.intake.roster c.args.table c.args.self.now.rows at
