use Rattle.std.proofs.Common.{◌≡◌, Some, None, List, sym, ap, subst, ◌∙◌, arith}
use Rattle.std.specs.Option.{option_copied}
use Rattle.table_types.specs.Tables.{Definition}
use Rattle.learner.specs.Rows.{index_of, row_at, rows_at}
use Rattle.learner.specs.Learning.{Learning}
use Rattle.learner.proofs.RowsStandByTable.{table_rows_within, rows_placed, rows_unplaced}
use Rattle.learner.proofs.keeper.Keeper.row.Goals as goal

pub index-requires : goal.index-requires
index-requires c =
    let at : index_of c.args.self.now.intake.roster c.args.table ≡ Some c.in-Some.index = cc in
    let within = table_rows_within c.args.self.now.intake.roster c.self.inside.intake.roster c.args.table c.in-Some.index c.self.inside.rows_of_tables.items at (ap (λ (x : Learning). x.intake.roster) c.self.view_is) c.self.invariant in
    omega (arith, c.self.inside.rows_of_tables.ok.0)

pub returns-in-Some : goal.returns-in-Some
returns-in-Some c =
    let inner : index_of c.self.inside.intake.roster c.args.table ≡ Some c.in-Some.index =
    ap (λ (ds : List Definition). index_of ds c.args.table) (sym (c.tables.ensures.tables ∙ c.roster.ensures)) ∙ sym c.index_of.ensures ∙ c.in-Some.is in
    let held = rows_placed c.self.inside.intake.roster c.args.table c.in-Some.index c.self.inside.rows_of_tables.items c.index.result.now c.self.invariant inner c.index.ensures in
    subst (λ (l : Learning). option_copied c.row.result ≡ row_at c.args.key.now (rows_at l.intake.roster c.args.table l.rows)) c.self.view_is (c.row.ensures ∙ ap (row_at c.args.key.now) (sym held))

pub returns-in-None : goal.returns-in-None
returns-in-None c =
    let at : index_of c.args.self.now.intake.roster c.args.table ≡ None = cc in
    sym (ap (row_at c.args.key.now) (rows_unplaced c.args.self.now.intake.roster c.args.table c.args.self.now.rows at))
