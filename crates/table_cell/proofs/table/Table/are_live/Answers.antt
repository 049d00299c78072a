use Rattle.std.proofs.Common.{◌≡◌, Some, sym, ap, subst, ◌∙◌}
use Rattle.std.specs.Prelude.{option_copied}
use Rattle.table_types.specs.declared.key.Key.{Key}
use Rattle.table_types.specs.Rows.{StoredRow}
use Rattle.table_rows.specs.Rows.{row_at}
use Rattle.table_cell.specs.Machine.{TableState}
use Rattle.std.specs.List.{list_all}
use Rattle.table_rows.specs.Rows.{is_live}
use Rattle.table_cell.proofs.LiveLaws.{first_answers}
use Rattle.table_cell.proofs.table.Table.are_live.Goals as goal

pub returns-in-Some-row : goal.returns-in-Some-row
returns-in-Some-row c =
    let found : row_at c.in-Some.first.now c.self.inside.stock.rows ≡ Some c.in-Some-row.row.now = sym c.row.ensures ∙ ap option_copied c.in-Some-row.is in
    subst (λ (s : TableState). c.is_live.result ≡ list_all (λ (e : Key × StoredRow). is_live c.args.now e.1) s.rows) c.self.view_is
    (c.is_live.ensures ∙ first_answers c.args.now c.in-Some.first.now c.in-Some-row.row.now c.self.inside.stock.rows c.in-Some.ensures.first found)
