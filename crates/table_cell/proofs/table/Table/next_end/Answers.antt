use Rattle.std.proofs.Common.{◌≡◌, Some, sym, ap, subst, ◌∙◌}
use Rattle.std.specs.Prelude.{option_copied}
use Rattle.std.specs.List.{list_all}
use Rattle.table_types.specs.declared.key.Key.{Key}
use Rattle.table_types.specs.Rows.{StoredRow}
use Rattle.table_rows.specs.Rows.{goes_past, is_live, row_at}
use Rattle.table_cell.specs.Machine.{TableState}
use Rattle.table_cell.proofs.LiveLaws.{first_answers}
use Rattle.table_cell.proofs.table.Table.next_end.Goals as goal

pub returns-in-Some-row : goal.returns-in-Some-row
returns-in-Some-row c = λ now.
    let found : row_at c.in-Some.first.now c.self.inside.stock.rows ≡ Some c.in-Some-row.row.now = sym c.row.ensures ∙ ap option_copied c.in-Some-row.is in
    subst (λ (s : TableState). list_all (λ (e : Key × StoredRow). is_live now e.1) s.rows ≡ goes_past now c.ends.result) c.self.view_is
    (sym (first_answers now c.in-Some.first.now c.in-Some-row.row.now c.self.inside.stock.rows c.in-Some.ensures.first found) ∙ ap (goes_past now) (sym c.ends.ensures))
