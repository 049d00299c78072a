use Rattle.std.proofs.Common.{◌≡◌, List, ap, subst, sym, ◌∙◌}
use Rattle.std.specs.List.Sorted.{IsStrictlySortedBy}
use Rattle.std.specs.Map.{keys_of}
use Rattle.std.proofs.lemmas.Result.{IfOk-weaker}
use Rattle.table_types.specs.declared.key.Key.{Key}
use Rattle.table_types.specs.Keys.{key_cmp}
use Rattle.table_types.specs.Rows.{StoredRow}
use Rattle.table_rows.specs.Rows.{row_at}
use Rattle.table_stock.specs.Shelves.{row_in}
use Rattle.table_stock.specs.Stock.{Stocked}
use Rattle.table_stock.proofs.ListLaws.{all_taken, each_listed, rising_listed}
use Rattle.table_stock.proofs.stock.Stock.list.Goals as goal

pub returns-clause-rising : goal.returns-clause-rising
returns-clause-rising c =
    let stock = c.self.inside in
    let at = row_in stock.slots.rows in
    IfOk-weaker c.copies_after.result _ _ (λ list is.
    subst (λ (l : List (Key × StoredRow)). IsStrictlySortedBy key_cmp (keys_of l)) (sym (is ∙ all_taken at stock.keys.entries c.len-count.result c.len-count.ensures.len))
    (rising_listed stock.keys.entries at stock.log.entries stock.next stock.ends.keys c.self.invariant c.len-count.ensures.ordered)) c.copies_after.ensures.copies

pub returns-clause-each : goal.returns-clause-each
returns-clause-each c =
    let stock = c.self.inside in
    let at = row_in stock.slots.rows in
    IfOk-weaker c.copies_after.result _ _ (λ list is key.
    ap (row_at key) (is ∙ all_taken at stock.keys.entries c.len-count.result c.len-count.ensures.len)
    ∙ each_listed stock.keys.entries at stock.log.entries stock.next stock.ends.keys c.self.invariant c.len-count.ensures.ordered key
    ∙ ap (λ (s : Stocked). row_at key s.rows) c.self.view_is) c.copies_after.ensures.copies
