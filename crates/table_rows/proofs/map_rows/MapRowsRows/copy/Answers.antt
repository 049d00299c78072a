use Rattle.std.proofs.Common.{◌++◌, List, sym, ap, ◌∙◌, subst}
use Rattle.std.specs.List.Sorted.{IsStrictlySortedBy}
use Rattle.std.specs.Map.{keys_of}
use Rattle.table_types.specs.declared.key.Key.{Key}
use Rattle.table_types.specs.Keys.{key_cmp}
use Rattle.table_types.specs.Rows.{StoredRow}
use Rattle.table_rows.proofs.RowLaws.{next_copied}
use Rattle.table_rows.proofs.map_rows.MapRowsRows.copy.Goals as goal

-- the next key is above all that were copied
pub loop-key-preserved : goal.loop-key-preserved
loop-key-preserved c =
    next_copied c.args.self.now c.loop-key.copy c.next.new.self c.put_copy.new.rows _ _
    (subst (λ (rows : List (Key × StoredRow)). IsStrictlySortedBy key_cmp (keys_of rows)) c.self.view_is c.self.invariant)
    (ap (λ (rest : List (Key × StoredRow)). c.loop-key.copy ++ rest) (sym c.in-Some.ensures.steps) ∙ c.loop-key.invariant)
    c.in_ok-put_copy.ensures
