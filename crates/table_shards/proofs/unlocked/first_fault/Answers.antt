use Rattle.std.proofs.Common.{◌∷◌, ◌++◌, ◌∙◌, [], List, ap, sym, subst, take}
use Rattle.std.proofs.lemmas.List.{take_more}
use Rattle.table_shards.specs.declared.unlocked.UnlockedTable.{UnlockedTable}
use Rattle.table_shards.specs.Audits.{Faults}
use Rattle.table_shards.proofs.unlocked.first_fault.Goals as goal

pub loop-table-preserved : goal.loop-table-preserved
loop-table-preserved c =
    let table : UnlockedTable = c.table-item.result in
    let ts = c.args.tables.now in
    let i = c.loop-table.table-index in
    subst (λ (us : List UnlockedTable). Faults c.args.seats.now us c.with_table-least.result) (sym (take_more ts i table c.loop-table-test.true ∙ ap (λ (t : UnlockedTable). take i ts ++ t ∷ []) (sym c.table-item.is)))
    (c.with_table-least.ensures (take i ts) c.loop-table.invariant)
