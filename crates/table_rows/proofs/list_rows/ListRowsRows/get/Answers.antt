use Rattle.std.proofs.Common.{sym, subst}
use Rattle.table_rows.specs.Places.{IsGap, IsThere}
use Rattle.table_rows.proofs.ListLaws.{absent, found, read, there_same}
use Rattle.table_rows.proofs.list_rows.ListRowsRows.get.Goals as goal

pub returns-in-Ok : goal.returns-in-Ok
returns-in-Ok c =
    let es = c.self.inside.rows.items in
    let there : IsThere c.args.key.now es c.in-Ok.index = subst (λ fs. IsThere c.args.key.now fs c.in-Ok.index) c.deref.ensures.value c.in-Ok.ensures.there in
    let at = read es c.in-Ok.index c.index.result.now there.0 c.index.ensures in
    rw (← c.self.view_is) (sym (found c.args.key.now es c.in-Ok.index c.index.result.now at (there_same c.args.key.now es c.in-Ok.index c.index.result.now there at) there.1))

pub returns-in-Err : goal.returns-in-Err
returns-in-Err c =
    let es = c.self.inside.rows.items in
    let gap : IsGap c.args.key.now es c.in-Err.field-0 = subst (λ fs. IsGap c.args.key.now fs c.in-Err.field-0) c.deref.ensures.value c.in-Err.ensures.gap in
    rw (← c.self.view_is) (sym (absent c.args.key.now es c.in-Err.field-0 c.self.invariant gap.1 gap.2))
