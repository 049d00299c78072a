use Rattle.std.proofs.Common.{sym, ◌∙◌}
use Rattle.table_rows.proofs.FirstLaws.{earlier, not_earlier}
use Rattle.table_rows.proofs.row_end.first_of.Goals as goal

pub returns-then-ends_before : goal.returns-then-ends_before
returns-then-ends_before c =
    rw c.in-Some.is (earlier (c.in-Some.key.now, c.in-Some.row.now) (c.args.next.0.now, c.args.next.1.now) (sym c.ends_before.ensures ∙ c.if-ends_before.true))

pub returns-else-ends_before : goal.returns-else-ends_before
returns-else-ends_before c =
    rw c.in-Some.is (not_earlier (c.in-Some.key.now, c.in-Some.row.now) (c.args.next.0.now, c.args.next.1.now) (sym c.ends_before.ensures ∙ c.if-ends_before.false))
