use Rattle.std.proofs.Common.{sym, arith}
use Rattle.std.proofs.lemmas.Option.{slice_get_within}
use Rattle.table_shards.specs.Pages.{lent_receipts}
use Rattle.table_shards.proofs.ReceiptLaws.{first_left, left_over, nothing_left}
use Rattle.table_shards.proofs.receipts.ReceiptsIterator.next.Goals as goal

pub returns-in_err-receipt-clause-steps : goal.returns-in_err-receipt-clause-steps
returns-in_err-receipt-clause-steps c =
    let none = nothing_left c.args.self.now c.in_err-receipt.ensures in
    rw c.from_residual.ensures (none, none)

pub overflow_add-self : goal.overflow_add-self
overflow_add-self c =
    let left = left_over c.self.inside.next c.self.inside.end (lent_receipts c.self.inside.page) c.args.self.now c.self.invariant c.self.view_is in
    let some = slice_get_within c.args.self.now 0 c.in_ok-receipt.receipt.now (sym c.in_ok-receipt.ensures) in
    omega (arith, left, some, c.self.invariant.most)

pub returns-clause-steps : goal.returns-clause-steps
returns-clause-steps c = first_left (lent_receipts c.self.inside.page) c.args.self.now c.self.inside.next c.in_ok-receipt.receipt.now c.self.view_is c.in_ok-receipt.ensures
