use Rattle.std.proofs.Common.{arith}
use Rattle.table_shards.specs.Pages.{lent_receipts}
use Rattle.table_shards.proofs.CountLaws.{later_rise, later_times}
use Rattle.table_shards.proofs.ReceiptLaws.{left_over}
use Rattle.table_shards.proofs.receipts.Receipts.later_than.Goals as goal

pub overflow_add-next : goal.overflow_add-next
overflow_add-next c =
    let left = left_over c.self.inside.next c.self.inside.end (lent_receipts c.self.inside.page) c.args.self c.self.invariant c.self.view_is in
    omega (arith, left, c.count_up_to.ensures.within, c.self.invariant.most)

pub returns-clause-rising : goal.returns-clause-rising
returns-clause-rising c =
    later_rise c.args.from c.requires.0 c.self.inside.next c.count_up_to.result (lent_receipts c.self.inside.page) c.args.self c.self.view_is c.requires.1 c.count_up_to.ensures.late

pub returns-clause-times : goal.returns-clause-times
returns-clause-times c = λ place over.
    later_times c.args.from place c.self.inside.next c.count_up_to.result (lent_receipts c.self.inside.page) c.args.self c.self.view_is over c.count_up_to.ensures.within c.count_up_to.ensures.early
