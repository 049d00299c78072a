use Rattle.table_shards.specs.Pages.{lent_receipts}
use Rattle.table_shards.proofs.ReceiptLaws.{left_over}
use Rattle.table_shards.proofs.receipts.Receipts.len.Goals as goal

pub returns : goal.returns
returns c = left_over c.self.inside.next c.self.inside.end (lent_receipts c.self.inside.page) c.args.self.now c.self.invariant c.self.view_is
