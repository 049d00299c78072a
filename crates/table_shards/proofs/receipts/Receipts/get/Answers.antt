use Rattle.std.proofs.Common.{List, drop, Option, Bor, sym, ap, ◌∙◌, arith}
use Rattle.std.specs.List.{slice_get}
use Rattle.table_shards.specs.declared.pages.Page.{Page}
use Rattle.table_shards.specs.Pages.{lent_receipts}
use Rattle.table_shards.specs.Receipts.{ReceiptState}
use Rattle.table_shards.proofs.ReceiptLaws.{got_from, left_over}
use Rattle.table_shards.proofs.receipts.Receipts.get.Goals as goal

pub overflow_add-self-inside : goal.overflow_add-self-inside
overflow_add-self-inside c =
    let left = left_over c.self.inside.next c.self.inside.end (lent_receipts c.self.inside.page) c.args.self.now c.self.invariant c.self.view_is in
    omega (arith, left, c.len.ensures, c.if-index-len.false, c.self.invariant.most)

pub returns-in-Some : goal.returns-in-Some
returns-in-Some c =
    c.get.ensures
    ∙ sym (got_from c.in-Some.page.now.receipts.items c.self.inside.next c.args.index)
    ∙ ap (λ (page : Option (Bor Page)). slice_get (drop c.self.inside.next (lent_receipts page)) c.args.index) (sym c.in-Some.is)
    ∙ ap (λ (rs : List ReceiptState). slice_get rs c.args.index) c.self.view_is
