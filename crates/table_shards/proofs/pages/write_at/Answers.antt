use Rattle.std.proofs.Common.{◌≡◌, get_or, ap, ◌∙◌}
use Rattle.std.proofs.lemmas.List.{get_or_default}
use Rattle.table_shards.specs.declared.pages.Page.{Page}
use Rattle.table_shards.specs.Receipts.{page_with}
use Rattle.table_shards.specs.Pages.{page_state}
use Rattle.table_shards.proofs.PageLaws.{written}
use Rattle.table_shards.proofs.pages.write_at.Goals as goal

pub returns : goal.returns
returns c =
    let ps = c.args.pages.now.items in
    let i = c.args.index in
    let old : Page = c.index_mut.result.now in
    let new : Page = c.write.new.page in
    let same : old ≡ get_or ps i new = c.index_mut.ensures.value ∙ get_or_default ps i old new c.requires.here.below in
    written c.args.table c.args.receipt new ps i c.requires.here (c.write.ensures ∙ ap (λ (p : Page). page_with (page_state p) c.args.receipt) same)
