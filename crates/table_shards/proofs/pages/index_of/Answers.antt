use Rattle.std.proofs.Common.{ap, sym, ◌∙◌}
use Rattle.table_shards.specs.declared.pages.Page.{Page}
use Rattle.table_shards.proofs.PageLaws.{none_more}
use Rattle.table_shards.proofs.pages.index_of.Goals as goal

pub loop-index-preserved : goal.loop-index-preserved
loop-index-preserved c =
    let page : Page = c.index-pages-index.result in
    none_more c.args.table c.args.pages.now c.loop-index.index page c.loop-index-test.true c.index-pages-index.is
    (λ same. c.if-pages-index.false (ap (λ (p : Page). p.table) (sym c.index-pages-index.is) ∙ same)) c.loop-index.invariant
