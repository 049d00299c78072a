use Rattle.std.proofs.Common.{List, ap, map, subst, sym, ◌∙◌}
use Rattle.table_shards.specs.declared.pages.Page.{Page}
use Rattle.table_shards.specs.Receipts.{PageState, forgotten_page}
use Rattle.table_shards.specs.Pages.{ArePages, page_states, seat_of}
use Rattle.table_shards.proofs.ForgetLaws.{pages_still, put_back}
use Rattle.table_shards.proofs.book.Book.forget.Goals as goal

pub returns-clause-forgotten : goal.returns-clause-forgotten
returns-clause-forgotten c =
    let is = c.forget.ensures ∙ ap (λ (ps : List Page). map (forgotten_page c.args.table) (page_states ps)) c.as_mut_slice.ensures.value in
    ap (λ (ps : List PageState). record (seat_of c.args.self.now) { pages = ps }) (put_back c.args.self.now.pages c.args.table c.forget.new.pages is)

pub returns-clause-pages : goal.returns-clause-pages
returns-clause-pages c =
    let is = c.forget.ensures ∙ ap (λ (ps : List Page). map (forgotten_page c.args.table) (page_states ps)) c.as_mut_slice.ensures.value in
    subst ArePages (sym (put_back c.args.self.now.pages c.args.table c.forget.new.pages is)) (pages_still c.args.table (page_states c.args.self.now.pages.items) c.requires)
