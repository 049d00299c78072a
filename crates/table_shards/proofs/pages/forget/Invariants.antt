use Rattle.std.proofs.Common.{◌≡◌, ◌++◌, drop, map, take}
use Rattle.table_shards.specs.Receipts.{forgotten_page}
use Rattle.table_shards.specs.Pages.{page_states}
use Rattle.table_shards.proofs.pages.forget.Given as goal

abbrev pub invariant-loop-page : goal.invariant-loop-page
invariant-loop-page l =
    page_states (take l.page-index l.pages) ++ map (forgotten_page l.table) (page_states (drop l.page-index l.pages))
    ≡ map (forgotten_page l.table) (page_states l.fn.pages)
