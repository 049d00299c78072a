use Rattle.std.proofs.Common.{◌≡◌, drop}
use Rattle.table_shards.specs.Receipts.{page_at}
use Rattle.table_shards.specs.Pages.{page_states}
use Rattle.table_shards.proofs.pages.page_of.Given as goal

abbrev pub invariant-loop-page : goal.invariant-loop-page
invariant-loop-page l = page_at l.table (page_states (drop l.page-index l.pages)) ≡ page_at l.table (page_states l.pages)
