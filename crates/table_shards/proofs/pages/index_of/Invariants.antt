use Rattle.std.proofs.Common.{◌≡◌, None, take}
use Rattle.table_shards.specs.Receipts.{page_at}
use Rattle.table_shards.specs.Pages.{page_states}
use Rattle.table_shards.proofs.pages.index_of.Given as goal

abbrev pub invariant-loop-index : goal.invariant-loop-index
invariant-loop-index l = page_at l.table (page_states (take l.index l.pages)) ≡ None
