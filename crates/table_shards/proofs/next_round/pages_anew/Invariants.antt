use Rattle.std.proofs.Common.{◌≡◌, take}
use Rattle.table_shards.specs.Anew.{pages_anew}
use Rattle.table_shards.specs.Pages.{page_states}
use Rattle.table_shards.proofs.next_round.pages_anew.Given as goal

abbrev pub invariant-loop-table : goal.invariant-loop-table
invariant-loop-table l = page_states l.pages.items ≡ pages_anew (take l.table-index l.tables)
