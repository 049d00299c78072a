use Rattle.table_rows.proofs.EndingLaws.{no_endings}
use Rattle.table_stock.specs.Shelves.{row_in, rows_in}
use Rattle.table_stock.proofs.CallLaws.{ends_first}
use Rattle.table_stock.proofs.EndLaws.{no_ends}
use Rattle.table_stock.proofs.stock.Stock.first_end.Goals as goal

pub returns-in-Some-clause-first : goal.returns-in-Some-clause-first
returns-in-Some-clause-first c =
    let stock = c.self.inside in
    rw (← c.self.view_is) (ends_first stock.keys.entries stock.slots.rows stock.log.entries stock.next stock.ends.keys c.self.invariant c.in-Some.first.now c.in-Some.ensures.member c.in-Some.ensures.greatest)

pub returns-in-None-clause-none : goal.returns-in-None-clause-none
returns-in-None-clause-none c =
    let stock = c.self.inside in
    rw (← c.self.view_is) (no_ends (rows_in (row_in stock.slots.rows) stock.log.entries) stock.next c.self.invariant.sound.numbers c.self.invariant.sound.keys stock.ends.keys c.self.invariant.ends (no_endings stock.ends.keys c.in-None.ensures.variant.1))
