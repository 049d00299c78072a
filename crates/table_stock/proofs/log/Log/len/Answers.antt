use Rattle.std.proofs.Common.{ap, length, sym, ◌∙◌}
use Rattle.table_stock.specs.Shelves.{ListInLog}
use Rattle.table_stock.proofs.LogLaws.{length_logged}
use Rattle.table_stock.proofs.log.Log.len.Goals as goal

pub returns : goal.returns
returns c =
    let log = c.self.inside in
    sym (length_logged log.entries.items log.kept log.unswept log.end c.self.invariant.0 c.self.invariant.1 c.self.invariant.2) ∙ ap (λ (l : ListInLog). length l.entries) c.self.view_is
