use Rattle.std.proofs.Common.{subst}
use Rattle.table_cell.specs.Cells.{IsNewFrom, OriginState}
use Rattle.table_cell.proofs.origin.Origin.first.Goals as goal

pub returns : goal.returns
returns c = subst (λ (o : OriginState). IsNewFrom o.base c.self.inside.first) c.self.view_is c.self.invariant.1
