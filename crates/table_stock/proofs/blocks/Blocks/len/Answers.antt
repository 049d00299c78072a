use Rattle.std.proofs.Common.{length, ap, arith}
use Rattle.table_stock.proofs.BlockLaws.{length_is}
use Rattle.table_stock.specs.Blocks.{ListInBlocks}
use Rattle.table_stock.proofs.blocks.Blocks.len.Goals as goal

pub returns : goal.returns
returns g c =
    let inside = length_is c.self.inside.full.items c.self.inside.last c.self.invariant.whole in
    let same = ap (λ (list : ListInBlocks g.row.T.Denot). length list.items) c.self.view_is in
    omega (arith, inside, same, c.len.ensures, c.len-2.ensures, c.self.inside.full.ok, c.self.inside.last.ok)
