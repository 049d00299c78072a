use Rattle.std.proofs.Common.{◌≡◌, ℕ, List, take_all, subst, ap, ◌∙◌}
use Rattle.table_types.specs.Tables.{Definition}
use Rattle.table_cell.specs.Histories.{CellState}
use Rattle.interleave_core.specs.Acks.{HasRoom, pairs_of}
use Rattle.interleave_core.proofs.Arriving.{EachHasRoom, cells_more, each_room}
use Rattle.interleave_core.proofs.acks.have_room.Goals as goal

pub loop-cell-preserved : goal.loop-cell-preserved
loop-cell-preserved c =
    let cells = c.args.cells.now in
    let acks = pairs_of c.args.acks.now in
    let own : c.id.result ≡ c.cell-item.result.state.definition.id = c.id.ensures.value ∙ ap (λ (d : Definition). d.id) c.definition.ensures in
    cells_more (λ x. HasRoom cells acks x.state.definition.id) cells c.loop-cell.cell-index c.cell-item.result c.loop-cell-test.true c.cell-item.is c.loop-cell.invariant
    (subst (λ (t : ℕ). HasRoom cells acks t) own c.if-not-has_room.ensures)

pub returns : goal.returns
returns c =
    let cells = c.args.cells.now in
    let acks = pairs_of c.args.acks.now in
    each_room cells acks (subst (λ (cs : List CellState). EachHasRoom cells acks cs) (take_all c.loop-cell.cell-index cells c.loop-cell-test.false) c.loop-cell.invariant)
