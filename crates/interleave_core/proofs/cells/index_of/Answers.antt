use Rattle.std.proofs.Common.{ap, sym, ◌∙◌, eq-eqb, ne_eqb}
use Rattle.table_cell.specs.Histories.{CellState}
use Rattle.interleave_core.proofs.Places.{cell_here, none_more}
use Rattle.interleave_core.proofs.cells.index_of.Goals as goal

pub returns-then-id-table-clause-found : goal.returns-then-id-table-clause-found
returns-then-id-table-clause-found c =
    let here : CellState = c.index-cells-index.result in
    cell_here c.args.table c.args.cells.now c.loop-index.index here c.loop-index-test.true c.index-cells-index.is
    (eq-eqb here.state.definition.id c.args.table (ap (λ (d : _). d.id) (sym c.definition.ensures) ∙ sym c.id.ensures.value ∙ c.if-id-table.true)) c.loop-index.invariant

pub loop-index-preserved : goal.loop-index-preserved
loop-index-preserved c =
    let here : CellState = c.index-cells-index.result in
    none_more c.args.table c.args.cells.now c.loop-index.index here c.loop-index-test.true c.index-cells-index.is
    (ne_eqb here.state.definition.id c.args.table (λ same. c.if-id-table.false (c.id.ensures.value ∙ ap (λ (d : _). d.id) c.definition.ensures ∙ same))) c.loop-index.invariant
