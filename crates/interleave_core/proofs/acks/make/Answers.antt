use Rattle.std.proofs.Common.{◌≡◌, List, None, subst}
use Rattle.table_cell.specs.Histories.{CellState}
use Rattle.interleave_core.specs.Parts.{IsCellAt}
use Rattle.interleave_core.specs.Worlds.{cell_at}
use Rattle.interleave_core.proofs.Arriving.{make_one, none_to_make}
use Rattle.interleave_core.proofs.acks.make.Goals as goal

pub returns-in_default : goal.returns-in_default
returns-in_default c =
    let cells = c.args.cells.now.items in
    absurd (none_to_make c.args.session c.args.ack.table c.args.ack.number cells
    (subst (λ (cs : List CellState). cell_at c.args.ack.table cs ≡ None) c.as_slice.ensures.value c.in_default.ensures.none) c.requires)

pub returns-in-Ok : goal.returns-in-Ok
returns-in-Ok c =
    let cells = c.args.cells.now.items in
    let place : IsCellAt c.args.ack.table cells c.in-Some.index = subst (λ xs. IsCellAt c.args.ack.table xs c.in-Some.index) c.as_slice.ensures.value c.in-Some.ensures.found in
    make_one c.args.session c.args.ack.table c.args.ack.number c.in-Some.index cells c.index_mut.result.now c.ack.new.self c.in-Ok.field-0 place c.index_mut.ensures.value c.in-Ok.ensures c.requires
