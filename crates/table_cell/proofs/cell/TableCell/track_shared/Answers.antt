use Rattle.std.proofs.Common.{rules}
use Rattle.table_cell.proofs.cell.TableCell.track_shared.Goals as goal

pub returns-in_err-row : goal.returns-in_err-row
returns-in_err-row c =
    let refused = c.in_err-row.ensures.refused c.args.seat in
    search rules
