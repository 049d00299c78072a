use Rattle.text_commands.proofs.Printing.{cell_made}
use Rattle.text_commands.proofs.cells.cell_of.Goals as goal

pub returns : goal.returns
returns c =
    cell_made c.args.table c.unwrap_or-size.result c.unwrap_or.result c.is_some.result c.new.result c.new.ensures.cell c.unwrap_or-size.ensures
    c.is_some.ensures c.unwrap_or.ensures
