use Rattle.std.proofs.Common.{subst, sym}
use Rattle.table_cell.specs.Stock.{AreInRisingKey}
use Rattle.node_commands.proofs.CountLaws.{counts_so}
use Rattle.node_commands.proofs.rounds.table.is_counting_table.Goals as goal

pub returns : goal.returns
returns c = λ is.
    counts_so c.args.cell.now c.as_slice.result.now c.args.threads c.args.count (c.in_ok-has_definition.ensures c.if-not-branch.false)
    (subst (AreInRisingKey c.args.cell.now.state.rows) (sym c.as_slice.ensures.value) c.in_ok-rows.ensures) (c.have_counted.ensures is)
