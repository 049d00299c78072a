use Rattle.std.proofs.Common.{subst}
use Rattle.table_cell.specs.Histories.{CellState, IsReplayed}
use Rattle.table_cell.proofs.RunLaws.{runs_keep}
use Rattle.table_cell.proofs.cell.TableCell.dropped.Goals as goal

pub returns-clause-kept : goal.returns-clause-kept
returns-clause-kept c =
    runs_keep c.args.self.now (subst (λ (x : CellState). IsReplayed x) c.self.view_is c.self.invariant.sound.replayed)
