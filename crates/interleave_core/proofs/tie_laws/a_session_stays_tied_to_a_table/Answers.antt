use Rattle.table_cell.specs.declared.events.CellEvent.TheVariants as events
use Rattle.table_cell.specs.declared.events.CellReply.TheVariants as replies
use Rattle.table_cell.proofs.HandingSteps.{made_keeps}
use Rattle.interleave_core.proofs.TiePairs.{ack_tied, copy_tied, open_tied, other_tied}
use Rattle.interleave_core.proofs.tie_laws.a_session_stays_tied_to_a_table.Goals as goal

pub returns-clause-other : goal.returns-clause-other
returns-clause-other c = other_tied

pub returns-clause-copied : goal.returns-clause-copied
returns-clause-copied x session limit now kind us share c e p sound keeps made tie =
    copy_tied session limit now kind us share c e p (made_keeps c e (events.Copy session kind limit now) (replies.Copy us) session sound made keeps) made tie

pub returns-clause-acknowledged : goal.returns-clause-acknowledged
returns-clause-acknowledged c = ack_tied

pub returns-clause-opened : goal.returns-clause-opened
returns-clause-opened c = open_tied
