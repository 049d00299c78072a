use Rattle.table_cell.specs.declared.events.CellEvent.TheVariants as events
use Rattle.table_cell.specs.declared.events.CellReply.TheVariants as replies
use Rattle.table_cell.proofs.HandingSteps.{made_keeps}
use Rattle.interleave_core.proofs.TieAnswers.{all_taken, due_sent, others_taken}
use Rattle.interleave_core.proofs.TieSteps.{copy_event, more_learned, oldest_taught, other_event}
use Rattle.interleave_core.proofs.tie_laws.a_session_stays_tied.Goals as goal

pub returns-clause-other : goal.returns-clause-other
returns-clause-other c = other_event

pub returns-clause-copied : goal.returns-clause-copied
returns-clause-copied x session before limit now table kind us s acks cells c e sound keeps at made ties =
    copy_event session before limit now table kind us s acks cells c e (made_keeps c e (events.Copy session kind limit now) (replies.Copy us) session sound made keeps) at made ties

pub returns-clause-taught : goal.returns-clause-taught
returns-clause-taught c = oldest_taught

pub returns-clause-learned : goal.returns-clause-learned
returns-clause-learned c = more_learned

pub returns-clause-sent : goal.returns-clause-sent
returns-clause-sent c = due_sent

pub returns-clause-taken : goal.returns-clause-taken
returns-clause-taken c = all_taken

pub returns-clause-others : goal.returns-clause-others
returns-clause-others c = others_taken
