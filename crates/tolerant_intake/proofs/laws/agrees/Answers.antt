use Rattle.tolerant_intake.proofs.AgreesWithStrict.{waits_too, takes_too, reads_too, none_again, further_stops}
use Rattle.tolerant_intake.proofs.PassedExactly.{passes_exactly, stops_or_passes}
use Rattle.tolerant_intake.proofs.laws.agrees.Goals as goal

pub returns-clause-waits : goal.returns-clause-waits
returns-clause-waits c = waits_too

pub returns-clause-takes : goal.returns-clause-takes
returns-clause-takes c = takes_too

pub returns-clause-messages : goal.returns-clause-messages
returns-clause-messages c = reads_too

pub returns-clause-stops : goal.returns-clause-stops
returns-clause-stops c = stops_or_passes

pub returns-clause-passes : goal.returns-clause-passes
returns-clause-passes c = passes_exactly

pub returns-clause-again : goal.returns-clause-again
returns-clause-again c = none_again

pub returns-clause-further : goal.returns-clause-further
returns-clause-further c = further_stops
