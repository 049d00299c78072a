use Rattle.tolerant_intake.proofs.StandInsStay.{reads_apart, fed_apart, none_due}
use Rattle.tolerant_intake.proofs.laws.stand_ins_stay.Goals as goal

pub returns-clause-begun : goal.returns-clause-begun
returns-clause-begun c = λ roster. tt

pub returns-clause-fed : goal.returns-clause-fed
returns-clause-fed c = fed_apart

pub returns-clause-reads : goal.returns-clause-reads
returns-clause-reads c = reads_apart

pub returns-clause-acks : goal.returns-clause-acks
returns-clause-acks c = none_due
