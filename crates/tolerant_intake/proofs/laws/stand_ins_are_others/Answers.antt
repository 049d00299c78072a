use Rattle.tolerant_intake.proofs.StandInsAreNoLocalTables.{no_local_stand_in, stands_apart}
use Rattle.tolerant_intake.proofs.laws.stand_ins_are_others.Goals as goal

pub returns-clause-shape : goal.returns-clause-shape
returns-clause-shape c = no_local_stand_in

pub returns-clause-defined : goal.returns-clause-defined
returns-clause-defined c = stands_apart
