use Rattle.tolerant_intake.proofs.NamesArrive.{names_arrive}
use Rattle.tolerant_intake.proofs.laws.names_arrive.Goals as goal

pub returns : goal.returns
returns c = names_arrive
