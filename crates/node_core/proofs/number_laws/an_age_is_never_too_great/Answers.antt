use Rattle.node_core.proofs.Looks.{seen_assigned}
use Rattle.node_core.proofs.number_laws.an_age_is_never_too_great.Goals as goal

pub returns : goal.returns
returns c = seen_assigned
