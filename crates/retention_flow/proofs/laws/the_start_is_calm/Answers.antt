use Rattle.retention_flow.proofs.TheStartIsCalm.{start_calm}
use Rattle.retention_flow.proofs.laws.the_start_is_calm.Goals as goal

pub returns : goal.returns
returns c = start_calm
