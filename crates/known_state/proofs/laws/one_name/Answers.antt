use Rattle.known_state.proofs.NamedAsResolved.{named_by, named_so}
use Rattle.known_state.proofs.laws.one_name.Goals as goal

pub returns-clause-names : goal.returns-clause-names
returns-clause-names c = named_by

pub returns-clause-only : goal.returns-clause-only
returns-clause-only c = named_so
