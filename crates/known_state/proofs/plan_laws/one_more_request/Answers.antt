use Rattle.known_state.proofs.LinkPlaces.{links_more, last_more}
use Rattle.known_state.proofs.plan_laws.one_more_request.Goals as goal

pub returns-clause-links : goal.returns-clause-links
returns-clause-links c = links_more

pub returns-clause-last : goal.returns-clause-last
returns-clause-last c = last_more
