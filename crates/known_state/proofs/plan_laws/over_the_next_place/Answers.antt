use Rattle.known_state.proofs.LinkPlaces.{links_forward, over_next, kept_ends}
use Rattle.known_state.specs.Plans.{links}
use Rattle.std.proofs.Common.{length}
use Rattle.known_state.proofs.plan_laws.over_the_next_place.Goals as goal

pub returns-clause-next : goal.returns-clause-next
returns-clause-next c = λ held rs keep place. over_next (length rs) place (links held rs keep) (links_forward held rs keep)

pub returns-clause-ends : goal.returns-clause-ends
returns-clause-ends c = kept_ends
