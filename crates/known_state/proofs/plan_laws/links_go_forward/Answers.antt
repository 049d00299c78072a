use Rattle.known_state.proofs.LinkPlaces.{links_forward, over_start, over_none}
use Rattle.known_state.specs.Plans.{links}
use Rattle.std.proofs.Common.{length}
use Rattle.known_state.proofs.plan_laws.links_go_forward.Goals as goal

pub returns-clause-forward : goal.returns-clause-forward
returns-clause-forward c = links_forward

pub returns-clause-start : goal.returns-clause-start
returns-clause-start c = λ held rs keep. over_start (links held rs keep)

pub returns-clause-past : goal.returns-clause-past
returns-clause-past c = λ held rs keep place le. over_none (length rs) place (links held rs keep) (links_forward held rs keep) le
