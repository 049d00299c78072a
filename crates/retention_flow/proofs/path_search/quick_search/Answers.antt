use Rattle.std.proofs.Common.{◌∙◌}
use Rattle.retention_flow.proofs.path_search.quick_search.Goals as goal

pub returns-clause-found : goal.returns-clause-found
returns-clause-found c = record {
  calm = c.in_ok-steps-2.ensures.found.calm;
  target = c.in_ok-steps-2.ensures.found.target ∙ c.in_ok-raise_by_distances.ensures.target ∙ c.in_ok-steps.ensures.found.target;
  steps = c.in_ok-steps-2.ensures.found.steps;
}
