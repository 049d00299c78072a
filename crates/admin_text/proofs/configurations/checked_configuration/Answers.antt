use Rattle.std.proofs.Common.{◌∙◌, IfOk, ap, map, subst}
use Rattle.admin_text.specs.SoFar.{IsSaidBy}
use Rattle.admin_text.specs.Statements.{said_by}
use Rattle.admin_text.proofs.configurations.checked_configuration.Goals as goal

pub returns-clause-said : goal.returns-clause-said
returns-clause-said c =
    subst (λ lines. IfOk c.configuration_of.result (λ checked. IsSaidBy lines checked.0))
    (ap (map said_by) c.as_slice.ensures.value ∙ c.in_ok-lines.ensures) c.configuration_of.ensures.said
