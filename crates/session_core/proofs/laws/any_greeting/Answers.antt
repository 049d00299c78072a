use Rattle.session_core.proofs.EitherRuns.{greetings_alike}
use Rattle.session_core.proofs.GreetingHeard.{greetings_heard}
use Rattle.session_core.proofs.laws.any_greeting.Goals as goal

pub returns-clause-told : goal.returns-clause-told
returns-clause-told c =
    λ settles roster begun s e end before greeter bytes course one other steps others more rest left over begins lasts opens holds good cut first again out out'.
    (greetings_alike settles roster begun s e end before greeter bytes course one other steps others more rest left over begins lasts opens holds good cut first again out out').0

pub returns-clause-same : goal.returns-clause-same
returns-clause-same c =
    λ settles roster begun s e end before greeter bytes course one other steps others more rest left over begins lasts opens holds good cut first again out out'.
    (greetings_alike settles roster begun s e end before greeter bytes course one other steps others more rest left over begins lasts opens holds good cut first again out out').1

pub returns-clause-reopened : goal.returns-clause-reopened
returns-clause-reopened c =
    λ settles roster begun s e end before greeter bytes course one other steps others more rest left over begins lasts opens holds good cut first again out out'.
    (greetings_alike settles roster begun s e end before greeter bytes course one other steps others more rest left over begins lasts opens holds good cut first again out out').2

pub returns-clause-heard : goal.returns-clause-heard
returns-clause-heard c = greetings_heard
