use Rattle.session_core.proofs.EitherHeard.{answers_heard}
use Rattle.session_core.proofs.EitherRuns.{answers_alike}
use Rattle.session_core.proofs.laws.any_answers.Goals as goal

pub returns-clause-told : goal.returns-clause-told
returns-clause-told c =
    λ settles s e end course one other steps others more rest left over opens holds good cut first again out out'.
    (answers_alike settles s e end course one other steps others more rest left over opens holds good cut first again out out').0

pub returns-clause-same : goal.returns-clause-same
returns-clause-same c =
    λ settles s e end course one other steps others more rest left over opens holds good cut first again out out'.
    (answers_alike settles s e end course one other steps others more rest left over opens holds good cut first again out out').1

pub returns-clause-reopened : goal.returns-clause-reopened
returns-clause-reopened c =
    λ settles s e end course one other steps others more rest left over opens holds good cut first again out out'.
    (answers_alike settles s e end course one other steps others more rest left over opens holds good cut first again out out').2

pub returns-clause-heard : goal.returns-clause-heard
returns-clause-heard c =
    λ settles s e end course one other steps others more rest left over opens holds good cut first again out out'.
    answers_heard settles s e end course one other steps others more rest left over opens holds good cut first again out out'
