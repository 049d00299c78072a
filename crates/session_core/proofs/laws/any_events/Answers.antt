use Rattle.session_core.proofs.EitherHeard.{fed_heard}
use Rattle.session_core.proofs.EitherRuns.{fed_the_same}
use Rattle.session_core.proofs.laws.any_events.Goals as goal

pub returns : goal.returns
returns c =
    λ s e end course first piece more rest pieces others acts given opens holds good cut one other out out'.
    let same = fed_the_same s e end course first piece more rest pieces others acts given opens holds good cut one other out out' in
    (same.0, same.1, fed_heard s e end course first piece more rest pieces others acts given opens holds good cut one other out out')
