use Rattle.std.proofs.lemmas.Result.{IfOk-weaker}
use Rattle.node_commands.proofs.rounds.audited_text.Goals as goal

pub returns : goal.returns
returns g c =
    let are = c.in_ok-audit.ensures in
    IfOk-weaker c.round_text.result _ _ (λ text is. (c.in_ok-audit.audit, are.0, are.1, are.2, is)) c.round_text.ensures
