use Rattle.node_commands.proofs.EndingLaws.{then_ok}
use Rattle.node_commands.proofs.sockets.served.Goals as goal

pub returns-then-link-eq1-clause-printed : goal.returns-then-link-eq1-clause-printed
returns-then-link-eq1-clause-printed g c =
    then_ok _ _ c.served_alone.result (λ report alone. (alone.0, ((λ one. alone.1), λ several. absurd (several c.if-link-eq1.true)))) c.served_alone.ensures.printed

pub returns-else-link-eq1-clause-printed : goal.returns-else-link-eq1-clause-printed
returns-else-link-eq1-clause-printed g c =
    then_ok _ _ c.served_shared.result (λ report shared. (shared.0, ((λ one. absurd (c.if-link-eq1.false one)), λ several. shared.1))) c.served_shared.ensures.printed
