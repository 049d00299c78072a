use Rattle.std.proofs.Common.{inl, inr, subst}
use Rattle.text_commands.specs.declared.endings.Ending.{Ending}
use Rattle.node_commands.specs.FallingBack.{IsJoined}
use Rattle.node_commands.proofs.EndingLaws.{of_ok}
use Rattle.node_commands.proofs.sockets.join.Goals as goal

pub returns-clause-printed : goal.returns-clause-printed
returns-clause-printed g c = λ rows.
    let printed = c.reported.ensures.printed rows in
    let found = of_ok _ c.joined-met.result printed.0 printed.1 c.joined-met.ensures.printed in
    (found.0, printed.0.text.items, subst (λ (e : Ending). IsJoined found.0 c.args.link e printed.0.text.items) printed.2 found.1, printed.3)

pub returns-clause-device : goal.returns-clause-device
returns-clause-device g c = λ device.
    elim (c.reported.ensures.device device) [
      | inl same ↦ inl same
      | inr printed ↦
          let found = of_ok _ c.joined-met.result printed.0 printed.1 c.joined-met.ensures.printed in
          inr (found.0, printed.0.ending, printed.0.text.items, found.1, printed.2)
    ]
