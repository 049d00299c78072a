use Rattle.std.proofs.Common.{ℕ, List, subst}
use Rattle.node_commands.specs.Nodes.{AppendsSome}
use Rattle.node_commands.proofs.EndingLaws.{whole}
use Rattle.node_commands.proofs.node.Report.print.Goals as goal

pub returns-in-Ok-clause-device : goal.returns-in-Ok-clause-device
returns-in-Ok-clause-device g c = λ device.
    subst (λ (text : List ℕ). AppendsSome (g.O.Write.contents c.args.output.now) (g.O.Write.contents c.write_all.new.output) text) c.as_slice.ensures.value
    (whole (g.O.Write.contents c.args.output.now) (g.O.Write.contents c.write_all.new.output) c.as_slice.result.now c.in-Ok.ensures.ok)
