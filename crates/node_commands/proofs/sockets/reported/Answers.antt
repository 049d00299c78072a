use Rattle.std.proofs.Common.{inr, sym}
use Rattle.node_commands.proofs.EndingLaws.{rows_no_device, rows_printed}
use Rattle.node_commands.proofs.sockets.reported.Goals as goal

pub returns-in-Ok-clause-printed : goal.returns-in-Ok-clause-printed
returns-in-Ok-clause-printed g c = λ rows.
    let device = rows_no_device c.print.result rows in
    (c.in-Ok.report, c.in-Ok.is, sym (c.print.ensures.ends device), c.print.ensures.printed device)

pub returns-in-Ok-clause-silent : goal.returns-in-Ok-clause-silent
returns-in-Ok-clause-silent g c = λ none other.
    absurd (rows_printed c.in-Ok.report.ending c.print.result c.in-Ok.report.told (c.print.ensures.ends other) other none)

pub returns-in-Ok-clause-device : goal.returns-in-Ok-clause-device
returns-in-Ok-clause-device g c = λ device. inr (c.in-Ok.report, c.in-Ok.is, c.print.ensures.device device)
