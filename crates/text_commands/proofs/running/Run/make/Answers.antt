use Rattle.std.proofs.Common.{◌≡◌, ◌∙◌, ap, subst, sym}
use Rattle.std.specs.Prelude.{Some, option_copied}
use Rattle.text_commands.specs.Running.{Prints, batch_at}
use Rattle.text_commands.proofs.Printing.{settle_printed}
use Rattle.text_commands.proofs.running.Run.make.Goals as goal

pub returns-in_ok-settle-in-Some-clause-printed : goal.returns-in_ok-settle-in-Some-clause-printed
returns-in_ok-settle-in-Some-clause-printed c =
    let cell = c.args.self.now.cell in
    let given = c.args.self.now.given.items in
    let at : batch_at given c.in-Settle.batch ≡ Some c.in-Some.batch.now
    = sym (c.batch_at.ensures ∙ ap (λ g. batch_at g c.in-Settle.batch) c.as_slice.ensures.value) ∙ ap option_copied c.in-Some.is in
    let printed = settle_printed cell given c.in-Settle.session c.in-Settle.batch c.in-Some.batch.now _ _ at c.in_ok-settle-in-Some.ensures in
    (printed.0, subst (λ call. Prints cell given call printed.0 cell given) (sym c.in-Settle.is) printed.1, printed.2)
