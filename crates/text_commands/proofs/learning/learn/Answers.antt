use Rattle.std.proofs.Common.{◌∙◌, subst}
use Rattle.std.specs.Io.KnownBytes.{Appends}
use Rattle.text_commands.proofs.SceneLaws.{done_printed, fault_printed, learn_written, still}
use Rattle.text_commands.proofs.learning.learn.Goals as goal

pub returns-in-Ok-write_all-clause-done : goal.returns-in-Ok-write_all-clause-done
returns-in-Ok-write_all-clause-done g c = λ done.
    let found = c.in-Ok.ensures.printed in
    let ending = still c.in-Ok.learned.ending c.written.result c.written.ensures.ends (λ device. absurd (cc)) in
    let printed = done_printed found.0 c.in-Ok.learned.text.items c.in-Ok.learned.ending (ending ∙ done) found.1 in
    (found.0, printed.0, printed.1, printed.2, subst (Appends (g.W.Write.contents c.args.output.now) (g.W.Write.contents c.write_all.new.output)) (c.as_slice.ensures.value ∙ printed.3) c.in-Ok-write_all.ensures.ok)

pub returns-in-Ok-write_all-clause-fault : goal.returns-in-Ok-write_all-clause-fault
returns-in-Ok-write_all-clause-fault g c = λ fault is.
    let found = c.in-Ok.ensures.printed in
    let ending = still c.in-Ok.learned.ending c.written.result c.written.ensures.ends (λ device. absurd (cc)) in
    let printed = fault_printed found.0 c.in-Ok.learned.text.items c.in-Ok.learned.ending fault (ending ∙ is) found.1 in
    (found.0, printed.0, printed.1, printed.2, subst (Appends (g.W.Write.contents c.args.output.now) (g.W.Write.contents c.write_all.new.output)) (c.as_slice.ensures.value ∙ printed.3) c.in-Ok-write_all.ensures.ok)

pub returns-in-Ok-write_all-clause-ends : goal.returns-in-Ok-write_all-clause-ends
returns-in-Ok-write_all-clause-ends g c =
    let found = c.in-Ok.ensures.printed in
    learn_written found.0 c.in-Ok.learned.text.items c.in-Ok.learned.ending c.written.result found.1 c.written.ensures.ends
