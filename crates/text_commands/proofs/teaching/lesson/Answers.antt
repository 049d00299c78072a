use Rattle.std.proofs.Common.{◌∙◌, subst}
use Rattle.std.specs.Io.KnownBytes.{Appends}
use Rattle.text_commands.proofs.teaching.lesson.Goals as goal

pub returns-in-Ok-write_all-clause-done : goal.returns-in-Ok-write_all-clause-done
returns-in-Ok-write_all-clause-done g c = λ _.
    let taught = c.in-Ok.ensures.text in
    let sent = c.in-Ok-write_all.ensures.ok in
    (taught.0, taught.1, taught.2, taught.3, subst (Appends (g.W.Write.contents c.args.output.now) (g.W.Write.contents c.write_all.new.output)) (c.as_slice.ensures.value ∙ taught.4) sent)
