use Rattle.std.proofs.Common.{◌∙◌, subst}
use Rattle.std.specs.Io.KnownBytes.{Appends}
use Rattle.text_commands.proofs.SceneLaws.{check_ends}
use Rattle.text_commands.proofs.checking.check.Goals as goal

pub returns-in-Ok-write_all-clause-verdict : goal.returns-in-Ok-write_all-clause-verdict
returns-in-Ok-write_all-clause-verdict g c = λ _.
    let found = c.in-Ok.ensures.verdict in
    let sent = c.in-Ok-write_all.ensures.ok in
    (found.0, found.1, found.2, found.3, subst (Appends (g.W.Write.contents c.args.output.now) (g.W.Write.contents c.write_all.new.output)) (c.as_bytes.ensures.value ∙ found.4) sent)

pub returns-in-Ok-write_all-clause-ends : goal.returns-in-Ok-write_all-clause-ends
returns-in-Ok-write_all-clause-ends g c =
    let found = c.in-Ok.ensures.verdict in
    check_ends found.0 found.1 _ found.2 found.3
