use Rattle.std.proofs.Common.{subst, sym}
use Rattle.text_commands.specs.Worlds.{IsWorldPrinted}
use Rattle.text_commands.proofs.worlds.world.Goals as goal

pub returns-in-Ok-write_all-clause-done : goal.returns-in-Ok-write_all-clause-done
returns-in-Ok-write_all-clause-done g c = λ _.
    let found = c.in-Ok.ensures.printed in
    (found.0, c.as_slice.result.now, subst (IsWorldPrinted found.0) (sym c.as_slice.ensures.value) found.1, c.in-Ok-write_all.ensures.ok)
