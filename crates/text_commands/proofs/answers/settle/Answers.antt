use Rattle.std.proofs.Common.{refl, subst, sym}
use Rattle.std.specs.Prelude.{Err, IsOk, Ok}
use Rattle.text_commands.proofs.answers.settle.Goals as goal

pub returns-in_ok-push_line-in-Ok : goal.returns-in_ok-push_line-in-Ok
returns-in_ok-push_line-in-Ok c =
    let latest = c.settle.ensures.0 (subst IsOk (sym c.in-Ok.is) refl) in
    (Ok c.in-Ok.field-0, latest, (_, refl, c.in_ok-push_line-in-Ok.ensures))

pub returns-in_ok-push_line-in-Err : goal.returns-in_ok-push_line-in-Err
returns-in_ok-push_line-in-Err c = (
  Err c.in-Err.field-0,
  (λ latest. let none = subst IsOk c.in-Err.is (c.settle.ensures.1 latest) in cc),
  (_, refl, c.in_ok-push_line-in-Err.ensures),
)
