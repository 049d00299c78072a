use Rattle.std.specs.Prelude.{Err, Ok}
use Rattle.std.proofs.Common.{map, refl, rules, subst}
use Rattle.admin_text.specs.Outcomes.{Gives}
use Rattle.admin_text.specs.PeerLines.{AreNetworks}
use Rattle.admin_text.proofs.address_warnings.outside_warning_at.Goals as goal

pub returns-in-Ok : goal.returns-in-Ok
returns-in-Ok c = (Ok c.in-Ok.networks, c.in-Ok.ensures, search rules)

pub returns-in-Err-Fault : goal.returns-in-Err-Fault
returns-in-Err-Fault c = (
  Err c.in-Err-Fault._fault,
  subst (λ refusal. Gives (AreNetworks 4 (map (λ word. word.now) c.args.words.now)) (Err refusal)) c.in-Err-Fault.field-0-is c.in-Err-Fault.ensures,
  refl,
)
