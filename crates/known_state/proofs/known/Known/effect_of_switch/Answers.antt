use Rattle.std.proofs.Common.{refl, arith}
use Rattle.known_state.proofs.FitsOrIsRefused.{switch_fits}
use Rattle.known_state.proofs.LegalEffects.{taken_switch}
use Rattle.known_state.proofs.known.Known.effect_of_switch.Goals as goal

pub returns : goal.returns
returns c = (switch_fits c.args.self.now.state.received c.args.id (omega arith) (taken_switch c.args.self.now c.args.id c.requires), tt, refl)
