use Rattle.std.proofs.Common.{refl}
use Rattle.known_state.proofs.FitsOrIsRefused.{define_fits}
use Rattle.known_state.proofs.LegalEffects.{taken_define}
use Rattle.known_state.proofs.known.Known.effect_of_definition.Goals as goal

pub returns : goal.returns
returns c = (define_fits c.args.self.now.state.received c.args.table c.id-id.ensures.defined, taken_define c.args.self.now c.args.table c.requires, refl)
