use Rattle.known_state.proofs.known.Known.effect.Goals as goal

pub effect_of_definition-requires : goal.effect_of_definition-requires
effect_of_definition-requires c = rw c.in-Define.is at c.requires

pub effect_of_switch-requires : goal.effect_of_switch-requires
effect_of_switch-requires c = rw c.in-Switch.is at c.requires

pub effect_of_update-requires : goal.effect_of_update-requires
effect_of_update-requires c = rw c.in-Update.is at c.requires
