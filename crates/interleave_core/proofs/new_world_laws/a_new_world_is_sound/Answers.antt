use Rattle.interleave_core.proofs.WorldNew.{new_world_sound}
use Rattle.interleave_core.proofs.new_world_laws.a_new_world_is_sound.Goals as goal

pub returns : goal.returns
returns c = new_world_sound
