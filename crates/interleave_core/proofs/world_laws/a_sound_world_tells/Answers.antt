use Rattle.interleave_core.proofs.WorldTold.{core_of}
use Rattle.interleave_core.proofs.world_laws.a_sound_world_tells.Goals as goal

pub returns : goal.returns
returns c = core_of
