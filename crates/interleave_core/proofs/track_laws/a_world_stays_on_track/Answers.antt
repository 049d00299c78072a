use Rattle.interleave_core.proofs.StepsOnTrack.{bytes_to_learners, new_world, stays}
use Rattle.interleave_core.proofs.track_laws.a_world_stays_on_track.Goals as goal

pub returns-clause-begun : goal.returns-clause-begun
returns-clause-begun c = new_world

pub returns-clause-not_a_copy : goal.returns-clause-not_a_copy
returns-clause-not_a_copy c = stays

pub returns-clause-bytes : goal.returns-clause-bytes
returns-clause-bytes c = bytes_to_learners
