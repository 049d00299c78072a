use Rattle.interleave_core.proofs.WorldTracks.{all_on_track, session_open}
use Rattle.interleave_core.proofs.track_laws.a_sound_world_is_on_track.Goals as goal

pub returns-clause-track : goal.returns-clause-track
returns-clause-track c = all_on_track

pub returns-clause-opened : goal.returns-clause-opened
returns-clause-opened c = session_open
