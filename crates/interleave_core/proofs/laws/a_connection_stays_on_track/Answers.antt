use Rattle.std.proofs.Common.{drop, refl, ◌++◌}
use Rattle.interleave_core.proofs.OnTrack.{acknowledged, arrived, begun, copied, delivered, taught}
use Rattle.interleave_core.proofs.laws.a_connection_stays_on_track.Goals as goal

pub returns-clause-begun : goal.returns-clause-begun
returns-clause-begun c = begun

pub returns-clause-copied : goal.returns-clause-copied
returns-clause-copied c = copied

pub returns-clause-taught : goal.returns-clause-taught
returns-clause-taught c = taught

pub returns-clause-delivered : goal.returns-clause-delivered
returns-clause-delivered c roster s now count answer l track feeds unless =
    let done = delivered roster s now count answer l track feeds unless in
    (record s { applied = s.applied ++ done.0; to_learner = drop count s.to_learner; learner = l }, done.0, done.2, refl, refl, done.4, done.5)

pub returns-clause-acknowledged : goal.returns-clause-acknowledged
returns-clause-acknowledged c = acknowledged

pub returns-clause-arrived : goal.returns-clause-arrived
returns-clause-arrived c = arrived
