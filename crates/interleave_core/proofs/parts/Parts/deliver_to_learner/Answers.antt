use Rattle.std.proofs.Common.{refl, set, subst}
use Rattle.std.proofs.lemmas.Result.{on_ok_weaker}
use Rattle.interleave_core.specs.Moves.{ArrivesAtLearner}
use Rattle.interleave_core.specs.Parts.{IsConnectionAt, connections_of}
use Rattle.interleave_core.specs.Worlds.{roster_of}
use Rattle.interleave_core.proofs.Deliveries.{track_at}
use Rattle.interleave_core.proofs.Places.{in_connection}
use Rattle.interleave_core.proofs.parts.Parts.deliver_to_learner.Goals as goal

pub returns-in-Some-clause-moves : goal.returns-in-Some-clause-moves
returns-in-Some-clause-moves c = λ track.
    let cs = c.args.self.now.connections.items in
    let place : IsConnectionAt c.args.session cs c.in-Some.place = subst (λ xs. IsConnectionAt c.args.session xs c.in-Some.place) c.as_slice.ensures.value c.in-Some.ensures.found in
    let roster = roster_of c.args.self.now.cells.items in
    on_ok_weaker c.deliver_to_learner.result
    (λ so. (
      connections_of (set cs c.in-Some.place c.deliver_to_learner.new.self),
      in_connection (ArrivesAtLearner c.args.count c.args.now) c.args.session cs c.in-Some.place c.index_mut.result.now c.deliver_to_learner.new.self place c.index_mut.ensures.value so,
      refl,
    ))
    (c.deliver_to_learner.ensures roster (track_at roster cs c.in-Some.place c.index_mut.result.now track place.below c.index_mut.ensures.value))
