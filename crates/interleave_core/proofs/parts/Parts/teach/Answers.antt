use Rattle.std.proofs.Common.{refl, set, subst}
use Rattle.std.proofs.lemmas.Result.{on_ok_weaker}
use Rattle.interleave_core.specs.Moves.{TeachesOldest}
use Rattle.interleave_core.specs.Parts.{IsConnectionAt, connections_of}
use Rattle.interleave_core.specs.Worlds.{roster_of}
use Rattle.interleave_core.proofs.Deliveries.{track_at}
use Rattle.interleave_core.proofs.Places.{in_connection}
use Rattle.interleave_core.proofs.parts.Parts.teach.Goals as goal

pub returns-in-Some : goal.returns-in-Some
returns-in-Some c = λ track.
    let cells = c.args.self.now.cells.items in
    let cs = c.args.self.now.connections.items in
    let place : IsConnectionAt c.args.session cs c.in-Some.place = subst (λ xs. IsConnectionAt c.args.session xs c.in-Some.place) c.as_slice.ensures.value c.in-Some.ensures.found in
    on_ok_weaker c.teach.result
    (λ so. (
      connections_of (set cs c.in-Some.place c.teach.new.self),
      in_connection (λ s x. TeachesOldest s.copied s x) c.args.session cs c.in-Some.place c.index_mut.result.now c.teach.new.self place c.index_mut.ensures.value so,
      refl,
    ))
    (c.teach.ensures (roster_of cells) (track_at (roster_of cells) cs c.in-Some.place c.index_mut.result.now track place.below c.index_mut.ensures.value))
