use Rattle.std.proofs.Common.{◌≡◌, refl, set, subst}
use Rattle.std.proofs.lemmas.Result.{on_ok_weaker}
use Rattle.interleave_core.specs.Moves.{acknowledges}
use Rattle.interleave_core.specs.Parts.{IsConnectionAt, connections_of}
use Rattle.interleave_core.proofs.Places.{in_connection}
use Rattle.interleave_core.proofs.parts.Parts.acknowledge.Goals as goal

pub returns-in-Some : goal.returns-in-Some
returns-in-Some c =
    let cs = c.args.self.now.connections.items in
    let place : IsConnectionAt c.args.session cs c.in-Some.place = subst (λ xs. IsConnectionAt c.args.session xs c.in-Some.place) c.as_slice.ensures.value c.in-Some.ensures.found in
    on_ok_weaker c.acknowledge.result
    (λ so. (
      connections_of (set cs c.in-Some.place c.acknowledge.new.self),
      in_connection (λ s x. x ≡ acknowledges s) c.args.session cs c.in-Some.place c.index_mut.result.now c.acknowledge.new.self place c.index_mut.ensures.value so,
      refl,
    ))
    c.acknowledge.ensures
