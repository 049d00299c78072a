use Rattle.std.proofs.Common.{refl, subst}
use Rattle.std.proofs.lemmas.Result.{on_ok_weaker}
use Rattle.interleave_core.specs.Parts.{IsConnectionAt, connections_of, world_of}
use Rattle.interleave_core.specs.Worlds.{connection_at}
use Rattle.interleave_core.proofs.Reopening.{connected}
use Rattle.interleave_core.proofs.SessionSteps.{learned_for}
use Rattle.interleave_core.proofs.parts.Parts.learn.Goals as goal

pub returns-in-Some-clause-moves : goal.returns-in-Some-clause-moves
returns-in-Some-clause-moves c =
    let cs = c.args.self.now.connections.items in
    let place : IsConnectionAt c.args.session cs c.in-Some.field-0 = subst (λ xs. IsConnectionAt c.args.session xs c.in-Some.field-0) c.as_slice.ensures.value c.in-Some.ensures.found in
    on_ok_weaker c.learn.result
    (λ changed. learned_for c.args.session c.args.now c.args.update.now (connection_at c.args.session (connections_of cs)) (world_of c.args.self.now) _
    (λ none. connected c.args.session cs c.in-Some.field-0 place none) (c.learn.new.cells.items, changed, refl))
    c.learn.ensures
