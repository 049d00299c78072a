use Rattle.std.proofs.Common.{◌∙◌, ap, subst, sym}
use Rattle.interleave_core.specs.Parts.{IsConnectionAt}
use Rattle.interleave_core.specs.Worlds.{connection_at}
use Rattle.interleave_core.proofs.Places.{connection_found}
use Rattle.interleave_core.proofs.world.World.connection.Goals as goal

pub returns : goal.returns
returns c =
    let cs = c.self.inside.parts.connections.items in
    let index = c.in_ok-index.index in
    let here : IsConnectionAt c.args.session cs index = subst (λ xs. IsConnectionAt c.args.session xs index) c.as_slice.ensures.value c.in_ok-index.ensures.found in
    sym (connection_found c.args.session cs index c.index.result.now here c.index.ensures) ∙ ap (λ w. connection_at c.args.session w.connections) c.self.view_is
