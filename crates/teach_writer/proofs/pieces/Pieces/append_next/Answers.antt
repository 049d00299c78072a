use Rattle.std.proofs.Common.{◌≡◌, [], List, drop, sym, ap, ◌∙◌}
use Rattle.table_types.specs.declared.update.Update.{Update}
use Rattle.teach_writer.specs.Pieces.{Left, messages_left}
use Rattle.teach_writer.proofs.NextPieces.{none_left}
use Rattle.teach_writer.proofs.pieces.Pieces.append_next.Goals as goal

pub returns-in_err-more-clause-last : goal.returns-in_err-more-clause-last
returns-in_err-more-clause-last c = λ none.
    let k = c.self.inside.known in
    let i = c.self.inside.index in
    let names = drop i c.self.inside.names.items in
    let left : messages_left k.roster k.state (drop i c.self.inside.batch) names ≡ [] = ap (λ (l : Left). l.messages) c.self.view_is ∙ none in
    let ended : drop i c.self.inside.batch ≡ [] = none_left k (drop i c.self.inside.batch) names c.self.invariant.0 left in
    let here : drop i c.updates.result.now ≡ [] = ap (λ (us : List Update). drop i us) c.updates.ensures.updates ∙ ended in
    let bad = sym c.in_err-more.was ∙ c.send_next.ensures.ended here in
    cc
