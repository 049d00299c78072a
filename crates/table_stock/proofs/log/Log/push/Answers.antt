use Rattle.std.proofs.Common.{◌≡◌, ℕ, ◌∷◌, ◌++◌, List, [], ap, ◌∙◌}
use Rattle.table_stock.specs.Shelves.{ListInLog, logged_in}
use Rattle.table_stock.proofs.LogLaws.{added}
use Rattle.table_stock.proofs.log.Log.push.Goals as goal

pub put_at-self-inside-requires-clause-room : goal.put_at-self-inside-requires-clause-room
put_at-self-inside-requires-clause-room c = ap (λ (l : ListInLog). l.has_room) c.self.view_is ∙ c.requires

pub returns : goal.returns
returns c =
    let log = c.self.inside in
    added log.entries.items c.put_at-self-inside.new.entries.items log.kept log.unswept log.end c.put_at-self-inside.result (c.args.number, c.args.slot) c.self.invariant.0 c.self.invariant.1 c.self.invariant.2 c.put_at-self-inside.ensures.end c.put_at-self-inside.ensures.put
    ∙ ap (λ (l : ListInLog). l.entries ++ (c.args.number, c.args.slot) ∷ []) c.self.view_is
