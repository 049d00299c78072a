use Rattle.std.proofs.Common.{ℕ, List, ◌++◌, sym, ap, subst, ◌∙◌}
use Rattle.std.specs.Map.{values_of}
use Rattle.table_types.specs.Tables.{Definition}
use Rattle.peers_msg.specs.Received.{Received, AreDistinct, defined}
use Rattle.peers_msg.proofs.TablesByIdAndName.{next_copied}
use Rattle.peers_msg.proofs.received.Received.copy.Goals as goal

pub loop-table-preserved : goal.loop-table-preserved
loop-table-preserved c =
    next_copied c.args.self.now.tables c.loop-table.copy.tables (values_of c.next.new.self) c.define.new.self.tables c.in-Some.table.now
    (subst (λ (h : Received). AreDistinct h.tables) c.self.view_is c.self.invariant.distinct)
    (ap (λ (rest : List (ℕ × Definition)). c.loop-table.copy.tables ++ values_of rest) (sym c.in-Some.ensures.steps) ∙ c.loop-table.invariant)
    (ap (λ (h : Received). h.tables) c.in_ok-define.ensures.received ∙ ap (λ (d : Definition). defined d c.loop-table.copy.tables) c.in_ok-copy.ensures)
