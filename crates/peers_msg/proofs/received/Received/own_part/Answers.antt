use Rattle.std.proofs.Common.{ℕ, List, ◌++◌, sym, ap, subst, ◌∙◌}
use Rattle.std.specs.Prelude.{filter}
use Rattle.std.specs.Map.{values_of}
use Rattle.table_types.specs.Tables.{Definition}
use Rattle.peers_msg.specs.Received.{Received, AreDistinct, defined}
use Rattle.peers_msg.specs.OwnTables.{is_own}
use Rattle.peers_msg.proofs.TablesByIdAndName.{next_kept}
use Rattle.peers_msg.proofs.received.Received.own_part.Goals as goal

pub loop-table-preserved-in_ok-define : goal.loop-table-preserved-in_ok-define
loop-table-preserved-in_ok-define c =
    next_kept (is_own c.args.roster.now) c.args.self.now.tables c.loop-table.part.tables (values_of c.next.new.self) c.in-Some.table.now
    (subst (λ (h : Received). AreDistinct h.tables) c.self.view_is c.self.invariant.distinct)
    (ap (λ (rest : List (ℕ × Definition)). c.loop-table.part.tables ++ filter (is_own c.args.roster.now) (values_of rest)) (sym c.in-Some.ensures.steps) ∙ c.loop-table.invariant)
    c.define.new.self.tables (sym c.is_own.ensures ∙ c.if-is_own.true)
    (ap (λ (h : Received). h.tables) c.in_ok-define.ensures.received ∙ ap (λ (d : Definition). defined d c.loop-table.part.tables) c.in_ok-copy.ensures)
