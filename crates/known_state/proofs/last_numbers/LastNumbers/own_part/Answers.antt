use Rattle.std.proofs.Common.{ℕ, List, Bool, ◌++◌, sym, ap, ◌∙◌, subst}
use Rattle.table_types.specs.Rosters.{table_at}
use Rattle.peers_msg.specs.OwnTables.{is_own_one}
use Rattle.known_state.specs.LastNumbers.{own_last_numbers, AreRising}
use Rattle.known_state.proofs.LastNumbersInMap.{next_kept, next_dropped}
use Rattle.known_state.proofs.last_numbers.LastNumbers.own_part.Goals as goal

pub loop-id-preserved-in-Continue-1 : goal.loop-id-preserved-in-Continue-1
loop-id-preserved-in-Continue-1 c =
    next_kept (λ last. is_own_one c.args.roster.now (table_at c.args.received.now.tables last.0)) c.args.self.now c.loop-id.part c.next.new.self c.in-Some.id.now c.in-Some.number.now
    (subst AreRising c.self.view_is c.self.invariant)
    (ap (λ (rest : List (ℕ × ℕ)). c.loop-id.part ++ own_last_numbers c.args.roster.now c.args.received.now rest) (sym c.in-Some.ensures.steps) ∙ c.loop-id.invariant)
    c.set.new.self
    (sym c.is_own_id.ensures ∙ c.if-is_own_id.true)
    c.in_ok-set.ensures.set

pub loop-id-preserved : goal.loop-id-preserved
loop-id-preserved c =
    next_dropped (λ last. is_own_one c.args.roster.now (table_at c.args.received.now.tables last.0)) c.args.self.now c.loop-id.part c.next.new.self c.in-Some.id.now c.in-Some.number.now
    (subst AreRising c.self.view_is c.self.invariant)
    (ap (λ (rest : List (ℕ × ℕ)). c.loop-id.part ++ own_last_numbers c.args.roster.now c.args.received.now rest) (sym c.in-Some.ensures.steps) ∙ c.loop-id.invariant)
    (sym c.is_own_id.ensures ∙ c.if-is_own_id.false)
