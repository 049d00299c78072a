use Rattle.std.proofs.Common.{rules, ◌≡◌, ℕ, ◌+◌, ◌≤◌, true, false, cond, refl, sym, ap, arith}
use Rattle.known_state.specs.Plans.{kept_over}
use Rattle.retention_flow.specs.Network.{arc_at, links_of}
use Rattle.retention_flow.proofs.RoomIsLeft.{few_over, few_from, passing_first, passing_next, passed_more, left_more, passed_all}
use Rattle.retention_flow.proofs.room.add_up.Goals as goal
use Rattle.retention_flow.proofs.room.add_up.Goals.{then-arc, else-arc}

pub loop-node-init : goal.loop-node-init
loop-node-init c = record {
  long = c.requires.long;
  passing = sym (passing_first c.args.arcs.now);
  done = λ node below. absurd (omega arith);
  rest = λ node le. refl;
}

pub overflow_add-passing : goal.overflow_add-passing
overflow_add-passing c =
    let arcs = c.args.arcs.now in
    let node = c.loop-node.node in
    let le : node ≤ node = omega arith in
    omega (arith, c.loop-node.invariant.passing, c.loop-node.invariant.rest node le, c.requires.begun node, few_over 0 arcs node, few_from 0 arcs node, c.requires.most)

pub overflow_sub-passing : goal.overflow_sub-passing
overflow_sub-passing c =
    let arcs = c.args.arcs.now in
    let node = c.loop-node.node in
    let le : node ≤ node = omega arith in
    let kept : (arc_at arcs node).kept ≡ true = search rules in
    let one : ◌≡◌ {A = ℕ} (cond (arc_at arcs node).kept 1 0) 1 = ap (λ b. cond b 1 0) kept in
    omega (arith, c.loop-node.invariant.passing, c.loop-node.invariant.rest node le, c.requires.begun node, one, passing_next arcs node c.requires.back c.loop-node-test.true)

pub loop-node-preserved : goal.loop-node-preserved
loop-node-preserved c =
    let arcs = c.args.arcs.now in
    let node = c.loop-node.node in
    let le : node ≤ node = omega arith in
    let next = passing_next arcs node c.requires.back c.loop-node-test.true in
    let passing : c.if-arc.passing ≡ kept_over (links_of 0 arcs) (node + 1) = elim c.if-arc.branch [
      | then-arc w ↦
          let kept : (arc_at arcs node).kept ≡ true = search rules in
          let one : ◌≡◌ {A = ℕ} (cond (arc_at arcs node).kept 1 0) 1 = ap (λ b. cond b 1 0) kept in
          omega (arith, w.passing-is, c.loop-node.invariant.passing, c.loop-node.invariant.rest node le, c.requires.begun node, one, next)
      | else-arc w ↦
          let other : (arc_at arcs node).kept ≡ false = search rules in
          let none : ◌≡◌ {A = ℕ} (cond (arc_at arcs node).kept 1 0) 0 = ap (λ b. cond b 1 0) other in
          omega (arith, w.passing-is, c.loop-node.invariant.passing, c.loop-node.invariant.rest node le, c.requires.begun node, none, next)
    ] in
    record {
      long = search rules;
      passing = passing;
      done = passed_more arcs c.loop-node.counts node c.if-arc.passing (omega (arith, c.loop-node.invariant.long)) passing c.loop-node.invariant.done;
      rest = left_more c.loop-node.counts c.args.counts.now node c.if-arc.passing c.loop-node.invariant.rest;
    }

pub returns-clause-passed : goal.returns-clause-passed
returns-clause-passed c =
    passed_all c.args.arcs.now c.loop-node.counts c.requires.back c.loop-node.invariant.long (λ node below. c.loop-node.invariant.done node (omega arith))
