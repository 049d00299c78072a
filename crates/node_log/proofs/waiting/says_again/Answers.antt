use Rattle.std.proofs.Common.{◌∙◌, ◌<◌, List, [], length, subst, sym}
use Rattle.std.specs.Prelude.{None}
use Rattle.node_log.specs.declared.waiting.Limited.{Limited}
use Rattle.node_log.proofs.Counting.{counted_here}
use Rattle.node_log.proofs.waiting.says_again.Goals as goal

pub returns-then-are_of-clause-noted : goal.returns-then-are_of-clause-noted
returns-then-are_of-clause-noted c =
    let other : Limited =
    record { event = record { ref_ptr = (0, 0); now = [] }; peer = None; limit = record { said = []; omitted = 0; since = None } } in
    let within : c.loop-limited.limited-index < length c.loop-limited.limits =
    subst (λ (ls : List Limited). c.loop-limited.limited-index < length ls) (sym c.loop-limited.invariant.same) c.loop-limited-test.true in
    counted_here c.args.now c.args.new.now c.loop-limited.limits c.loop-limited.limited-index other c.says.new.self within
    (sym c.are_of.ensures ∙ c.if-are_of.true) c.says.ensures.noted
    ∙ c.loop-limited.invariant.line
