use Rattle.std.proofs.Common.{◌+◌, sym, ◌∙◌}
use Rattle.std.proofs.lemmas.List.{take_rest}
use Rattle.peers_msg.proofs.ReadingLoops.{name_passed, value_first, no_value}
use Rattle.peers_msg.proofs.borrowed.values_ref.first_shape.Goals as goal

pub returns-then-not-is_name_shape-clause-first : goal.returns-then-not-is_name_shape-clause-first
returns-then-not-is_name_shape-clause-first c = λ bytes.
    rw (take_rest c.args.types.now (c.loop-index.index + 1)) (sym (c.loop-index.invariant bytes) ∙ value_first c.args.types.now c.loop-index.index _ bytes c.shape-shape.result c.loop-index-test.true c.shape-shape.ensures (sym c.is_name_shape.ensures ∙ c.if-not-is_name_shape.true))

pub loop-index-preserved : goal.loop-index-preserved
loop-index-preserved c = λ bytes.
    sym (name_passed c.args.types.now c.loop-index.index _ bytes c.shape-shape.result c.loop-index-test.true c.shape-shape.ensures (sym c.is_name_shape.ensures ∙ c.if-not-is_name_shape.false)) ∙ c.loop-index.invariant bytes

pub returns-clause-none : goal.returns-clause-none
returns-clause-none c = λ none bytes.
    sym (c.loop-index.invariant bytes) ∙ no_value c.args.types.now c.loop-index.index bytes c.loop-index-test.false
