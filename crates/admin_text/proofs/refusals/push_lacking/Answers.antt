use Rattle.admin_text.specs.declared.line_kinds.LineKind.TheVariants.{Node}
use Rattle.admin_text.proofs.RefusalLaws.{lacking_said}
use Rattle.admin_text.proofs.refusals.push_lacking.Goals as goal

pub loop-kind-preserved : goal.loop-kind-preserved
loop-kind-preserved c =
    λ heads so_far.
    lacking_said c.args.lacking.now c.loop-kind.kind-index Node heads c.loop-kind.said.items _ c.loop-kind-test.true c.in_ok-push_line.ensures
    (c.loop-kind.invariant heads so_far)
