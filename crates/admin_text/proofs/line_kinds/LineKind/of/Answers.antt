use Rattle.std.proofs.Common.{◌∙◌, map, sym}
use Rattle.admin_text.specs.LineKinds.{all_kinds, kind_of}
use Rattle.admin_text.specs.declared.line_kinds.LineKind.TheVariants.{Node}
use Rattle.admin_text.proofs.KindLaws.{kind_passed}
use Rattle.admin_text.proofs.line_kinds.LineKind.of.Goals as goal

pub loop-kind-preserved : goal.loop-kind-preserved
loop-kind-preserved c =
    let words = map (λ word. word.now) c.args.words.now in
    kind_passed words all_kinds c.loop-kind.kind-index Node (kind_of words) c.loop-kind-test.true (sym c.has.ensures ∙ c.if-has.false)
    c.loop-kind.invariant
