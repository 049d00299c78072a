use Rattle.std.proofs.Common.{Bool, ◌+◌, ◌∷◌, [], ◌++◌, List, drop, sym, ap, ◌∙◌, append_assoc, append-nil}
use Rattle.retention_flow.specs.Network.{arc_at, marks}
use Rattle.retention_flow.proofs.KeptAndPriced.{marks_more, marks_end}
use Rattle.retention_flow.proofs.plans.marks.Goals as goal

pub loop-arc-init : goal.loop-arc-init
loop-arc-init c = ap (λ (l : List Bool). l ++ marks c.args.arcs.now) c.new-keep.ensures.items

pub loop-arc-preserved : goal.loop-arc-preserved
loop-arc-preserved c =
    let arcs = c.args.arcs.now in
    let i = c.loop-arc.arc-index in
    let next : List Bool = marks (drop (i + 1) arcs) in
    ap (λ (l : List Bool). l ++ next) c.in_ok-push.ensures.items
    ∙ append_assoc c.loop-arc.keep.items ((arc_at arcs i).kept ∷ []) next
    ∙ ap (λ (l : List Bool). c.loop-arc.keep.items ++ l) (sym (marks_more arcs i c.loop-arc-test.true))
    ∙ c.loop-arc.invariant

pub returns : goal.returns
returns c =
    sym (append-nil c.loop-arc.keep.items)
    ∙ ap (λ (l : List Bool). c.loop-arc.keep.items ++ l) (sym (marks_end c.args.arcs.now c.loop-arc.arc-index c.loop-arc-test.false))
    ∙ c.loop-arc.invariant
