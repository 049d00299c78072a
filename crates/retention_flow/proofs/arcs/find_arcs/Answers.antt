use Rattle.std.proofs.Common.{◌≡◌, ◌+◌, ◌∷◌, [], ◌++◌, List, drop, sym, ap, ◌∙◌, subst, append_assoc, append-nil, arith}
use Rattle.known_state.specs.Plans.{at_start}
use Rattle.retention_flow.specs.declared.arcs.RequestArc.{RequestArc}
use Rattle.retention_flow.specs.Network.{arcs_from, GoBack, SaveLittle}
use Rattle.retention_flow.proofs.PlacesInATree.{arcs_more, arcs_first, asking_in}
use Rattle.retention_flow.proofs.ArcsGoBack.{start_back, little_more, arcs_end}
use Rattle.retention_flow.proofs.arcs.find_arcs.Goals as goal

pub loop-index-init : goal.loop-index-init
loop-index-init c = record {
  are = ap (λ (l : List RequestArc). l ++ arcs_from (asking_in 0 c.in_ok-last.last) c.args.requests.now) c.new-arcs.ensures.items
      ∙ arcs_first c.args.held.now c.args.requests.now c.in_ok-last.last c.in_ok-last.ensures;
  little = subst (λ (l : List RequestArc). SaveLittle l) (sym c.new-arcs.ensures.items) (λ node below. absurd (omega arith));
}

pub loop-index-preserved : goal.loop-index-preserved
loop-index-preserved c =
    let rs = c.args.requests.now in
    let i = c.loop-index.index in
    let arc : RequestArc = c.arc_of.result in
    let next : List RequestArc = arcs_from (asking_in (i + 1) c.insert.new.self) (drop (i + 1) rs) in
    let more = arcs_more rs i c.index-requests-index.result c.as_slice.result.now c.in_ok-from.from arc c.loop-index.last c.insert.new.self c.loop-index-test.true c.index-requests-index.is
    (c.as_slice.ensures.bytes ∙ c.name.ensures) c.in_ok-from.ensures.old c.arc_of.ensures.arc c.in_ok-from.ensures.updates in
    record {
      are = ap (λ (l : List RequestArc). l ++ next) c.in_ok-push.ensures.items
          ∙ append_assoc c.loop-index.arcs.items (arc ∷ []) next
          ∙ ap (λ (l : List RequestArc). c.loop-index.arcs.items ++ l) (sym more)
          ∙ c.loop-index.invariant.are;
      little = subst (λ (l : List RequestArc). SaveLittle l) (sym c.in_ok-push.ensures.items) (little_more c.loop-index.arcs.items arc c.arc_of.ensures.little c.loop-index.invariant.little);
    }

pub returns-clause-back : goal.returns-clause-back
returns-clause-back c =
    let i = c.loop-index.index in
    let is : c.loop-index.arcs.items ≡ arcs_from (at_start c.args.held.now) c.args.requests.now =
    sym (append-nil c.loop-index.arcs.items)
    ∙ ap (λ (l : List RequestArc). c.loop-index.arcs.items ++ l) (sym (arcs_end (asking_in i c.loop-index.last) c.args.requests.now i c.loop-index-test.false))
    ∙ c.loop-index.invariant.are in
    subst (λ (l : List RequestArc). GoBack l) (sym is) (start_back c.args.held.now c.args.requests.now)

pub returns-clause-little : goal.returns-clause-little
returns-clause-little c = c.loop-index.invariant.little
