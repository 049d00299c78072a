use Rattle.std.proofs.Common.{ℕ, ◌+◌, ◌-◌, ◌∷◌, [], ◌++◌, List, drop, slice_index, sym, ap, ◌∙◌, append_assoc, append-nil}
use Rattle.retention_flow.specs.Network.{prices_of}
use Rattle.retention_flow.proofs.KeptAndPriced.{prices_more, prices_end}
use Rattle.retention_flow.proofs.plans.prices_of.Goals as goal

pub loop-node-init : goal.loop-node-init
loop-node-init c = ap (λ (l : List ℕ). l ++ prices_of c.args.heights.now) c.new-prices.ensures.items

pub loop-node-preserved : goal.loop-node-preserved
loop-node-preserved c =
    let hs = c.args.heights.now in
    let i = c.loop-node.node in
    let next : List ℕ = prices_of (drop (i + 1) hs) in
    ap (λ (l : List ℕ). l ++ next) c.in_ok-push.ensures.items
    ∙ append_assoc c.loop-node.prices.items ((slice_index hs (i + 1) - slice_index hs i) ∷ []) next
    ∙ ap (λ (l : List ℕ). c.loop-node.prices.items ++ l) (sym (prices_more hs i c.loop-node-test.true))
    ∙ c.loop-node.invariant

pub returns : goal.returns
returns c =
    sym (append-nil c.loop-node.prices.items)
    ∙ ap (λ (l : List ℕ). c.loop-node.prices.items ++ l) (sym (prices_end c.args.heights.now c.loop-node.node c.loop-node-test.false))
    ∙ c.loop-node.invariant
