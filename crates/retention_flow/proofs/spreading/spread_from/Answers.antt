use Rattle.retention_flow.proofs.spreading.spread_from.Goals as goal

pub returns-then-node-network-clause-spread : goal.returns-then-node-network-clause-spread
returns-then-node-network-clause-spread c = λ source spread.
    c.in_ok-reach_before.ensures.spread source spread

pub returns-clause-spread : goal.returns-clause-spread
returns-clause-spread c = λ source spread.
    c.in_ok-reach_over_place.ensures.spread source
    (c.in_ok-reach_over_arc-2.ensures.spread source (c.in_ok-reach_over_arc.ensures.spread source (c.in_ok-reach_from_first.ensures.spread source (c.in_ok-reach_before.ensures.spread source spread))))
