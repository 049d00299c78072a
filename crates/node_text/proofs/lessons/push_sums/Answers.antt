use Rattle.node_text.proofs.LessonLines.{price_added}
use Rattle.node_text.proofs.lessons.push_sums.Goals as goal

pub loop-price-preserved : goal.loop-price-preserved
loop-price-preserved c =
    price_added _ _ _ c.args.prices.now c.loop-price.price-index c.loop-price-test.true c.loop-price.invariant c.in_ok-push_spaced.ensures
