use Rattle.std.proofs.Common.{◌+◌, ◌-◌, ◌/◌, ◌<◌, length, sym, ◌∙◌, arith}
use Rattle.table_shards.proofs.CountLaws.{early_to, late_from}
use Rattle.table_shards.proofs.receipts.Receipts.count_up_to.Goals as goal

pub loop-low-preserved-then-is_up_to : goal.loop-low-preserved-then-is_up_to
loop-low-preserved-then-is_up_to c =
    let middle = c.loop-low.low + (c.loop-low.high - c.loop-low.low) / 2 in
    let below : middle < length c.args.self.now = omega (arith, c.loop-low-test.true, c.loop-low.invariant.within) in
    record {
      ordered = omega (arith, c.loop-low-test.true);
      within = c.loop-low.invariant.within;
      early = early_to c.args.from c.requires.0 c.args.self.now middle c.requires.1 below (λ d. sym c.if-is_up_to.true ∙ c.is_up_to.ensures d);
      late = c.loop-low.invariant.late;
    }

pub loop-low-preserved : goal.loop-low-preserved
loop-low-preserved c =
    let middle = c.loop-low.low + (c.loop-low.high - c.loop-low.low) / 2 in
    let below : middle < length c.args.self.now = omega (arith, c.loop-low-test.true, c.loop-low.invariant.within) in
    record {
      ordered = omega (arith, c.loop-low-test.true);
      within = omega (arith, below);
      early = c.loop-low.invariant.early;
      late = late_from c.args.from c.requires.0 c.args.self.now middle c.requires.1 below (λ d. sym c.if-is_up_to.false ∙ c.is_up_to.ensures d);
    }
