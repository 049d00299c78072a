use Rattle.std.proofs.Common.{ℕ, ◌+◌, arith}
use Rattle.std.proofs.lemmas.List.{length-set}
use Rattle.price_checker.proofs.SumsOfPrices.{first_sum, sum-more, sums-more}
use Rattle.price_checker.proofs.bound.sums_of.Goals as goal

pub overflow_add-sums : goal.overflow_add-sums
overflow_add-sums c =
    let i = c.loop-index.index in
    omega (arith, c.loop-index.invariant.summed i (omega arith), sum-more c.args.prices.now i (omega arith), first_sum (i + 1) c.args.prices.now)

pub loop-index-preserved : goal.loop-index-preserved
loop-index-preserved c = record {
  long = omega (arith, length-set {A = ℕ});
  summed = sums-more c.args.prices.now c.loop-index.sums c.loop-index.index (omega arith) c.requires.most c.loop-index.invariant.long c.loop-index.invariant.summed;
}
