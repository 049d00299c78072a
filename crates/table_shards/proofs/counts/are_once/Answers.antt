use Rattle.std.proofs.Common.{◌+◌, true, false, inl, inr, arith}
use Rattle.std.proofs.lemmas.Bool.{cases_lt}
use Rattle.table_shards.specs.Counts.{AreOnce}
use Rattle.table_shards.proofs.CountLaws.{once_where}
use Rattle.table_shards.proofs.counts.are_once.Goals as goal

pub loop-counted-preserved : goal.loop-counted-preserved
loop-counted-preserved c =
    let counted = c.loop-counted.counted in
    let width = c.min-width.result in
    let next : AreOnce c.args.table c.args.seats.now counted (counted + width) =
    once_where true c.args.table counted width c.args.seats.now c.counts_after-counts.result (omega arith) c.counts_after-counts.ensures.long c.counts_after-counts.ensures.counted c.if-not-are_ones.ensures in
    record {
      once = λ place above within. elim (cases_lt counted place) [
        | inl beyond ↦ next place beyond (omega (arith, within))
        | inr so_far ↦ c.loop-counted.invariant.once place above so_far
      ];
      begun = omega (arith, c.loop-counted.invariant.begun);
    }

pub returns-then-not-are_ones : goal.returns-then-not-are_ones
returns-then-not-are_ones c = λ once.
    once_where false c.args.table c.loop-counted.counted c.min-width.result c.args.seats.now c.counts_after-counts.result (omega arith) c.counts_after-counts.ensures.long c.counts_after-counts.ensures.counted c.if-not-are_ones.ensures
    (λ place above within. once place (omega (arith, c.loop-counted.invariant.begun, above)) (omega (arith, within)))

pub returns : goal.returns
returns c = λ place above within. c.loop-counted.invariant.once place above (omega (arith, within))
