use Rattle.std.proofs.Common.{◌≡◌, ◌+◌, ◌<◌, length, Some, ◌∙◌, arith}
use Rattle.peers_encint.proofs.ReadingLoop.{counted, counted-more, counted-last, counted-ninth, added-more, whole_of-last}
use Rattle.peers_encint.proofs.reading.read_long.Goals as goal
use Rattle.peers_encint.proofs.reading.read_long.Goals.{then-later-index-lt128-via-then-later-index-lt128, then-later-index-lt128-via-else-later-index-lt128+then-index-eq8}

pub returns-then-later-index-lt128 : goal.returns-then-later-index-lt128
returns-then-later-index-lt128 c =
    let cs = c.args.later.now in
    let p = c.loop-index.index in
    let fits : p < length cs = omega arith in
    let last : counted p cs ≡ Some (p + 1) = elim c.then-later-index-lt128.branch [
      | then-later-index-lt128-via-then-later-index-lt128 w ↦ counted-last p cs fits (omega (arith, w.if-later-index-lt128.true))
      | then-later-index-lt128-via-else-later-index-lt128+then-index-eq8 w ↦ counted-ninth p cs w.if-index-eq8.true fits
    ] in
    c.whole.ensures ∙ whole_of-last c.args.first cs p _ c.loop-index.invariant.counts last (omega (arith, added-more p cs fits))

pub loop-index-preserved : goal.loop-index-preserved
loop-index-preserved c =
    let cs = c.args.later.now in
    let p = c.loop-index.index in
    let fits : p < length cs = omega arith in
    record {
      within = omega arith;
      added = omega (arith, added-more p cs fits);
      below = omega arith;
      counts = counted-more p cs (omega arith) fits (omega arith) ∙ c.loop-index.invariant.counts;
    }
