use Rattle.std.proofs.Common.{◌≡◌, ◌+◌, ◌-◌, suc, arith}
use Rattle.peers_encint.proofs.OneTail.{length-tail_of-last, length-tail_of-more, some_tail, short_tail}
use Rattle.peers_encint.proofs.OneSpelling.{length-low, length-high}
use Rattle.peers_encint.proofs.spelling.len.Goals as goal

pub returns-then-n-lt240-clause-exact : goal.returns-then-n-lt240-clause-exact
returns-then-n-lt240-clause-exact c = omega (arith, length-low c.args.n (omega arith))

pub loop-used-init : goal.loop-used-init
loop-used-init c = (omega (arith, length-high c.args.n (omega arith)), omega arith)

pub returns-then-rest-lt128-clause-exact : goal.returns-then-rest-lt128-clause-exact
returns-then-rest-lt128-clause-exact c =
    let l = c.loop-used in
    omega (arith, length-tail_of-last (10 - l.used) l.rest (omega arith))

pub loop-used-preserved : goal.loop-used-preserved
loop-used-preserved c =
    let l = c.loop-used in
    let e : 10 - l.used ≡ suc (10 - (l.used + 1)) = omega arith in
    let all = rw e at l.invariant.0 in
    (omega (arith, all, length-tail_of-more (10 - (l.used + 1)) l.rest (omega arith)), omega arith)

pub returns-clause-exact : goal.returns-clause-exact
returns-clause-exact c =
    let l = c.loop-used in
    omega (arith, some_tail (10 - l.used) l.rest, short_tail (10 - l.used) l.rest)
