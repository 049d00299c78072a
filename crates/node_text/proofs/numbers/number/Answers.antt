use Rattle.std.proofs.Common.{arith, sym}
use Rattle.node_text.proofs.Numerals.{grows_above, none_above}
use Rattle.node_text.proofs.numbers.number.Goals as goal

pub returns-then-next-from-clause-exactly : goal.returns-then-next-from-clause-exactly
returns-then-next-from-clause-exactly c =
    let word = c.args.word.now in
    sym (none_above word _ (grows_above word _ _ _ c.loop-byte-test.true c.loop-byte.invariant.number (omega arith)))
