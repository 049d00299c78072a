use Rattle.std.proofs.Common.{arith, inl, inr, rules}
use Rattle.admin_text.proofs.StatementLaws.{word_ends}
use Rattle.admin_text.proofs.statements.end_of_word.Goals as goal

pub returns-else-not-is_blank-clause-words : goal.returns-else-not-is_blank-clause-words
returns-else-not-is_blank-clause-words c =
    word_ends c.args.text.now c.loop-end.end c.loop-end.invariant.within c.loop-end.invariant.none (inr (search rules))

pub returns-after-loop-end-clause-words : goal.returns-after-loop-end-clause-words
returns-after-loop-end-clause-words c =
    word_ends c.args.text.now c.loop-end.end c.loop-end.invariant.within c.loop-end.invariant.none (inl (omega (arith, c.loop-end-test.false, c.loop-end.invariant.within)))
