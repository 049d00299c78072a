use Rattle.std.proofs.Common.{◌≡◌, ◌++◌, length, map}
use Rattle.admin_text.specs.Statements.{words_of}
use Rattle.admin_text.proofs.statements.words_of.Given as goal

abbrev pub invariant-loop-word : goal.invariant-loop-word
invariant-loop-word l = map (λ word. word.now) l.words.items ++ words_of l.rest ≡ words_of l.line

abbrev pub decreases-loop-word : goal.decreases-loop-word
decreases-loop-word l = length l.rest
