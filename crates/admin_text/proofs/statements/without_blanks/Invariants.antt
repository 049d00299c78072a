use Rattle.std.proofs.Common.{◌≡◌, ◌≤◌, length}
use Rattle.admin_text.specs.Statements.{words_of}
use Rattle.admin_text.proofs.statements.without_blanks.Given as goal

abbrev pub invariant-loop-rest : goal.invariant-loop-rest
invariant-loop-rest l = record {
  words : words_of l.rest ≡ words_of l.text;
  less : length l.rest ≤ length l.text;
}

abbrev pub decreases-loop-rest : goal.decreases-loop-rest
decreases-loop-rest l = length l.rest
