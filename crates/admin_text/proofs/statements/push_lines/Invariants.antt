use Rattle.std.proofs.Common.{◌≡◌, ◌+◌, ◌≤◌, ◌++◌, length, map}
use Rattle.admin_text.specs.Statements.{ended, lines_of, numbered, said_by, said_in}
use Rattle.admin_text.proofs.statements.push_lines.Given as goal

abbrev pub invariant-loop-line : goal.invariant-loop-line
invariant-loop-line l = record {
  said : map said_by l.statements.items ++ numbered l.number (ended (lines_of l.rest)) ≡ map said_by l.fn.statements.items ++ said_in l.text;
  within : l.number + length l.rest ≤ length l.text + 1;
}

abbrev pub decreases-loop-line : goal.decreases-loop-line
decreases-loop-line l = length l.rest
