use Rattle.std.proofs.Common.{◌∙◌, ◌++◌, ap, map}
use Rattle.admin_text.specs.Statements.{said_at, said_by, words_of}
use Rattle.admin_text.proofs.StatementLaws.{all_lines, later_length, later_lines}
use Rattle.admin_text.proofs.statements.push_lines.Goals as goal

pub loop-line-preserved : goal.loop-line-preserved
loop-line-preserved c = record {
  said =
      later_lines c.loop-line.rest.now c.in-Some.line.now c.in-Some.after.now c.loop-line.number (map said_by c.loop-line.statements.items) _ _
      c.in-Some.ensures.0 c.in-Some.ensures.1
      (c.in_ok-push_statement.ensures ∙ ap (λ line. map said_by c.loop-line.statements.items ++ said_at c.loop-line.number (words_of line)) c.without_return.ensures)
      c.loop-line.invariant.said;
  within = later_length c.loop-line.rest.now c.in-Some.line.now c.in-Some.after.now _ _ c.in-Some.ensures.0 c.loop-line.invariant.within;
}

pub returns : goal.returns
returns c =
    all_lines c.loop-line.rest.now c.loop-line.number (map said_by c.loop-line.statements.items) _ _ c.in_default.ensures
    c.in_ok-push_statement-2.ensures c.loop-line.invariant.said
