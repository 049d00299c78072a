use Rattle.std.proofs.Common.{◌≡◌, drop, map}
use Rattle.admin_text.specs.Before.{line_with}
use Rattle.admin_text.specs.Statements.{said_by}
use Rattle.admin_text.proofs.before.line_with.Given as goal

abbrev pub invariant-loop-statement : goal.invariant-loop-statement
invariant-loop-statement l =
    line_with l.kind l.place l.word (map said_by (drop l.statement-index l.before)) ≡ line_with l.kind l.place l.word (map said_by l.before)
