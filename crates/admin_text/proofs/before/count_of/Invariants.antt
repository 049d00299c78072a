use Rattle.std.proofs.Common.{◌≡◌, ◌+◌, ◌≤◌, drop, map}
use Rattle.admin_text.specs.Before.{count_of}
use Rattle.admin_text.specs.Statements.{said_by}
use Rattle.admin_text.proofs.before.count_of.Given as goal

abbrev pub invariant-loop-statement : goal.invariant-loop-statement
invariant-loop-statement l = record {
  counted : l.count + count_of l.kind (map said_by (drop l.statement-index l.before)) ≡ count_of l.kind (map said_by l.before);
  within : l.count ≤ l.statement-index;
}
