use Rattle.std.proofs.Common.{◌≡◌, drop, map}
use Rattle.admin_text.specs.Refusals.{refuses_meant}
use Rattle.admin_text.specs.Statements.{said_by}
use Rattle.admin_text.proofs.refusals.refuses_meant.Given as goal

abbrev pub invariant-loop-line : goal.invariant-loop-line
invariant-loop-line l = refuses_meant l.faults (map said_by (drop l.line-index l.lines)) l.kind ≡ refuses_meant l.faults (map said_by l.lines) l.kind
