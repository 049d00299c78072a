use Rattle.std.proofs.Common.{◌≡◌, drop, map}
use Rattle.admin_text.specs.MeantKinds.{has_meant_with}
use Rattle.admin_text.specs.Statements.{said_by}
use Rattle.admin_text.proofs.meant_kinds.has_meant_with.Given as goal

abbrev pub invariant-loop-line : goal.invariant-loop-line
invariant-loop-line l =
    has_meant_with l.kind l.place l.word (map said_by (drop l.line-index l.lines)) ≡ has_meant_with l.kind l.place l.word (map said_by l.lines)
