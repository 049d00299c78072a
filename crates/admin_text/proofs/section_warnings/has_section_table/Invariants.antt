use Rattle.std.proofs.Common.{◌≡◌, drop, map}
use Rattle.admin_text.specs.Statements.{said_by}
use Rattle.admin_text.specs.Warnings.{has_section_table}
use Rattle.admin_text.proofs.section_warnings.has_section_table.Given as goal

abbrev pub invariant-loop-line : goal.invariant-loop-line
invariant-loop-line l = has_section_table (map said_by (drop l.line-index l.lines)) ≡ has_section_table (map said_by l.lines)
