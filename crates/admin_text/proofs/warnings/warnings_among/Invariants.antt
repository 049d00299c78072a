use Rattle.std.proofs.Common.{map, take}
use Rattle.admin_text.specs.Places.{ArePlaces}
use Rattle.admin_text.specs.SaidLines.{AreLines}
use Rattle.admin_text.specs.Statements.{said_by}
use Rattle.admin_text.specs.Warnings.{AreWarnings, may_use_section, unnamed, warned_head}
use Rattle.admin_text.proofs.warnings.warnings_among.Given as goal

abbrev pub invariant-loop-line : goal.invariant-loop-line
invariant-loop-line l = record {
  places : ArePlaces (map said_by l.lines) l.all.items;
  warned :
      AreWarnings l.all.items (may_use_section (map said_by l.lines)) (unnamed l.faults (map said_by (take l.line-index l.lines))) l.warnings.lines.items;
  said : AreLines (map warned_head l.warnings.lines.items) l.warnings.said.items;
}
