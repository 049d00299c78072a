use Rattle.std.proofs.Common.{◌<◌, length, map, take}
use Rattle.admin_text.specs.Statements.{said_by}
use Rattle.admin_text.proofs.ReadingLaws.{Reads}
use Rattle.admin_text.proofs.readings.read_lines.Given as goal

abbrev pub invariant-loop-index : goal.invariant-loop-index
invariant-loop-index l = record {
  reads : Reads (map said_by (take l.index l.lines)) l.reading;
  few : length l.reading.faults.items < 20;
}
