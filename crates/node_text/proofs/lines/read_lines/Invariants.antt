use Rattle.std.proofs.Common.{◌+◌, ◌≤◌, length}
use Rattle.node_text.specs.Scripts.{line_count}
use Rattle.node_text.proofs.lines.read_lines.Given as goal

abbrev pub invariant-loop-line : goal.invariant-loop-line
invariant-loop-line g l = record {
  number : 1 ≤ l.number;
  within : l.number + length l.rest ≤ length l.text + 1;
  counted : l.number + line_count l.rest ≤ line_count l.text + 1;
  sound : g.T.LineReader.is_sound (line_count l.text) l.fn.reader → g.T.LineReader.is_sound (line_count l.text) l.reader;
}

abbrev pub decreases-loop-line : goal.decreases-loop-line
decreases-loop-line g l = length l.rest
