use Rattle.node_log.proofs.LineLaws.{found, one_line}
use Rattle.node_log.proofs.laws.lines_are_read.Goals as goal

pub returns-clause-line : goal.returns-clause-line
returns-clause-line c = one_line

pub returns-clause-sentence : goal.returns-clause-sentence
returns-clause-sentence c = found
