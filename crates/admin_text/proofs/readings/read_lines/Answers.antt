use Rattle.std.proofs.Common.{◌+◌, ap, arith, length, map, subst}
use Rattle.std.proofs.lemmas.List.{take_all}
use Rattle.admin_text.specs.Statements.{said_by}
use Rattle.admin_text.proofs.ReadingLaws.{Reads, one_more, read_all, read_some, reads_next, reads_none}
use Rattle.admin_text.proofs.readings.read_lines.Goals as goal

pub loop-index-init : goal.loop-index-init
loop-index-init c = record {
  reads = reads_none c.new-reading.result c.new-reading.ensures;
  few = let none = ap length c.new-reading.ensures.faults in omega (arith, none);
}

pub returns-then-len-eq-MOST_FAULTS : goal.returns-then-len-eq-MOST_FAULTS
returns-then-len-eq-MOST_FAULTS c =
    let (outcome, read, noted) = c.in_ok-read.ensures in
    let lines = c.args.lines.now in
    let i = c.loop-index.index in
    read_some lines (i + 1) c.read.new.self
    (reads_next lines i c.index-lines-index.result outcome c.loop-index.reading c.read.new.self c.loop-index-test.true c.index-lines-index.is
    c.loop-index.invariant.reads read noted) (omega (arith, c.if-len-eq-MOST_FAULTS.true, c.len.ensures, c.read.new.self.faults.ok.0))

pub loop-index-preserved : goal.loop-index-preserved
loop-index-preserved c =
    let (outcome, read, noted) = c.in_ok-read.ensures in
    let line = c.index-lines-index.result in
    let most = one_more line.number outcome c.loop-index.reading c.read.new.self noted c.loop-index.invariant.few in
    record {
      reads =
          reads_next c.args.lines.now c.loop-index.index line outcome c.loop-index.reading c.read.new.self c.loop-index-test.true
          c.index-lines-index.is c.loop-index.invariant.reads read noted;
      few = omega (arith, most, c.if-len-eq-MOST_FAULTS.false, c.len.ensures, c.read.new.self.faults.ok.0);
    }

pub returns : goal.returns
returns c =
    let lines = c.args.lines.now in
    let few = c.loop-index.invariant.few in
    read_all lines c.loop-index.reading
    (subst (λ some. Reads (map said_by some) c.loop-index.reading) (take_all c.loop-index.index lines (omega (arith, c.loop-index-test.false))) c.loop-index.invariant.reads)
    (omega (arith, few))
