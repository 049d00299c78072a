use Rattle.std.proofs.Common.{◌≡◌, ◌+◌, ◌-◌, drop, sym, ap, ◌∙◌, arith, rules}
use Rattle.std.proofs.lemmas.List.{drop-set-lt, drop-drop}
use Rattle.peers_encint.proofs.OneTail.{tail_of-end, tail_of-last}
use Rattle.peers_encint.proofs.SpellingLoop.{first_byte, later_byte, written-low, written-first, written-more, written-last, left-more}
use Rattle.peers_encint.proofs.spelling.write.Goals as goal

pub returns-then-n-lt240-clause-spelled : goal.returns-then-n-lt240-clause-spelled
returns-then-n-lt240-clause-spelled c = written-low c.args.n c.args.out.now (omega arith) (omega arith)

pub loop-index-init : goal.loop-index-init
loop-index-init c = record {
  length = search rules;
  within = omega arith;
  written = written-first c.args.n c.args.out.now _ (omega arith) (omega arith) (first_byte c.args.n);
  below = omega arith;
  kept = drop-set-lt 1 c.args.out.now 0 _ (omega arith);
}

pub returns-then-rest-lt128-clause-spelled : goal.returns-then-rest-lt128-clause-spelled
returns-then-rest-lt128-clause-spelled c =
    let l = c.loop-index in
    written-last l.out _ l.index l.rest (9 - l.index) (omega arith) (tail_of-last (9 - l.index) l.rest (omega arith)) l.invariant.written

pub loop-index-preserved : goal.loop-index-preserved
loop-index-preserved c =
    let l = c.loop-index in
    record {
      length = search rules;
      within = omega arith;
      written = written-more l.out _ l.index l.rest _ (omega arith) (omega arith) (omega arith) (later_byte l.rest) l.invariant.written;
      below = left-more l.index l.rest (omega arith) l.invariant.below;
      kept = drop-set-lt (l.index + 1) l.out l.index _ (omega arith) ∙ sym (drop-drop 1 l.index l.out) ∙ ap (drop 1) l.invariant.kept ∙ drop-drop 1 l.index c.args.out.now;
    }

pub returns-clause-spelled : goal.returns-clause-spelled
returns-clause-spelled c =
    let l = c.loop-index in
    let ninth : l.index ≡ 9 = omega arith in
    let all = rw ninth at l.invariant.written in
    written-last l.out _ 9 l.rest 0 (omega arith) (tail_of-end l.rest) all
