use Rattle.std.proofs.Common.{sym}
use Rattle.node_text.proofs.Numerals.{two_more}
use Rattle.node_text.proofs.bytes.hexadecimal.Goals as goal

pub loop-rest-preserved : goal.loop-rest-preserved
loop-rest-preserved c =
    two_more c.loop-rest.bytes.items c.args.word.now c.loop-rest.rest.now c.push.new.self.items _ _ _ _ c.in-len2-up.len_at_least
    (sym c.in-Some-Some.ensures.exactly) (sym c.in-Some-Some.ensures'.exactly) c.loop-rest.invariant c.in_ok-push.ensures.items
