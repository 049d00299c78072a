use Rattle.admin_text.proofs.NetworkTexts.{first_bad, next_network}
use Rattle.admin_text.proofs.peer_lines.read_networks.Goals as goal

pub returns-in_default : goal.returns-in_default
returns-in_default c =
    first_bad c.args.words.now c.loop-index.index c.args.place _ c.loop-index.networks.items c.loop-index-test.true c.loop-index.invariant c.in_default.ensures

pub loop-index-preserved : goal.loop-index-preserved
loop-index-preserved c =
    next_network c.args.words.now c.loop-index.index _ c.loop-index.networks.items c.push.new.self.items c.in-Some.network c.loop-index-test.true
    c.loop-index.invariant c.in-Some.ensures c.in_ok-push.ensures.items
