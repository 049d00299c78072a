use Rattle.std.proofs.Common.{refl, length}
use Rattle.std.proofs.lemmas.Option.{slice_get_read}
use Rattle.node_core.specs.CatchingUp.{brought}
use Rattle.node_core.proofs.Changed.{past_changed, set_changed}
use Rattle.node_core.proofs.asking.set_brought.Goals as goal

pub returns-in-Some : goal.returns-in-Some
returns-in-Some c =
    let found = slice_get_read c.args.peers.now (length c.args.peers.now) c.args.peer c.in-Some.one.now refl c.in-Some.ensures.lookup.3.0 c.in-Some.ensures.lookup.1 in
    rw c.brought.ensures (set_changed (brought c.args.now) c.args.peers.now c.args.peer c.in-Some.one.now found)

pub returns-in_default : goal.returns-in_default
returns-in_default c = past_changed (brought c.args.now) c.args.peers.now c.args.peer c.in_default.ensures.lookup.3
