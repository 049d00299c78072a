use Rattle.std.proofs.Common.{◌≡◌}
use Rattle.std.specs.Io.KnownBytes.{IsAtEnd}
use Rattle.peers_engine.specs.Acting.{worker}
use Rattle.node_commands.proofs.TurningLaws.{both_ways}
use Rattle.node_commands.proofs.node.turns.take_turn.Goals as goal

pub returns : goal.returns
returns g c =
    let w = c.args.worker.now in
    let e = c.turn.new.self in
    let now = c.args.now in
    both_ways c.args.shards.now (IsAtEnd (g.R.Read.remaining c.turn.new.input)) (c.turn.new.input ≡ c.args.from.now) (worker w.session w.seat w.number now) (worker e.session e.seat e.number now) c.turn.result
    (g.R.Read.remaining c.args.from.now) (g.R.Read.remaining c.turn.new.input) (g.W.Write.contents c.args.to.now) (g.W.Write.contents c.turn.new.output) c.args.writes.now c.turn.new.writes (g.W.Faults.failed c.args.to.now) (g.W.Faults.failed c.turn.new.output)
    c.turn.ensures.written c.turn.ensures.closed c.turn.ensures.stopped c.turn.ensures.ended c.turn.ensures.balks
