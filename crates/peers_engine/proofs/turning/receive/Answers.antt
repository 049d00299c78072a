use Rattle.std.proofs.lemmas.Result.{err_from_is_err_and}
use Rattle.peers_devices.specs.Writing.{written}
use Rattle.peers_engine.specs.Acting.{worker}
use Rattle.peers_engine.proofs.TurnLaws.{read_fails}
use Rattle.peers_engine.proofs.turning.receive.Goals as goal

pub returns-in_err-react-in-Some-clause-failed : goal.returns-in_err-react-in-Some-clause-failed
returns-in_err-react-in-Some-clause-failed g c =
    let p = err_from_is_err_and c.from_residual-in_err-react-in-Some.result c.from_residual-in_err-react-in-Some.ensures.1 in
    rw (p.1, p.2)
    (read_fails c.args.context.now.shards.now (worker c.args.session.now c.args.seat.now c.args.context.now.number c.args.context.now.moment) c.react.new.session c.react.new.seat c.in_ok-event.field-0 c.in-Some.event c.in_err-react-in-Some.field-0.0
    (g.R.Read.remaining c.args.input.now) (g.R.Read.remaining c.read_event.new.input)
    (written (g.W.Write.contents c.args.output.now) c.args.writes.now) (written (g.W.Write.contents c.react.new.output) c.react.new.writes)
    c.in-Some.is c.in_ok-event.ensures.received c.in_err-react-in-Some.ensures.failed)
