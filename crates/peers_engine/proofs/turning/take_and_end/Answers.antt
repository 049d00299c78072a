use Rattle.std.proofs.Common.{◌≡◌, Err, ap}
use Rattle.peers_devices.specs.Writing.{written}
use Rattle.peers_engine.specs.declared.errors.EngineError.{EngineError}
use Rattle.peers_engine.specs.Acting.{worker}
use Rattle.peers_engine.proofs.TurnLaws.{none_once_over, over_stops, stops_with_cause, taken_breaks, taken_moves, taken_stopped}
use Rattle.peers_engine.proofs.turning.take_and_end.Goals as goal

pub returns-in-Ok-clause-run : goal.returns-in-Ok-clause-run
returns-in-Ok-clause-run g c =
    taken_moves (worker c.args.session.now c.args.seat.now c.args.context.now.number c.args.context.now.moment) (worker c.react.new.session c.react.new.seat c.args.context.now.number c.args.context.now.moment) c.args.event
    (written (g.W.Write.contents c.args.output.now) c.args.writes.now) (written (g.W.Write.contents c.react.new.output) c.react.new.writes)
    c.in-Ok.ensures.done

pub returns-in-Err-clause-broken : goal.returns-in-Err-clause-broken
returns-in-Err-clause-broken g c =
    taken_breaks c.args.context.now.shards.now (worker c.args.session.now c.args.seat.now c.args.context.now.number c.args.context.now.moment) c.react.new.session c.end.new.session c.react.new.seat c.args.event c.in-Err.error
    (written (g.W.Write.contents c.args.output.now) c.args.writes.now) (written (g.W.Write.contents c.react.new.output) c.react.new.writes)
    c.in-Err.ensures.failed (c.end.ensures.ended, c.end.ensures.heard, c.end.ensures.counts, c.end.ensures.progress)

pub returns-in-Err-clause-stopped : goal.returns-in-Err-clause-stopped
returns-in-Err-clause-stopped g c =
    taken_stopped c.args.context.now.shards.now (worker c.args.session.now c.args.seat.now c.args.context.now.number c.args.context.now.moment) c.react.new.session c.end.new.session c.react.new.seat c.args.event c.in-Err.error
    (written (g.W.Write.contents c.args.output.now) c.args.writes.now) (written (g.W.Write.contents c.react.new.output) c.react.new.writes)
    c.in-Err.ensures.failed (c.end.ensures.ended, c.end.ensures.heard, c.end.ensures.counts, c.end.ensures.progress)

pub returns-in-Ok-clause-over : goal.returns-in-Ok-clause-over
returns-in-Ok-clause-over g c = λ over.
    absurd (none_once_over (c.react.new.output ≡ c.args.output.now) (c.react.new.writes ≡ c.args.writes.now) c.args.session.now.session.phase c.args.event
    c.react.result c.in-Ok.is_idle over c.react.ensures.refused c.in-Ok.is)

pub returns-in-Err-clause-over : goal.returns-in-Err-clause-over
returns-in-Err-clause-over g c = λ over.
    let stops = over_stops (c.react.new.output ≡ c.args.output.now) (c.react.new.writes ≡ c.args.writes.now) c.args.session.now.session.phase c.args.event
    c.react.result c.in-Err.error over c.react.ensures.refused c.in-Err.is in
    (ap (λ (e : EngineError). Err e) stops.0, stops.1, stops.2)

pub returns-in-Err-clause-refused : goal.returns-in-Err-clause-refused
returns-in-Err-clause-refused g c = λ why some is.
    let stops = stops_with_cause (c.react.new.output ≡ c.args.output.now) (c.react.new.writes ≡ c.args.writes.now)
    c.react.result c.in-Err.error why (c.react.ensures.refused why some is) c.in-Err.is in
    (ap (λ (e : EngineError). Err e) stops.0, stops.1, stops.2)
