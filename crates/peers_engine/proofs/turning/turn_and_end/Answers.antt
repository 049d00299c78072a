use Rattle.std.proofs.Common.{◌≡◌, Err, ap}
use Rattle.session_core.specs.Sessions.{state_of}
use Rattle.peers_devices.specs.Writing.{written}
use Rattle.peers_engine.specs.declared.errors.EngineError.{EngineError}
use Rattle.peers_engine.specs.Acting.{worker}
use Rattle.peers_engine.specs.Turns.{first_event}
use Rattle.peers_engine.proofs.TurnLaws.{broken, none_once_over, over_stops, stopped, stops_with_cause, turned}
use Rattle.peers_engine.proofs.turning.turn_and_end.Goals as goal

pub returns-in-Err-clause-broken : goal.returns-in-Err-clause-broken
returns-in-Err-clause-broken g c =
    broken c.args.context.now.shards.now (worker c.args.session.now c.args.seat.now c.args.context.now.number c.args.context.now.moment) c.take_turn.new.session c.end.new.session c.take_turn.new.seat c.in-Err.error
    (g.R.Read.remaining c.args.input.now) (g.R.Read.remaining c.take_turn.new.input)
    (written (g.W.Write.contents c.args.output.now) c.args.writes.now) (written (g.W.Write.contents c.take_turn.new.output) c.take_turn.new.writes)
    c.in-Err.ensures.failed (c.end.ensures.ended, c.end.ensures.heard, c.end.ensures.counts, c.end.ensures.progress)

pub returns-in-Err-clause-stopped : goal.returns-in-Err-clause-stopped
returns-in-Err-clause-stopped g c =
    stopped c.args.context.now.shards.now (worker c.args.session.now c.args.seat.now c.args.context.now.number c.args.context.now.moment) c.take_turn.new.session c.end.new.session c.take_turn.new.seat c.in-Err.error
    (g.R.Read.remaining c.args.input.now) (g.R.Read.remaining c.take_turn.new.input)
    (written (g.W.Write.contents c.args.output.now) c.args.writes.now) (written (g.W.Write.contents c.take_turn.new.output) c.take_turn.new.writes)
    c.in-Err.ensures.failed (c.end.ensures.ended, c.end.ensures.heard, c.end.ensures.counts, c.end.ensures.progress)

pub returns-in-Ok-clause-run : goal.returns-in-Ok-clause-run
returns-in-Ok-clause-run g c =
    turned (worker c.args.session.now c.args.seat.now c.args.context.now.number c.args.context.now.moment) (worker c.take_turn.new.session c.take_turn.new.seat c.args.context.now.number c.args.context.now.moment)
    (g.R.Read.remaining c.args.input.now) (g.R.Read.remaining c.take_turn.new.input)
    (written (g.W.Write.contents c.args.output.now) c.args.writes.now) (written (g.W.Write.contents c.take_turn.new.output) c.take_turn.new.writes)
    c.in-Ok.ensures.done

pub returns-in-Ok-clause-over : goal.returns-in-Ok-clause-over
returns-in-Ok-clause-over g c = λ over.
    let phase = c.args.session.now.session.phase in
    absurd (none_once_over (c.take_turn.new.input ≡ c.args.input.now)
    ((c.take_turn.new.output ≡ c.args.output.now) × (c.take_turn.new.writes ≡ c.args.writes.now)) phase (first_event (state_of phase)) c.take_turn.result c.in-Ok.is_idle
    over (λ why some is. let refused = c.take_turn.ensures.refused why some is in (refused.0, refused.1, (refused.2, refused.3))) c.in-Ok.is)

pub returns-in-Err-clause-over : goal.returns-in-Err-clause-over
returns-in-Err-clause-over g c = λ over.
    let phase = c.args.session.now.session.phase in
    let stops = over_stops (c.take_turn.new.input ≡ c.args.input.now)
    ((c.take_turn.new.output ≡ c.args.output.now) × (c.take_turn.new.writes ≡ c.args.writes.now)) phase (first_event (state_of phase)) c.take_turn.result c.in-Err.error
    over (λ why some is. let refused = c.take_turn.ensures.refused why some is in (refused.0, refused.1, (refused.2, refused.3))) c.in-Err.is in
    (ap (λ (e : EngineError). Err e) stops.0, stops.1, stops.2.0, stops.2.1)

pub returns-in-Err-clause-refused : goal.returns-in-Err-clause-refused
returns-in-Err-clause-refused g c = λ why some is.
    let refused = c.take_turn.ensures.refused why some is in
    let stops = stops_with_cause (c.take_turn.new.input ≡ c.args.input.now) (c.take_turn.new.output ≡ c.args.output.now)
    c.take_turn.result c.in-Err.error why (refused.0, refused.1, refused.2) c.in-Err.is in
    (ap (λ (e : EngineError). Err e) stops.0, stops.1, stops.2, refused.3)
