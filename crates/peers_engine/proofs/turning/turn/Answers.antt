use Rattle.std.proofs.Common.{◌≡◌, Err, ap}
use Rattle.peers_engine.specs.declared.errors.EngineError.{EngineError}
use Rattle.peers_engine.proofs.TurnLaws.{none_if_refused, stops_with_cause}
use Rattle.peers_engine.proofs.turning.turn.Goals as goal

pub returns-in-Ok-clause-refused : goal.returns-in-Ok-clause-refused
returns-in-Ok-clause-refused g c = λ why some is.
    let refused = c.turn_and_end.ensures.refused why some is in
    absurd (none_if_refused (c.turn_and_end.new.input ≡ c.args.input.now) (c.turn_and_end.new.output ≡ c.args.output.now)
    c.turn_and_end.result c.in-Ok.outcome why (refused.0, refused.1, refused.2) c.in-Ok.is)

pub returns-in-Err-clause-refused : goal.returns-in-Err-clause-refused
returns-in-Err-clause-refused g c = λ why some is.
    let refused = c.turn_and_end.ensures.refused why some is in
    let stops = stops_with_cause (c.turn_and_end.new.input ≡ c.args.input.now) (c.turn_and_end.new.output ≡ c.args.output.now)
    c.turn_and_end.result c.in-Err.error why (refused.0, refused.1, refused.2) c.in-Err.is in
    (ap (λ (e : EngineError). Err e) stops.0, stops.1, stops.2)
