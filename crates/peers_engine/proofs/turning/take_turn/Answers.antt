use Rattle.std.proofs.Common.{◌≡◌, ◌∙◌, Err, Ok, ap, refl, subst, sym}
use Rattle.std.proofs.lemmas.Result.{IfErr-weaker, err_from_is_err_and, on_ok_weaker}
use Rattle.peers_devices.specs.Writing.{written}
use Rattle.session_core.specs.declared.event.Event.{Event}
use Rattle.session_core.specs.Sessions.{Refuses}
use Rattle.peers_engine.specs.declared.errors.EngineError.{EngineError}
use Rattle.peers_engine.specs.Acting.{worker}
use Rattle.peers_engine.specs.Turns.{first_event}
use Rattle.peers_engine.proofs.TurnLaws.{alone_fails, alone_works, idle_turn, stops_with_cause, then_done, then_fails, then_works}
use Rattle.peers_engine.proofs.turning.take_turn.Goals as goal

pub returns-then-branch-clause-done : goal.returns-then-branch-clause-done
returns-then-branch-clause-done g c =
    on_ok_weaker c.receive.result
    (then_done (worker c.args.session.now c.args.seat.now c.args.context.now.number c.args.context.now.moment) (worker c.react.new.session c.react.new.seat c.args.context.now.number c.args.context.now.moment) (worker c.receive.new.session c.receive.new.seat c.args.context.now.number c.args.context.now.moment) c.first_event-event.result
    (g.R.Read.remaining c.args.input.now) (g.R.Read.remaining c.receive.new.input)
    (written (g.W.Write.contents c.args.output.now) c.args.writes.now) (written (g.W.Write.contents c.react.new.output) c.react.new.writes) (written (g.W.Write.contents c.receive.new.output) c.receive.new.writes)
    (c.first_event-event.ensures ∙ ap first_event c.state.ensures) (c.react.ensures.idle (c.in_ok-react.was ∙ ap Ok c.if-branch.true)))
    c.receive.ensures.done

pub returns-then-branch-clause-failed : goal.returns-then-branch-clause-failed
returns-then-branch-clause-failed g c =
    IfErr-weaker c.receive.result _ _
    (λ error. then_fails c.args.context.now.shards.now (worker c.args.session.now c.args.seat.now c.args.context.now.number c.args.context.now.moment) (worker c.react.new.session c.react.new.seat c.args.context.now.number c.args.context.now.moment) c.receive.new.session c.receive.new.seat c.first_event-event.result error
    (g.R.Read.remaining c.args.input.now) (g.R.Read.remaining c.receive.new.input)
    (written (g.W.Write.contents c.args.output.now) c.args.writes.now) (written (g.W.Write.contents c.react.new.output) c.react.new.writes) (written (g.W.Write.contents c.receive.new.output) c.receive.new.writes)
    (c.first_event-event.ensures ∙ ap first_event c.state.ensures) (c.react.ensures.idle (c.in_ok-react.was ∙ ap Ok c.if-branch.true)))
    c.receive.ensures.failed

pub returns-in_err-react-clause-failed : goal.returns-in_err-react-clause-failed
returns-in_err-react-clause-failed g c =
    let p = err_from_is_err_and c.from_residual.result c.from_residual.ensures.1 in
    rw (p.1, p.2)
    (alone_fails c.args.context.now.shards.now (worker c.args.session.now c.args.seat.now c.args.context.now.number c.args.context.now.moment) c.react.new.session c.react.new.seat c.first_event-event.result c.in_err-react.field-0.0 (g.R.Read.remaining c.args.input.now)
    (written (g.W.Write.contents c.args.output.now) c.args.writes.now) (written (g.W.Write.contents c.react.new.output) c.react.new.writes) (c.first_event-event.ensures ∙ ap first_event c.state.ensures) c.in_err-react.ensures.failed refl)

pub returns-then-branch-clause-idle : goal.returns-then-branch-clause-idle
returns-then-branch-clause-idle g c = λ idle.
    let nothing = c.receive.ensures.nothing idle in
    idle_turn (worker c.args.session.now c.args.seat.now c.args.context.now.number c.args.context.now.moment) (worker c.react.new.session c.react.new.seat c.args.context.now.number c.args.context.now.moment) (worker c.receive.new.session c.receive.new.seat c.args.context.now.number c.args.context.now.moment) c.first_event-event.result _
    (g.R.Read.remaining c.args.input.now) (g.R.Read.remaining c.receive.new.input)
    (written (g.W.Write.contents c.args.output.now) c.args.writes.now) (written (g.W.Write.contents c.react.new.output) c.react.new.writes) (written (g.W.Write.contents c.receive.new.output) c.receive.new.writes)
    (c.first_event-event.ensures ∙ ap first_event c.state.ensures) (c.react.ensures.idle (c.in_ok-react.was ∙ ap Ok c.if-branch.true))
    (rw (nothing.1, nothing.2) refl) (rw (nothing.3, nothing.4) refl) nothing.0

pub returns-then-branch-clause-busy : goal.returns-then-branch-clause-busy
returns-then-branch-clause-busy g c = λ busy.
    then_works (worker c.args.session.now c.args.seat.now c.args.context.now.number c.args.context.now.moment) (worker c.react.new.session c.react.new.seat c.args.context.now.number c.args.context.now.moment) (worker c.receive.new.session c.receive.new.seat c.args.context.now.number c.args.context.now.moment) c.first_event-event.result
    (g.R.Read.remaining c.args.input.now) (g.R.Read.remaining c.receive.new.input)
    (written (g.W.Write.contents c.args.output.now) c.args.writes.now) (written (g.W.Write.contents c.react.new.output) c.react.new.writes) (written (g.W.Write.contents c.receive.new.output) c.receive.new.writes)
    (c.first_event-event.ensures ∙ ap first_event c.state.ensures) (c.react.ensures.idle (c.in_ok-react.was ∙ ap Ok c.if-branch.true)) (c.receive.ensures.something busy)

pub returns-else-branch-clause-busy : goal.returns-else-branch-clause-busy
returns-else-branch-clause-busy g c = λ busy.
    alone_works (worker c.args.session.now c.args.seat.now c.args.context.now.number c.args.context.now.moment) (worker c.react.new.session c.react.new.seat c.args.context.now.number c.args.context.now.moment) c.first_event-event.result (g.R.Read.remaining c.args.input.now)
    (written (g.W.Write.contents c.args.output.now) c.args.writes.now) (written (g.W.Write.contents c.react.new.output) c.react.new.writes)
    (c.first_event-event.ensures ∙ ap first_event c.state.ensures) (c.react.ensures.busy (c.in_ok-react.was ∙ ap Ok c.if-branch.false)) refl

pub returns-in_err-react-clause-refused : goal.returns-in_err-react-clause-refused
returns-in_err-react-clause-refused g c = λ why some is.
    let p = err_from_is_err_and c.from_residual.result c.from_residual.ensures.1 in
    let first = c.first_event-event.ensures ∙ ap first_event c.state.ensures in
    let refused = c.react.ensures.refused why some (subst (λ (event : Event). Refuses c.args.session.now.session.phase event why) (sym first) is) in
    let stops = stops_with_cause (c.react.new.output ≡ c.args.output.now) (c.react.new.writes ≡ c.args.writes.now)
    c.react.result c.in_err-react.field-0.0 why refused c.in_err-react.was in
    (p.1 ∙ ap (λ (e : EngineError). Err e) (p.2 ∙ stops.0), refl, stops.1, stops.2)
