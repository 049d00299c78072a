use Rattle.std.proofs.Common.{◌∙◌}
use Rattle.std.proofs.lemmas.Result.{err_from_is_err_and}
use Rattle.std.specs.Vec.Iter.{into_iter_items}
use Rattle.peers_devices.specs.Writing.{written}
use Rattle.peers_engine.specs.Acting.{worker}
use Rattle.peers_engine.proofs.OneActionLaws.{one_fails, one_more}
use Rattle.peers_engine.proofs.TakenLaws.{taken_next}
use Rattle.peers_engine.proofs.turning.do_all.Goals as goal

pub returns-in_err-act-clause-failed : goal.returns-in_err-act-clause-failed
returns-in_err-act-clause-failed g c =
    let p = err_from_is_err_and c.from_residual.result c.from_residual.ensures.1 in
    rw (p.1, p.2)
    (one_fails c.args.context.now.shards.now (worker c.args.session.now c.args.seat.now c.args.context.now.number c.args.context.now.moment) (worker c.loop-action.session c.loop-action.seat c.args.context.now.number c.args.context.now.moment)
    c.act.new.session c.act.new.seat c.args.actions.items c.loop-action.yielded (into_iter_items c.next.new.self) c.loop-action.given.items c.in-Some.action c.in_err-act.field-0.0
    (written (g.W.Write.contents c.args.output.now) c.args.writes.now) (written (g.W.Write.contents c.loop-action.output) c.loop-action.writes) (written (g.W.Write.contents c.act.new.output) c.act.new.writes)
    (taken_next c.args.actions.items c.into_iter-action-iterator.result c.loop-action.action-iterator c.next.new.self c.loop-action.yielded c.in-Some.action
    c.into_iter-action-iterator.ensures.into_iter_gives.0 c.loop-action.yielded_by c.in-Some.ensures.steps)
    c.loop-action.invariant.done c.in_err-act.ensures.failed)

pub loop-action-preserved : goal.loop-action-preserved
loop-action-preserved g c =
    record {
      done = one_more (worker c.args.session.now c.args.seat.now c.args.context.now.number c.args.context.now.moment) (worker c.loop-action.session c.loop-action.seat c.args.context.now.number c.args.context.now.moment) (worker c.act.new.session c.act.new.seat c.args.context.now.number c.args.context.now.moment)
          c.loop-action.yielded c.loop-action.given.items c.act.new.given.items c.in-Some.action
          (written (g.W.Write.contents c.args.output.now) c.args.writes.now) (written (g.W.Write.contents c.loop-action.output) c.loop-action.writes) (written (g.W.Write.contents c.act.new.output) c.act.new.writes)
          c.loop-action.invariant.done c.in_ok-act.ensures.done;
      seat = c.act.ensures.seat ∙ c.loop-action.invariant.seat;
      manner = c.act.ensures.manner ∙ c.loop-action.invariant.manner;
    }
