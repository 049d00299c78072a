use Rattle.std.proofs.Common.{◌≡◌, ℕ, List}
use Rattle.peers_devices.specs.Writing.{AreWritten, written}
use Rattle.session_core.specs.declared.action.Action.{Action}
use Rattle.session_core.specs.declared.event.Event.{Event}
use Rattle.session_core.specs.Keeping.{is_staying}
use Rattle.session_core.specs.Hearing.{asked_in}
use Rattle.peers_engine.specs.Acting.{Acts, worker}
use Rattle.peers_engine.proofs.turning.do_all.Given as goal

-- the actions so far are performed, their answers are received, and what those ask for is kept
abbrev pub invariant-loop-action : goal.invariant-loop-action
invariant-loop-action g l = record {
  done : (answers : List (Event × List Action)) × (out : List ℕ)
      × Acts (worker l.fn.session l.fn.seat l.context.number l.context.moment) l.yielded answers out (worker l.session l.seat l.context.number l.context.moment)
      × (l.given.items ≡ asked_in answers)
      × AreWritten (written (g.W.Write.contents l.fn.output) l.fn.writes) (written (g.W.Write.contents l.output) l.writes) out;
  seat : l.seat.number ≡ l.fn.seat.number;
  manner : is_staying l.session.manner ≡ is_staying l.fn.session.manner;
}
