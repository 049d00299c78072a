use Rattle.std.proofs.Common.{◌≡◌, ◌⊎◌, ◌∙◌, Bool, IfErr, Ok, ap, subst, sym}
use Rattle.std.proofs.lemmas.Result.{IfErr-weaker, err_from_is_err_and, on_ok_weaker}
use Rattle.table_types.specs.declared.version.Version.{Version}
use Rattle.session_core.specs.declared.action.Action.TheVariants as actions
use Rattle.session_core.specs.Keeping.{is_staying}
use Rattle.peers_devices.specs.Writing.{written}
use Rattle.peers_engine.specs.Acting.{worker}
use Rattle.peers_engine.specs.Calls.{CallsClose, IsCopied, IsLearned, IsUncopied, IsUnlearned, IsUnopened, moment_at, opened_with}
use Rattle.peers_engine.specs.Doing.{IsRefusal}
use Rattle.peers_engine.proofs.AnswerLaws.{ack_done, call_refused, close_done, copy_done, learn_done, part_done, part_falls, reopen_done, send_done, send_falls, table_refuses, teach_done, teach_fails}
use Rattle.peers_engine.proofs.OneActionLaws.{answered, fails_alone, silently_done, unanswered}
use Rattle.peers_engine.proofs.doing.act.Goals as goal

pub returns-in-Send-clause-done : goal.returns-in-Send-clause-done
returns-in-Send-clause-done g c =
    on_ok_weaker c.send.result
    (λ appended. silently_done (worker c.args.session.now c.args.seat.now c.args.context.now.number c.args.context.now.moment) c.args.seat.now c.args.action c.args.given.now.items (written (g.W.Write.contents c.args.output.now) c.args.writes.now) (written (g.W.Write.contents c.send.new.output) c.send.new.writes)
    (send_done (is_staying c.args.session.now.manner) c.args.context.now.number c.args.context.now.moment c.args.session.now.session c.args.seat.now c.args.action c.in-Send.bytes c.as_slice.result.now (written (g.W.Write.contents c.args.output.now) c.args.writes.now) (written (g.W.Write.contents c.send.new.output) c.send.new.writes) c.in-Send.is c.as_slice.ensures appended))
    c.send.ensures.ok

pub returns-in-Send-clause-failed : goal.returns-in-Send-clause-failed
returns-in-Send-clause-failed g c =
    IfErr-weaker c.send.result _ _
    (λ error falls. fails_alone c.args.context.now.shards.now (worker c.args.session.now c.args.seat.now c.args.context.now.number c.args.context.now.moment) c.args.seat.now c.args.action error (written (g.W.Write.contents c.args.output.now) c.args.writes.now) (written (g.W.Write.contents c.send.new.output) c.send.new.writes)
    (send_falls c.args.context.now.shards.now (is_staying c.args.session.now.manner) c.args.context.now.number c.args.context.now.moment c.args.session.now.session c.args.seat.now c.args.action c.in-Send.bytes c.as_slice.result.now error (written (g.W.Write.contents c.args.output.now) c.args.writes.now) (written (g.W.Write.contents c.send.new.output) c.send.new.writes) c.in-Send.is c.as_slice.ensures falls))
    c.send.ensures.failed

pub returns-in-Part-clause-done : goal.returns-in-Part-clause-done
returns-in-Part-clause-done g c =
    on_ok_weaker c.part.result
    (λ appended. silently_done (worker c.args.session.now c.args.seat.now c.args.context.now.number c.args.context.now.moment) c.args.seat.now c.args.action c.args.given.now.items (written (g.W.Write.contents c.args.output.now) c.args.writes.now) (written (g.W.Write.contents c.part.new.output) c.part.new.writes)
    (part_done (is_staying c.args.session.now.manner) c.args.context.now.number c.args.context.now.moment c.args.session.now.session c.args.seat.now c.args.action c.in-Part.kind (written (g.W.Write.contents c.args.output.now) c.args.writes.now) (written (g.W.Write.contents c.part.new.output) c.part.new.writes) c.in-Part.is appended))
    c.part.ensures.ok

pub returns-in-Part-clause-failed : goal.returns-in-Part-clause-failed
returns-in-Part-clause-failed g c =
    IfErr-weaker c.part.result _ _
    (λ error falls. fails_alone c.args.context.now.shards.now (worker c.args.session.now c.args.seat.now c.args.context.now.number c.args.context.now.moment) c.args.seat.now c.args.action error (written (g.W.Write.contents c.args.output.now) c.args.writes.now) (written (g.W.Write.contents c.part.new.output) c.part.new.writes)
    (part_falls c.args.context.now.shards.now (is_staying c.args.session.now.manner) c.args.context.now.number c.args.context.now.moment c.args.session.now.session c.args.seat.now c.args.action c.in-Part.kind error (written (g.W.Write.contents c.args.output.now) c.args.writes.now) (written (g.W.Write.contents c.part.new.output) c.part.new.writes) c.in-Part.is falls))
    c.part.ensures.failed

pub returns-in-Close-clause-done : goal.returns-in-Close-clause-done
returns-in-Close-clause-done g c =
    silently_done (worker c.args.session.now c.args.seat.now c.args.context.now.number c.args.context.now.moment) c.args.seat.now c.args.action c.args.given.now.items (written (g.W.Write.contents c.args.output.now) c.args.writes.now) (written (g.W.Write.contents c.args.output.now) c.args.writes.now) (close_done (is_staying c.args.session.now.manner) c.args.context.now.number c.args.context.now.moment c.args.session.now.session c.args.seat.now c.args.action (written (g.W.Write.contents c.args.output.now) c.args.writes.now) c.in-Close.is)

pub returns-in-Learn-clause-done : goal.returns-in-Learn-clause-done
returns-in-Learn-clause-done g c =
    on_ok_weaker c.learn.result
    (λ done. silently_done (worker c.args.session.now c.args.seat.now c.args.context.now.number c.args.context.now.moment) c.learn.new.seat c.args.action c.args.given.now.items (written (g.W.Write.contents c.args.output.now) c.args.writes.now) (written (g.W.Write.contents c.args.output.now) c.args.writes.now)
    (learn_done (is_staying c.args.session.now.manner) c.args.context.now.number c.args.context.now.moment c.args.session.now.session c.args.seat.now c.learn.new.seat c.args.action c.in-Learn.update (written (g.W.Write.contents c.args.output.now) c.args.writes.now) c.in-Learn.is (subst (λ (b : Bool). IsLearned b c.args.context.now.number c.args.context.now.moment c.args.seat.now c.in-Learn.update c.learn.new.seat) c.stays-stays.ensures done)))
    c.learn.ensures.learned

pub returns-in-Learn-clause-failed : goal.returns-in-Learn-clause-failed
returns-in-Learn-clause-failed g c =
    IfErr-weaker c.learn.result _ _
    (λ error fails. fails_alone c.args.context.now.shards.now (worker c.args.session.now c.args.seat.now c.args.context.now.number c.args.context.now.moment) c.learn.new.seat c.args.action error (written (g.W.Write.contents c.args.output.now) c.args.writes.now) (written (g.W.Write.contents c.args.output.now) c.args.writes.now) fails)
    (table_refuses c.args.context.now.shards.now (is_staying c.args.session.now.manner) c.args.context.now.number c.args.context.now.moment c.args.session.now.session c.args.seat.now c.learn.new.seat c.args.action (actions.Learn c.in-Learn.update) (written (g.W.Write.contents c.args.output.now) c.args.writes.now) c.learn.result c.in-Learn.is tt
    (subst (λ (b : Bool). IfErr c.learn.result (IsRefusal (c.learn.new.seat ≡ c.args.seat.now) (IsUnlearned c.args.context.now.shards.now (moment_at b c.args.context.now.moment) c.args.context.now.number c.args.seat.now c.in-Learn.update c.learn.new.seat))) c.stays-stays.ensures c.learn.ensures.refused))

pub returns-in-Reopen-clause-done : goal.returns-in-Reopen-clause-done
returns-in-Reopen-clause-done g c =
    on_ok_weaker c.reopen.result
    (λ done. silently_done (worker c.args.session.now c.args.seat.now c.args.context.now.number c.args.context.now.moment) c.reopen.new.seat c.args.action c.args.given.now.items (written (g.W.Write.contents c.args.output.now) c.args.writes.now) (written (g.W.Write.contents c.args.output.now) c.args.writes.now)
    (reopen_done (is_staying c.args.session.now.manner) c.args.context.now.number c.args.context.now.moment c.args.session.now.session c.args.seat.now c.reopen.new.seat c.args.action c.in-Reopen.table c.opened_with.result (written (g.W.Write.contents c.args.output.now) c.args.writes.now) c.in-Reopen.is
    (c.opened_with.ensures ∙ ap opened_with c.version.ensures) done))
    c.reopen.ensures.reopened

pub returns-in-Reopen-clause-failed : goal.returns-in-Reopen-clause-failed
returns-in-Reopen-clause-failed g c =
    IfErr-weaker c.reopen.result _ _
    (λ error fails. fails_alone c.args.context.now.shards.now (worker c.args.session.now c.args.seat.now c.args.context.now.number c.args.context.now.moment) c.reopen.new.seat c.args.action error (written (g.W.Write.contents c.args.output.now) c.args.writes.now) (written (g.W.Write.contents c.args.output.now) c.args.writes.now) fails)
    (table_refuses c.args.context.now.shards.now (is_staying c.args.session.now.manner) c.args.context.now.number c.args.context.now.moment c.args.session.now.session c.args.seat.now c.reopen.new.seat c.args.action (actions.Reopen c.in-Reopen.table) (written (g.W.Write.contents c.args.output.now) c.args.writes.now) c.reopen.result c.in-Reopen.is tt
    (subst (λ (v : Version). IfErr c.reopen.result (IsRefusal ((c.reopen.new.seat ≡ c.args.seat.now) ⊎ CallsClose c.args.context.now.number c.args.seat.now c.in-Reopen.table (Ok tt) c.reopen.new.seat) (IsUnopened c.args.context.now.shards.now c.args.context.now.number v c.args.seat.now c.in-Reopen.table c.reopen.new.seat))) (c.opened_with.ensures ∙ ap opened_with c.version.ensures) c.reopen.ensures.refused))

pub returns-in_err-answer-in-Ack-clause-failed : goal.returns-in_err-answer-in-Ack-clause-failed
returns-in_err-answer-in-Ack-clause-failed g c =
    let p = err_from_is_err_and c.from_residual.result c.from_residual.ensures.1 in
    rw (p.1, p.2)
    (fails_alone c.args.context.now.shards.now (worker c.args.session.now c.args.seat.now c.args.context.now.number c.args.context.now.moment) c.acknowledge.new.seat c.args.action c.in_err-answer-in-Ack.field-0.0 (written (g.W.Write.contents c.args.output.now) c.args.writes.now) (written (g.W.Write.contents c.args.output.now) c.args.writes.now)
    (call_refused c.args.context.now.shards.now (is_staying c.args.session.now.manner) c.args.context.now.number c.args.context.now.moment c.args.session.now.session c.args.seat.now c.acknowledge.new.seat c.args.action (actions.Ack c.in-Ack.table c.in-Ack.number) (written (g.W.Write.contents c.args.output.now) c.args.writes.now) c.in_err-answer-in-Ack.field-0.0 c.in-Ack.is tt c.in_err-answer-in-Ack.ensures.refused))

pub returns-in_ok-answer-in-Ack-clause-done : goal.returns-in_ok-answer-in-Ack-clause-done
returns-in_ok-answer-in-Ack-clause-done g c =
    on_ok_weaker c.give_answer.result
    (λ given. answered (worker c.args.session.now c.args.seat.now c.args.context.now.number c.args.context.now.moment) c.give_answer.new.session c.acknowledge.new.seat c.args.action c.in_ok-answer-in-Ack.answer c.args.given.now.items c.give_answer.new.given.items (written (g.W.Write.contents c.args.output.now) c.args.writes.now) (written (g.W.Write.contents c.args.output.now) c.args.writes.now)
    (ack_done (is_staying c.args.session.now.manner) c.args.context.now.number c.args.context.now.moment c.args.session.now.session c.args.seat.now c.acknowledge.new.seat c.args.action c.in-Ack.table c.in-Ack.number (written (g.W.Write.contents c.args.output.now) c.args.writes.now) c.in_ok-answer-in-Ack.answer c.in-Ack.is c.in_ok-answer-in-Ack.ensures.answer) given)
    c.give_answer.ensures.given

pub returns-in_ok-answer-in-Ack-clause-failed : goal.returns-in_ok-answer-in-Ack-clause-failed
returns-in_ok-answer-in-Ack-clause-failed g c =
    IfErr-weaker c.give_answer.result _ _
    (λ error stuck. unanswered c.args.context.now.shards.now (worker c.args.session.now c.args.seat.now c.args.context.now.number c.args.context.now.moment) c.give_answer.new.session c.acknowledge.new.seat c.args.action c.in_ok-answer-in-Ack.answer error (written (g.W.Write.contents c.args.output.now) c.args.writes.now) (written (g.W.Write.contents c.args.output.now) c.args.writes.now)
    (ack_done (is_staying c.args.session.now.manner) c.args.context.now.number c.args.context.now.moment c.args.session.now.session c.args.seat.now c.acknowledge.new.seat c.args.action c.in-Ack.table c.in-Ack.number (written (g.W.Write.contents c.args.output.now) c.args.writes.now) c.in_ok-answer-in-Ack.answer c.in-Ack.is c.in_ok-answer-in-Ack.ensures.answer) stuck)
    c.give_answer.ensures.stuck

pub returns-in_err-answer-in-Copy-clause-failed : goal.returns-in_err-answer-in-Copy-clause-failed
returns-in_err-answer-in-Copy-clause-failed g c =
    let p = err_from_is_err_and c.from_residual-in_err-answer-in-Copy.result c.from_residual-in_err-answer-in-Copy.ensures.1 in
    rw (p.1, p.2)
    (fails_alone c.args.context.now.shards.now (worker c.args.session.now c.args.seat.now c.args.context.now.number c.args.context.now.moment) c.copy_batch.new.seat c.args.action c.in_err-answer-in-Copy.field-0.0 (written (g.W.Write.contents c.args.output.now) c.args.writes.now) (written (g.W.Write.contents c.args.output.now) c.args.writes.now)
    (call_refused c.args.context.now.shards.now (is_staying c.args.session.now.manner) c.args.context.now.number c.args.context.now.moment c.args.session.now.session c.args.seat.now c.copy_batch.new.seat c.args.action (actions.Copy c.in-Copy.table c.in-Copy.kind) (written (g.W.Write.contents c.args.output.now) c.args.writes.now) c.in_err-answer-in-Copy.field-0.0 c.in-Copy.is tt
    (subst (λ (b : Bool). IsRefusal (c.copy_batch.new.seat ≡ c.args.seat.now) (IsUncopied c.args.context.now.shards.now (moment_at b c.args.context.now.moment) c.args.context.now.number c.args.seat.now c.in-Copy.table c.in-Copy.kind c.copy_batch.new.seat) c.in_err-answer-in-Copy.field-0.0) c.stays-stays.ensures c.in_err-answer-in-Copy.ensures.refused)))

pub returns-in_ok-answer-in-Copy-clause-done : goal.returns-in_ok-answer-in-Copy-clause-done
returns-in_ok-answer-in-Copy-clause-done g c =
    on_ok_weaker c.give_answer-in-Copy.result
    (λ given. answered (worker c.args.session.now c.args.seat.now c.args.context.now.number c.args.context.now.moment) c.give_answer-in-Copy.new.session c.copy_batch.new.seat c.args.action c.in_ok-answer-in-Copy.answer c.args.given.now.items c.give_answer-in-Copy.new.given.items (written (g.W.Write.contents c.args.output.now) c.args.writes.now) (written (g.W.Write.contents c.args.output.now) c.args.writes.now)
    (copy_done (is_staying c.args.session.now.manner) c.args.context.now.number c.args.context.now.moment c.args.session.now.session c.args.seat.now c.copy_batch.new.seat c.args.action c.in-Copy.table c.in-Copy.kind (written (g.W.Write.contents c.args.output.now) c.args.writes.now) c.in_ok-answer-in-Copy.answer c.in-Copy.is (subst (λ (b : Bool). IsCopied b c.args.context.now.number c.args.context.now.moment c.args.seat.now c.in-Copy.table c.in-Copy.kind c.copy_batch.new.seat c.in_ok-answer-in-Copy.answer) c.stays-stays.ensures c.in_ok-answer-in-Copy.ensures.answer)) given)
    c.give_answer-in-Copy.ensures.given

pub returns-in_ok-answer-in-Copy-clause-failed : goal.returns-in_ok-answer-in-Copy-clause-failed
returns-in_ok-answer-in-Copy-clause-failed g c =
    IfErr-weaker c.give_answer-in-Copy.result _ _
    (λ error stuck. unanswered c.args.context.now.shards.now (worker c.args.session.now c.args.seat.now c.args.context.now.number c.args.context.now.moment) c.give_answer-in-Copy.new.session c.copy_batch.new.seat c.args.action c.in_ok-answer-in-Copy.answer error (written (g.W.Write.contents c.args.output.now) c.args.writes.now) (written (g.W.Write.contents c.args.output.now) c.args.writes.now)
    (copy_done (is_staying c.args.session.now.manner) c.args.context.now.number c.args.context.now.moment c.args.session.now.session c.args.seat.now c.copy_batch.new.seat c.args.action c.in-Copy.table c.in-Copy.kind (written (g.W.Write.contents c.args.output.now) c.args.writes.now) c.in_ok-answer-in-Copy.answer c.in-Copy.is (subst (λ (b : Bool). IsCopied b c.args.context.now.number c.args.context.now.moment c.args.seat.now c.in-Copy.table c.in-Copy.kind c.copy_batch.new.seat c.in_ok-answer-in-Copy.answer) c.stays-stays.ensures c.in_ok-answer-in-Copy.ensures.answer)) stuck)
    c.give_answer-in-Copy.ensures.stuck

pub returns-in_err-answer-in-Teach-clause-failed : goal.returns-in_err-answer-in-Teach-clause-failed
returns-in_err-answer-in-Teach-clause-failed g c =
    let p = err_from_is_err_and c.from_residual-in_err-answer-in-Teach.result c.from_residual-in_err-answer-in-Teach.ensures.1 in
    rw (p.1, p.2)
    (fails_alone c.args.context.now.shards.now (worker c.args.session.now c.args.seat.now c.args.context.now.number c.args.context.now.moment) c.teach_batch.new.seat c.args.action c.in_err-answer-in-Teach.field-0.0 (written (g.W.Write.contents c.args.output.now) c.args.writes.now) (written (g.W.Write.contents c.teach_batch.new.output) c.teach_batch.new.writes)
    (teach_fails c.args.context.now.shards.now (is_staying c.args.session.now.manner) c.args.context.now.number c.args.context.now.moment c.args.session.now.session c.args.seat.now c.teach_batch.new.seat c.args.action c.in-Teach.batch (written (g.W.Write.contents c.args.output.now) c.args.writes.now) (written (g.W.Write.contents c.teach_batch.new.output) c.teach_batch.new.writes) c.in_err-answer-in-Teach.field-0.0 c.in-Teach.is
    (c.in_err-answer-in-Teach.ensures.failed (is_staying c.args.session.now.manner) c.args.session.now.session (sym c.known.ensures))))

pub returns-in_ok-answer-in-Teach-clause-done : goal.returns-in_ok-answer-in-Teach-clause-done
returns-in_ok-answer-in-Teach-clause-done g c =
    on_ok_weaker c.give_answer-in-Teach.result
    (λ given. answered (worker c.args.session.now c.args.seat.now c.args.context.now.number c.args.context.now.moment) c.give_answer-in-Teach.new.session c.teach_batch.new.seat c.args.action c.in_ok-answer-in-Teach.answer c.args.given.now.items c.give_answer-in-Teach.new.given.items (written (g.W.Write.contents c.args.output.now) c.args.writes.now) (written (g.W.Write.contents c.teach_batch.new.output) c.teach_batch.new.writes)
    (teach_done (is_staying c.args.session.now.manner) c.args.context.now.number c.args.context.now.moment c.known.result.now c.args.session.now.session c.args.seat.now c.teach_batch.new.seat c.args.action c.in-Teach.batch (written (g.W.Write.contents c.args.output.now) c.args.writes.now) (written (g.W.Write.contents c.teach_batch.new.output) c.teach_batch.new.writes) c.in_ok-answer-in-Teach.answer c.in-Teach.is c.known.ensures c.in_ok-answer-in-Teach.ensures.taught) given)
    c.give_answer-in-Teach.ensures.given

pub returns-in_ok-answer-in-Teach-clause-failed : goal.returns-in_ok-answer-in-Teach-clause-failed
returns-in_ok-answer-in-Teach-clause-failed g c =
    IfErr-weaker c.give_answer-in-Teach.result _ _
    (λ error stuck. unanswered c.args.context.now.shards.now (worker c.args.session.now c.args.seat.now c.args.context.now.number c.args.context.now.moment) c.give_answer-in-Teach.new.session c.teach_batch.new.seat c.args.action c.in_ok-answer-in-Teach.answer error (written (g.W.Write.contents c.args.output.now) c.args.writes.now) (written (g.W.Write.contents c.teach_batch.new.output) c.teach_batch.new.writes)
    (teach_done (is_staying c.args.session.now.manner) c.args.context.now.number c.args.context.now.moment c.known.result.now c.args.session.now.session c.args.seat.now c.teach_batch.new.seat c.args.action c.in-Teach.batch (written (g.W.Write.contents c.args.output.now) c.args.writes.now) (written (g.W.Write.contents c.teach_batch.new.output) c.teach_batch.new.writes) c.in_ok-answer-in-Teach.answer c.in-Teach.is c.known.ensures c.in_ok-answer-in-Teach.ensures.taught) stuck)
    c.give_answer-in-Teach.ensures.stuck
