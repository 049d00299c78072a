use Rattle.std.proofs.Common.{◌≡◌, ◌++◌, [], List, Ok, false, true, length, refl, sym, ◌∙◌, ap, subst, inl, inr, arith}
use Rattle.peers_devices.proofs.WritingLaws.{writes_nothing}
use Rattle.std.proofs.lemmas.Bool.{eq-eqb, eqb-true, false≢true}
use Rattle.std.proofs.lemmas.List.{nil_from_length}
use Rattle.std.proofs.lemmas.Result.{err_from_is_err_and}
use Rattle.std.specs.List.{list_all}
use Rattle.session_core.specs.Keeping.{KeptSession, progress_in}
use Rattle.session_core.specs.Sessions.{ended}
use Rattle.peers_devices.specs.Writing.{written}
use Rattle.peers_engine.specs.Acting.{stands, worker}
use Rattle.peers_engine.specs.Turns.{is_push}
use Rattle.peers_engine.proofs.TurnLaws.{first_fails, first_went, four_done, four_idle, four_works, idle_of, idle_of_false, later_fails, next_went}
use Rattle.peers_engine.proofs.turning.react.Goals as goal
use Rattle.peers_engine.proofs.turning.react.Goals.{then-may_idle, else-may_idle}

pub returns-in_err-first-clause-failed : goal.returns-in_err-first-clause-failed
returns-in_err-first-clause-failed g c =
    let p = err_from_is_err_and c.from_residual.result c.from_residual.ensures.1 in
    rw (p.1, p.2) (
      [],
      inl ((c.in_err-first.field-0.0, c.in_err-first.ensures.refused, refl), refl, (ap (λ (x : KeptSession). ended x.session) c.in_err-first.ensures.ended, ap (λ (x : KeptSession). x.heard) c.in_err-first.ensures.ended, ap (λ (x : KeptSession). x.counts) c.in_err-first.ensures.ended, ap (λ (x : KeptSession). progress_in x.manner) c.in_err-first.ensures.ended), refl {a = c.args.seat.now}),
      writes_nothing (written (g.W.Write.contents c.args.output.now) c.args.writes.now),
    )

pub returns-in_err-second-clause-failed : goal.returns-in_err-second-clause-failed
returns-in_err-second-clause-failed g c =
    let p = err_from_is_err_and c.from_residual-in_err-second.result c.from_residual-in_err-second.ensures.1 in
    rw (p.1, p.2)
    (first_fails c.args.context.now.shards.now (worker c.args.session.now c.args.seat.now c.args.context.now.number c.args.context.now.moment) c.on.new.self c.do_all.new.session c.do_all.new.seat c.args.event c.in_ok-first.first.items c.in_err-second.field-0.0
    (written (g.W.Write.contents c.args.output.now) c.args.writes.now) (written (g.W.Write.contents c.do_all.new.output) c.do_all.new.writes)
    c.in_ok-first.ensures.steps c.in_err-second.ensures.failed)

pub returns-in_err-third-clause-failed : goal.returns-in_err-third-clause-failed
returns-in_err-third-clause-failed g c =
    let p = err_from_is_err_and c.from_residual-in_err-third.result c.from_residual-in_err-third.ensures.1 in
    rw (p.1, p.2)
    (later_fails c.args.context.now.shards.now (worker c.args.session.now c.args.seat.now c.args.context.now.number c.args.context.now.moment) (worker c.do_all.new.session c.do_all.new.seat c.args.context.now.number c.args.context.now.moment) c.on.new.self c.do_all-2.new.session c.do_all-2.new.seat c.args.event c.in_ok-first.first.items [] c.in_ok-second.second.items c.in_err-third.field-0.0
    (written (g.W.Write.contents c.args.output.now) c.args.writes.now) (written (g.W.Write.contents c.do_all.new.output) c.do_all.new.writes) (written (g.W.Write.contents c.do_all-2.new.output) c.do_all-2.new.writes)
    c.in_ok-first.ensures.steps
    (first_went (stands (worker c.args.session.now c.args.seat.now c.args.context.now.number c.args.context.now.moment) c.on.new.self c.args.seat.now) (worker c.do_all.new.session c.do_all.new.seat c.args.context.now.number c.args.context.now.moment) c.in_ok-first.first.items c.in_ok-second.second.items (written (g.W.Write.contents c.args.output.now) c.args.writes.now) (written (g.W.Write.contents c.do_all.new.output) c.do_all.new.writes) c.in_ok-second.ensures.done)
    c.in_err-third.ensures.failed)

pub returns-in_err-fourth-clause-failed : goal.returns-in_err-fourth-clause-failed
returns-in_err-fourth-clause-failed g c =
    let p = err_from_is_err_and c.from_residual-in_err-fourth.result c.from_residual-in_err-fourth.ensures.1 in
    rw (p.1, p.2)
    (later_fails c.args.context.now.shards.now (worker c.args.session.now c.args.seat.now c.args.context.now.number c.args.context.now.moment) (worker c.do_all-2.new.session c.do_all-2.new.seat c.args.context.now.number c.args.context.now.moment) c.on.new.self c.do_all-3.new.session c.do_all-3.new.seat c.args.event c.in_ok-first.first.items ([] ++ c.in_ok-second.second.items) c.in_ok-third.third.items c.in_err-fourth.field-0.0
    (written (g.W.Write.contents c.args.output.now) c.args.writes.now) (written (g.W.Write.contents c.do_all-2.new.output) c.do_all-2.new.writes) (written (g.W.Write.contents c.do_all-3.new.output) c.do_all-3.new.writes)
    c.in_ok-first.ensures.steps
    (next_went (stands (worker c.args.session.now c.args.seat.now c.args.context.now.number c.args.context.now.moment) c.on.new.self c.args.seat.now) (worker c.do_all.new.session c.do_all.new.seat c.args.context.now.number c.args.context.now.moment) (worker c.do_all-2.new.session c.do_all-2.new.seat c.args.context.now.number c.args.context.now.moment) c.in_ok-first.first.items [] c.in_ok-second.second.items c.in_ok-third.third.items (written (g.W.Write.contents c.args.output.now) c.args.writes.now) (written (g.W.Write.contents c.do_all.new.output) c.do_all.new.writes) (written (g.W.Write.contents c.do_all-2.new.output) c.do_all-2.new.writes) (first_went (stands (worker c.args.session.now c.args.seat.now c.args.context.now.number c.args.context.now.moment) c.on.new.self c.args.seat.now) (worker c.do_all.new.session c.do_all.new.seat c.args.context.now.number c.args.context.now.moment) c.in_ok-first.first.items c.in_ok-second.second.items (written (g.W.Write.contents c.args.output.now) c.args.writes.now) (written (g.W.Write.contents c.do_all.new.output) c.do_all.new.writes) c.in_ok-second.ensures.done) c.in_ok-third.ensures.done)
    c.in_err-fourth.ensures.failed)

pub returns-in_err-do_all-clause-failed : goal.returns-in_err-do_all-clause-failed
returns-in_err-do_all-clause-failed g c =
    let p = err_from_is_err_and c.from_residual-in_err-do_all.result c.from_residual-in_err-do_all.ensures.1 in
    rw (p.1, p.2)
    (later_fails c.args.context.now.shards.now (worker c.args.session.now c.args.seat.now c.args.context.now.number c.args.context.now.moment) (worker c.do_all-3.new.session c.do_all-3.new.seat c.args.context.now.number c.args.context.now.moment) c.on.new.self c.do_all-4.new.session c.do_all-4.new.seat c.args.event c.in_ok-first.first.items (([] ++ c.in_ok-second.second.items) ++ c.in_ok-third.third.items) c.in_ok-fourth.fourth.items c.in_err-do_all.field-0.0
    (written (g.W.Write.contents c.args.output.now) c.args.writes.now) (written (g.W.Write.contents c.do_all-3.new.output) c.do_all-3.new.writes) (written (g.W.Write.contents c.do_all-4.new.output) c.do_all-4.new.writes)
    c.in_ok-first.ensures.steps
    (next_went (stands (worker c.args.session.now c.args.seat.now c.args.context.now.number c.args.context.now.moment) c.on.new.self c.args.seat.now) (worker c.do_all-2.new.session c.do_all-2.new.seat c.args.context.now.number c.args.context.now.moment) (worker c.do_all-3.new.session c.do_all-3.new.seat c.args.context.now.number c.args.context.now.moment) c.in_ok-first.first.items ([] ++ c.in_ok-second.second.items) c.in_ok-third.third.items c.in_ok-fourth.fourth.items (written (g.W.Write.contents c.args.output.now) c.args.writes.now) (written (g.W.Write.contents c.do_all-2.new.output) c.do_all-2.new.writes) (written (g.W.Write.contents c.do_all-3.new.output) c.do_all-3.new.writes) (next_went (stands (worker c.args.session.now c.args.seat.now c.args.context.now.number c.args.context.now.moment) c.on.new.self c.args.seat.now) (worker c.do_all.new.session c.do_all.new.seat c.args.context.now.number c.args.context.now.moment) (worker c.do_all-2.new.session c.do_all-2.new.seat c.args.context.now.number c.args.context.now.moment) c.in_ok-first.first.items [] c.in_ok-second.second.items c.in_ok-third.third.items (written (g.W.Write.contents c.args.output.now) c.args.writes.now) (written (g.W.Write.contents c.do_all.new.output) c.do_all.new.writes) (written (g.W.Write.contents c.do_all-2.new.output) c.do_all-2.new.writes) (first_went (stands (worker c.args.session.now c.args.seat.now c.args.context.now.number c.args.context.now.moment) c.on.new.self c.args.seat.now) (worker c.do_all.new.session c.do_all.new.seat c.args.context.now.number c.args.context.now.moment) c.in_ok-first.first.items c.in_ok-second.second.items (written (g.W.Write.contents c.args.output.now) c.args.writes.now) (written (g.W.Write.contents c.do_all.new.output) c.do_all.new.writes) c.in_ok-second.ensures.done) c.in_ok-third.ensures.done) c.in_ok-fourth.ensures.done)
    c.in_err-do_all.ensures.failed)

pub returns-clause-done : goal.returns-clause-done
returns-clause-done g c =
    four_done (worker c.args.session.now c.args.seat.now c.args.context.now.number c.args.context.now.moment) (worker c.do_all.new.session c.do_all.new.seat c.args.context.now.number c.args.context.now.moment) (worker c.do_all-2.new.session c.do_all-2.new.seat c.args.context.now.number c.args.context.now.moment) (worker c.do_all-3.new.session c.do_all-3.new.seat c.args.context.now.number c.args.context.now.moment) (worker c.do_all-4.new.session c.do_all-4.new.seat c.args.context.now.number c.args.context.now.moment) c.on.new.self c.args.event
    c.in_ok-first.first.items c.in_ok-second.second.items c.in_ok-third.third.items c.in_ok-fourth.fourth.items c.in_ok-do_all.field-0.items
    (written (g.W.Write.contents c.args.output.now) c.args.writes.now) (written (g.W.Write.contents c.do_all.new.output) c.do_all.new.writes) (written (g.W.Write.contents c.do_all-2.new.output) c.do_all-2.new.writes) (written (g.W.Write.contents c.do_all-3.new.output) c.do_all-3.new.writes) (written (g.W.Write.contents c.do_all-4.new.output) c.do_all-4.new.writes)
    c.in_ok-first.ensures.steps c.in_ok-second.ensures.done c.in_ok-third.ensures.done c.in_ok-fourth.ensures.done c.in_ok-do_all.ensures.done

pub returns-clause-idle : goal.returns-clause-idle
returns-clause-idle g c = λ is.
    let idle = idle_of (Ok c.if-may_idle.is_idle) is in
    elim c.if-may_idle.branch [
      | then-may_idle w ↦
          let pushes : list_all is_push c.as_slice.result.now ≡ true = sym c.are_pushes-may_idle.ensures ∙ w.if-may_idle.true in
          let empty = eqb-true _ _ (sym w.is_empty-is_idle.ensures ∙ (sym w.is_idle-is ∙ idle)) in
          four_idle (worker c.args.session.now c.args.seat.now c.args.context.now.number c.args.context.now.moment) (worker c.do_all.new.session c.do_all.new.seat c.args.context.now.number c.args.context.now.moment) (worker c.do_all-2.new.session c.do_all-2.new.seat c.args.context.now.number c.args.context.now.moment) (worker c.do_all-3.new.session c.do_all-3.new.seat c.args.context.now.number c.args.context.now.moment) (worker c.do_all-4.new.session c.do_all-4.new.seat c.args.context.now.number c.args.context.now.moment) c.on.new.self c.args.event
          c.in_ok-first.first.items c.in_ok-second.second.items c.in_ok-third.third.items c.in_ok-fourth.fourth.items c.in_ok-do_all.field-0.items
          (written (g.W.Write.contents c.args.output.now) c.args.writes.now) (written (g.W.Write.contents c.do_all.new.output) c.do_all.new.writes) (written (g.W.Write.contents c.do_all-2.new.output) c.do_all-2.new.writes) (written (g.W.Write.contents c.do_all-3.new.output) c.do_all-3.new.writes) (written (g.W.Write.contents c.do_all-4.new.output) c.do_all-4.new.writes)
          c.in_ok-first.ensures.steps c.in_ok-second.ensures.done c.in_ok-third.ensures.done c.in_ok-fourth.ensures.done c.in_ok-do_all.ensures.done
          (subst (λ acts. list_all is_push acts ≡ true) c.as_slice.ensures.value pushes)
          (nil_from_length c.in_ok-second.second.items (omega (arith, c.in_ok-second.second.ok, empty)))
      | else-may_idle w ↦ absurd (false≢true (sym w.if-may_idle.false ∙ (sym w.is_idle-is ∙ idle)))
    ]

pub returns-clause-busy : goal.returns-clause-busy
returns-clause-busy g c = λ is.
    let busy = idle_of_false (Ok c.if-may_idle.is_idle) is in
    let works = four_works (worker c.args.session.now c.args.seat.now c.args.context.now.number c.args.context.now.moment) (worker c.do_all.new.session c.do_all.new.seat c.args.context.now.number c.args.context.now.moment) (worker c.do_all-2.new.session c.do_all-2.new.seat c.args.context.now.number c.args.context.now.moment) (worker c.do_all-3.new.session c.do_all-3.new.seat c.args.context.now.number c.args.context.now.moment) (worker c.do_all-4.new.session c.do_all-4.new.seat c.args.context.now.number c.args.context.now.moment) c.on.new.self c.args.event
    c.in_ok-first.first.items c.in_ok-second.second.items c.in_ok-third.third.items c.in_ok-fourth.fourth.items c.in_ok-do_all.field-0.items
    (written (g.W.Write.contents c.args.output.now) c.args.writes.now) (written (g.W.Write.contents c.do_all.new.output) c.do_all.new.writes) (written (g.W.Write.contents c.do_all-2.new.output) c.do_all-2.new.writes) (written (g.W.Write.contents c.do_all-3.new.output) c.do_all-3.new.writes) (written (g.W.Write.contents c.do_all-4.new.output) c.do_all-4.new.writes)
    c.in_ok-first.ensures.steps c.in_ok-second.ensures.done c.in_ok-third.ensures.done c.in_ok-fourth.ensures.done c.in_ok-do_all.ensures.done in
    elim c.if-may_idle.branch [
      | then-may_idle w ↦
          let filled = sym w.is_empty-is_idle.ensures ∙ (sym w.is_idle-is ∙ busy) in
          works (inr (λ none.
          let zero : length c.in_ok-second.second.items ≡ 0 = ap length none in
          absurd (false≢true (sym filled ∙ eq-eqb _ _ (omega (arith, c.in_ok-second.second.ok, zero))))))
      | else-may_idle w ↦
          works (inl (subst (λ acts. list_all is_push acts ≡ false) c.as_slice.ensures.value (sym c.are_pushes-may_idle.ensures ∙ w.if-may_idle.false)))
    ]

pub returns-in_err-second-clause-refused : goal.returns-in_err-second-clause-refused
returns-in_err-second-clause-refused g c = λ why some is. let bad : ⊥ = cc (sym c.in_ok-first.was ∙ c.on.ensures.exactly why some is) in absurd bad

pub returns-in_err-third-clause-refused : goal.returns-in_err-third-clause-refused
returns-in_err-third-clause-refused g c = λ why some is. let bad : ⊥ = cc (sym c.in_ok-first.was ∙ c.on.ensures.exactly why some is) in absurd bad

pub returns-in_err-fourth-clause-refused : goal.returns-in_err-fourth-clause-refused
returns-in_err-fourth-clause-refused g c = λ why some is. let bad : ⊥ = cc (sym c.in_ok-first.was ∙ c.on.ensures.exactly why some is) in absurd bad

pub returns-in_err-do_all-clause-refused : goal.returns-in_err-do_all-clause-refused
returns-in_err-do_all-clause-refused g c = λ why some is. let bad : ⊥ = cc (sym c.in_ok-first.was ∙ c.on.ensures.exactly why some is) in absurd bad
