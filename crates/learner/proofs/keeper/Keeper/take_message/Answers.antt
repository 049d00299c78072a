use Rattle.std.proofs.Common.{rules, ◌<◌, ℕ, List, length, drop, Err, refl, subst}
use Rattle.std.specs.Prelude.{IfSome}
use Rattle.std.proofs.lemmas.Result.{err_from_is_err_and}
use Rattle.table_types.specs.declared.update.Update.{Update}
use Rattle.learner.specs.Intake.{rows_of, with_unread}
use Rattle.learner.specs.Front.{owned, with_effect}
use Rattle.learner.specs.NewRows.{AreRowsOf}
use Rattle.learner.specs.Learning.{Learning}
use Rattle.learner.specs.InPlace.{FindsFront}
use Rattle.known_state.proofs.EffectsAreSteps.{effect_unrefused}
use Rattle.learner.proofs.TakingOneMessage.{shown_taken, front_takable}
use Rattle.learner.proofs.RowsStandByTable.{row_within}
use Rattle.learner.proofs.LearningGoesOn.{gives_rows}
use Rattle.learner.proofs.ReadInPlace.{front_runs_out}
use Rattle.learner.proofs.keeper.Keeper.take_message.Goals as goal

pub returns-in_err-row-in-Ok-Some-clause-finds : goal.returns-in_err-row-in-Ok-Some-clause-finds
returns-in_err-row-in-Ok-Some-clause-finds c =
    let before : Learning = record { intake = c.self.inside.intake; rows = c.self.inside.rows_of_tables.items } in
    let bytes : List ℕ = c.args.bytes.now in
    let looks = rw c.in-Ok-Some.field-0-is at c.in-Ok-Some.ensures.looks in
    let takable = front_takable (with_unread before.intake bytes) looks.0 c.in-Ok-Some.advance.used looks.1 (effect_unrefused before.intake.state looks.0 c.in-Ok-Some.advance.effect looks.2) in
    let p = err_from_is_err_and c.from_residual.result c.from_residual.ensures.1 in
    rw (p.1, p.2, ← c.self.view_is) (front_runs_out c.args.now before bytes looks.1.0 takable)

pub take-requires : goal.take-requires
take-requires c =
    subst (λ (l : Learning). IfSome c.in_ok-row-in-Ok-Some.row (λ new. new.index < length l.intake.roster)) c.self.view_is
    (row_within c.args.now c.self.inside.intake.roster (rows_of (owned c.in-Ok-Some.taken)) c.in_ok-row-in-Ok-Some.row (search rules))

pub returns-in_err-take-in-Ok-Some-clause-finds : goal.returns-in_err-take-in-Ok-Some-clause-finds
returns-in_err-take-in-Ok-Some-clause-finds c =
    let before : Learning = record { intake = c.self.inside.intake; rows = c.self.inside.rows_of_tables.items } in
    let bytes : List ℕ = c.args.bytes.now in
    let looks = rw c.in-Ok-Some.field-0-is at c.in-Ok-Some.ensures.looks in
    let takable = front_takable (with_unread before.intake bytes) looks.0 c.in-Ok-Some.advance.used looks.1 (effect_unrefused before.intake.state looks.0 c.in-Ok-Some.advance.effect looks.2) in
    let p = err_from_is_err_and c.from_residual-in_err-take-in-Ok-Some.result c.from_residual-in_err-take-in-Ok-Some.ensures.1 in
    rw (p.1, p.2, c.in_err-take-in-Ok-Some.ensures.stays, ← c.self.view_is) (front_runs_out c.args.now before bytes looks.1.0 takable)

pub returns-in_ok-take-in-Ok-Some-clause-finds : goal.returns-in_ok-take-in-Ok-Some-clause-finds
returns-in_ok-take-in-Ok-Some-clause-finds c =
    let before : Learning = record { intake = c.self.inside.intake; rows = c.self.inside.rows_of_tables.items } in
    let bytes : List ℕ = c.args.bytes.now in
    let looks = rw c.in-Ok-Some.field-0-is at c.in-Ok-Some.ensures.looks in
    let us : List Update = rows_of (owned c.in-Ok-Some.taken) in
    let left = with_unread (with_effect before.intake c.in-Ok-Some.advance.effect) (drop c.in-Ok-Some.advance.used bytes) in
    let gives = shown_taken (with_unread before.intake bytes) left looks.0 c.in-Ok-Some.advance c.in-Ok-Some.taken looks.1 looks.2 looks.3 refl in
    let rows : AreRowsOf c.args.now before.intake.roster us c.in_ok-row-in-Ok-Some.row = search rules in
    let here : AreRowsOf c.args.now c.args.self.now.intake.roster us c.in_ok-row-in-Ok-Some.row = subst (λ (l : Learning). AreRowsOf c.args.now l.intake.roster us c.in_ok-row-in-Ok-Some.row) c.self.view_is rows in
    let after = c.in_ok-take-in-Ok-Some.ensures.taken us c.args.now here in
    rw (after, ← c.self.view_is) (gives_rows c.args.now (record { intake = with_unread before.intake bytes; rows = before.rows }) left (owned c.in-Ok-Some.taken) _ c.rows-rows.result gives refl c.rows-rows.ensures)

pub returns-in-Err-clause-finds : goal.returns-in-Err-clause-finds
returns-in-Err-clause-finds c =
    let before : Learning = record { intake = c.self.inside.intake; rows = c.self.inside.rows_of_tables.items } in
    subst (λ (l : Learning). FindsFront c.args.now l c.args.bytes.now (Err c.in-Err.fault) l) c.self.view_is (c.in-Err.ensures.looks, refl)
