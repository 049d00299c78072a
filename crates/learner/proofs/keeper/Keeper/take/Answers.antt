use Rattle.std.proofs.Common.{◌≡◌, List, None, Option, sym, ap, subst, ◌∙◌}
use Rattle.std.proofs.lemmas.Result.{on_ok_weaker}
use Rattle.table_types.specs.declared.key.Key.{Key}
use Rattle.table_types.specs.Rows.{StoredRow}
use Rattle.learner.specs.declared.keeper.NewRow.{NewRow}
use Rattle.learner.specs.Front.{with_effect}
use Rattle.learner.specs.Intake.{Taking}
use Rattle.learner.specs.Learning.{Learning}
use Rattle.learner.specs.NewRows.{AreRowsOf}
use Rattle.learner.specs.Rows.{put_all}
use Rattle.learner.proofs.RowsStandByTable.{put_none}
use Rattle.learner.proofs.keeper.Keeper.take.Goals as goal

pub returns-in-Some-clause-taken : goal.returns-in-Some-clause-taken
returns-in-Some-clause-taken c = rw c.in-Some.is c.take_row.ensures.taken

pub returns-in-None-clause-taken : goal.returns-in-None-clause-taken
returns-in-None-clause-taken c =
    on_ok_weaker c.make.result
    (λ is us now taught.
    let before : Learning = record { intake = c.self.inside.intake; rows = c.self.inside.rows_of_tables.items } in
    let none : AreRowsOf now c.args.self.now.intake.roster us None = subst (λ (row : Option NewRow). AreRowsOf now c.args.self.now.intake.roster us row) c.in-None.is taught in
    let here : AreRowsOf now before.intake.roster us None = subst (λ (l : Learning). AreRowsOf now l.intake.roster us None) (sym c.self.view_is) none in
    let left : Learning = record { intake = c.make.new.self; rows = before.rows } in
    let there : left ≡ record { intake = with_effect before.intake c.args.effect; rows = put_all now before.intake.roster us before.rows } =
    ap (λ (t : Taking). record { intake = t; rows = before.rows }) is
    ∙ ap (λ (x : List (List (Key × StoredRow))). record { intake = with_effect before.intake c.args.effect; rows = x }) (put_none now before.intake.roster before.rows us here) in
    subst (λ (l : Learning). left ≡ record { intake = with_effect l.intake c.args.effect; rows = put_all now l.intake.roster us l.rows }) c.self.view_is there)
    c.make.ensures.made
