use Rattle.std.proofs.Common.{◌≡◌, List, Some, Result, Ok, Err, set, sym, ap, subst, ◌∙◌}
use Rattle.std.specs.Prelude.{OnOk}
use Rattle.std.proofs.lemmas.Result.{on_ok_weaker}
use Rattle.table_types.specs.declared.key.Key.{Key}
use Rattle.table_types.specs.Rows.{StoredRow}
use Rattle.learner.specs.Front.{with_effect}
use Rattle.learner.specs.Intake.{Taking}
use Rattle.learner.specs.Learning.{Learning}
use Rattle.learner.specs.NewRows.{AreRowsOf}
use Rattle.learner.specs.Rows.{put_all}
use Rattle.learner.proofs.RowsStandByTable.{put_new}
use Rattle.learner.proofs.keeper.Keeper.take_row.Goals as goal

both_on_ok : {T E : Type 0} (P Q : Type 0) (r : Result T E) → OnOk r P → OnOk r Q → OnOk r (P × Q)
both_on_ok P Q (Ok x) p q = (p, q)
both_on_ok P Q (Err e) p q = tt

pub returns-clause-taken : goal.returns-clause-taken
returns-clause-taken c =
    on_ok_weaker c.put.result
    (λ both us now taught.
    let before : Learning = record { intake = c.self.inside.intake; rows = c.self.inside.rows_of_tables.items } in
    let here : AreRowsOf now before.intake.roster us (Some (record { index = c.args.index; key = c.args.key; row = c.args.row })) =
    subst (λ (l : Learning). AreRowsOf now l.intake.roster us (Some (record { index = c.args.index; key = c.args.key; row = c.args.row }))) (sym c.self.view_is) taught in
    let after = put_new now before.intake.roster c.args.index before.rows us c.index_mut.result.now c.put.new.self c.args.key c.args.row c.self.invariant c.index_mut.ensures.value here both.0 in
    let left : Learning = record { intake = c.put.new.intake; rows = set before.rows c.args.index c.put.new.self } in
    let there : left ≡ record { intake = with_effect before.intake c.args.effect; rows = put_all now before.intake.roster us before.rows } =
    ap (λ (t : Taking). record { intake = t; rows = set before.rows c.args.index c.put.new.self }) both.1
    ∙ ap (λ (x : List (List (Key × StoredRow))). record { intake = with_effect before.intake c.args.effect; rows = x }) after in
    subst (λ (l : Learning). left ≡ record { intake = with_effect l.intake c.args.effect; rows = put_all now l.intake.roster us l.rows }) c.self.view_is there)
    (both_on_ok _ _ c.put.result c.put.ensures.put c.put.ensures.made)
