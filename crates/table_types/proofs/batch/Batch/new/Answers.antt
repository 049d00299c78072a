use Rattle.std.proofs.Common.{◌≡◌, ◌≤◌, None, length, rules, sym, ap, ◌∙◌, List}
use Rattle.table_types.specs.declared.update.Update.{Update}
use Rattle.table_types.specs.Batches.{faults_from}
use Rattle.table_types.proofs.BatchIsFaultless.{batch_of_parts}
use Rattle.table_types.proofs.batch.Batch.new.Goals as goal

pub of_fitting-requires : goal.of_fitting-requires
of_fitting-requires c =
    let us : List Update = c.args.updates.items in
    let roster = c.args.roster.now in
    let few : length us ≤ 4096 = search rules in
    let none : faults_from 0 roster us ≡ None = ap (λ (l : List Update). faults_from 0 roster l) (sym c.as_slice.ensures.value) ∙ sym c.fault_of.ensures ∙ c.in_default.is in
    (roster, batch_of_parts roster us few none)

pub returns-clause-made : goal.returns-clause-made
returns-clause-made c =
    let us : List Update = c.args.updates.items in
    let roster = c.args.roster.now in
    let few : length us ≤ 4096 = search rules in
    let none : faults_from 0 roster us ≡ None = ap (λ (l : List Update). faults_from 0 roster l) (sym c.as_slice.ensures.value) ∙ sym c.fault_of.ensures ∙ c.in_default.is in
    (c.in_ok-of_fitting.ensures, batch_of_parts roster us few none)
