use Rattle.std.proofs.Common.{◌∷◌, [], false, List, sym, subst, ◌∙◌}
use Rattle.table_types.specs.declared.update.Update.{Update}
use Rattle.table_types.specs.Batches.{IsBatchFor}
use Rattle.table_cell.proofs.BatchLaws.{copied_batch}
use Rattle.table_cell.proofs.StepLaws.{copy_granted}
use Rattle.table_cell.proofs.table.Table.batch.Goals as goal

pub of_fitting-requires : goal.of_fitting-requires
of_fitting-requires c =
    let s = c.args.self.now in
    let (granted, is) = c.in-Ok.ensures.copied in
    let found = copy_granted false s c.args.session c.args.kind c.args.limit c.args.now granted in (
      s.definition ∷ [],
      subst (λ (us : List Update). IsBatchFor (s.definition ∷ []) us) (sym is) (copied_batch s c.args.session c.args.kind c.args.limit c.args.now c.requires.sound found.1.later c.requires.limit.1),
    )

pub returns-clause-for_table : goal.returns-clause-for_table
returns-clause-for_table c =
    let s = c.args.self.now in
    let (granted, is) = c.in-Ok.ensures.copied in
    let found = copy_granted false s c.args.session c.args.kind c.args.limit c.args.now granted in
    subst (λ (us : List Update). IsBatchFor (s.definition ∷ []) us) (sym (c.in-Ok-of_fitting.ensures ∙ is)) (copied_batch s c.args.session c.args.kind c.args.limit c.args.now c.requires.sound found.1.later c.requires.limit.1)
