use Rattle.std.proofs.Common.{◌≡◌, ◌≢◌, ◌∙◌, Err, IfNone, IfSome, List, Ok, Option, subst, sym, true}
use Rattle.std.proofs.lemmas.Result.{on_ok_weaker}
use Rattle.table_cell.specs.declared.errors.CopyError.{CopyError}
use Rattle.table_cell.specs.declared.errors.CopyError.TheVariants as uncopied
use Rattle.table_cell.specs.Histories.{Copies}
use Rattle.table_types.specs.declared.update.Update.{Update}
use Rattle.interleave_core.specs.Moves.{is_made}
use Rattle.interleave_core.specs.Parts.{IsCellAt, IsConnectionAt}
use Rattle.interleave_core.proofs.Copying.{copied_batch, refused_copy}
use Rattle.interleave_core.proofs.parts.Parts.copy.Goals as goal

pub returns-in-Some-2-clause-moves : goal.returns-in-Some-2-clause-moves
returns-in-Some-2-clause-moves c =
    let cells = c.args.self.now.cells.items in
    let cs = c.args.self.now.connections.items in
    let place : IsConnectionAt c.args.session cs c.in-Some.place = subst (λ xs. IsConnectionAt c.args.session xs c.in-Some.place) c.as_slice.ensures.value c.in-Some.ensures.found in
    let at : IsCellAt c.args.table cells c.in-Some-index_of.index =
    subst (λ xs. IsCellAt c.args.table xs c.in-Some-index_of.index) c.as_slice-2.ensures.value c.in-Some-index_of.ensures.found in
    let copies : Copies c.index_mut.result.now c.args.session c.args.kind c.args.limit c.args.now (Ok c.in-Some-2.batch) c.copy.new.cell =
    subst (λ (o : Option (List Update)). IfSome o (λ batch. Copies c.index_mut.result.now c.args.session c.args.kind c.args.limit c.args.now (Ok batch) c.copy.new.cell)) c.in-Some-2.is c.in_ok-batch.ensures.copied in
    let made : is_made c.args.kind c.args.limit ≡ true = sym c.is_made.ensures.exactly ∙ c.if-not-is_made.false in
    on_ok_weaker c.let_wait.result
    (λ waits.
    copied_batch c.args.session c.args.table c.args.limit c.args.now c.args.kind cells cs c.in-Some-index_of.index c.in-Some.place c.index_mut.result.now c.copy.new.cell
    c.index_mut-in-Some-2.result.now c.let_wait.new.self c.in-Some-2.batch made at c.index_mut.ensures.value place c.index_mut-in-Some-2.ensures.value copies waits)
    c.let_wait.ensures

pub returns-in-None-clause-moves : goal.returns-in-None-clause-moves
returns-in-None-clause-moves c =
    let cells = c.args.self.now.cells.items in
    let cs = c.args.self.now.connections.items in
    let place : IsConnectionAt c.args.session cs c.in-Some.place = subst (λ xs. IsConnectionAt c.args.session xs c.in-Some.place) c.as_slice.ensures.value c.in-Some.ensures.found in
    let at : IsCellAt c.args.table cells c.in-Some-index_of.index =
    subst (λ xs. IsCellAt c.args.table xs c.in-Some-index_of.index) c.as_slice-2.ensures.value c.in-Some-index_of.ensures.found in
    let refused : (error : CopyError) × (error ≢ uncopied.Memory) × Copies c.index_mut.result.now c.args.session c.args.kind c.args.limit c.args.now (Err error) c.copy.new.cell =
    subst (λ (o : Option (List Update)). IfNone o ((error : CopyError) × (error ≢ uncopied.Memory) × Copies c.index_mut.result.now c.args.session c.args.kind c.args.limit c.args.now (Err error) c.copy.new.cell)) c.in-None.is c.in_ok-batch.ensures.refused in
    let made : is_made c.args.kind c.args.limit ≡ true = sym c.is_made.ensures.exactly ∙ c.if-not-is_made.false in
    refused_copy c.args.session c.args.table c.args.limit c.args.now c.args.kind cells cs c.in-Some-index_of.index c.in-Some.place c.index_mut.result.now c.copy.new.cell
    refused.0 made at c.index_mut.ensures.value place refused.1 refused.2
