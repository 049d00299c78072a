use Rattle.std.proofs.Common.{◌≡◌, [], List, drop, refl, subst, arith}
use Rattle.std.proofs.lemmas.List.{drop_all}
use Rattle.teach_writer.specs.declared.planned_name.PlannedName.{PlannedName}
use Rattle.teach_writer.specs.declared.planned_name.PlannedName.TheVariants as planned
use Rattle.teach_writer.specs.Pieces.{AreSendable}
use Rattle.teach_writer.proofs.NextPieces.{none_sendable, sendable_here}
use Rattle.teach_writer.proofs.sending.send_next.Goals.{then-index-updates-via-then-index-updates, then-index-updates-via-else-index-updates+then-index-names}
use Rattle.teach_writer.proofs.sending.send_next.Goals as goal

pub returns-then-index-updates-clause-none : goal.returns-then-index-updates-clause-none
returns-then-index-updates-clause-none c = λ end. (none, refl, refl, refl)
  where
    none : drop c.args.index.now c.args.updates.now ≡ []
    none = elim c.then-index-updates.branch [
      | then-index-updates-via-then-index-updates w ↦ drop_all c.args.index.now c.args.updates.now (omega (arith, w.if-index-updates.true))
      | then-index-updates-via-else-index-updates+then-index-names w ↦
          let short : drop c.args.index.now c.args.names.now ≡ [] = drop_all c.args.index.now c.args.names.now (omega (arith, w.if-index-names.true)) in
          none_sendable c.args.known.now.roster c.args.known.now.state (drop c.args.index.now c.args.updates.now)
          (subst (λ (ns : List PlannedName). AreSendable c.args.known.now.roster c.args.known.now.state (drop c.args.index.now c.args.updates.now) ns) short c.requires.sendable)
    ]

pub send_part-requires-clause-sendable : goal.send_part-requires-clause-sendable
send_part-requires-clause-sendable c =
    let first = sendable_here c.args.known.now.roster c.args.known.now.state c.args.updates.now c.args.names.now c.args.index.now c.index-updates-index.result planned.NotStored c.if-index-updates.false c.if-index-names.false c.index-updates-index.is c.requires.sendable in
    first.0
