use Rattle.std.proofs.Common.{ℕ, false, subst}
use Rattle.table_types.specs.declared.copies.CopyKind.TheVariants as kinds
use Rattle.peers_engine.specs.Calls.{IsCopied}
use Rattle.node_commands.proofs.TrackLaws.{copied_worked}
use Rattle.node_commands.proofs.rounds.worker.copy.Goals as goal

pub returns-in-Ok-Copied : goal.returns-in-Ok-Copied
returns-in-Ok-Copied g c =
    let now = c.args.context.now.moment in
    let event = c.in-Ok-Copied.field-0 in
    copied_worked now c.args.seat.now c.copy_batch.new.seat kinds.Push event
    (subst (λ (n : ℕ). IsCopied false n now c.args.seat.now 1 kinds.Push c.copy_batch.new.seat event) c.requires c.in-Ok-Copied.ensures.answer)
