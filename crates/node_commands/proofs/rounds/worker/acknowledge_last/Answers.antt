use Rattle.std.proofs.Common.{ℕ, subst}
use Rattle.peers_engine.specs.Calls.{IsTaken}
use Rattle.node_commands.proofs.TrackLaws.{taken_worked}
use Rattle.node_commands.proofs.rounds.worker.acknowledge_last.Goals as goal

pub returns-in-Ok-Settled : goal.returns-in-Ok-Settled
returns-in-Ok-Settled g c =
    let number = c.in-Some.last.now.number in
    let event = c.in-Ok-Settled.field-0 in
    taken_worked c.args.seat.now c.acknowledge.new.seat number event
    (subst (λ (n : ℕ). IsTaken n c.args.seat.now 1 number c.acknowledge.new.seat event) c.requires c.in-Ok-Settled.ensures.answer)
