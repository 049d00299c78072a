use Rattle.std.proofs.Common.{◌≡◌, List, ◌∷◌, length}
use Rattle.table_shards.specs.Audits.{AuditState}
use Rattle.node_commands.specs.Rounds.{AreRounds}
use Rattle.node_commands.proofs.rounds.run.Given as goal

abbrev pub invariant-loop-before : goal.invariant-loop-before
invariant-loop-before g l =
    (earlier : List AuditState) × (length (l.audit ∷ earlier) ≡ l.before) × AreRounds l.asked.threads l.asked.tracks (l.audit ∷ earlier)
